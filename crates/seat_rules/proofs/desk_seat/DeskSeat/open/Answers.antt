use Rattle.std.proofs.Common.{◌≡◌, sym, ap, ◌∙◌, arith, []}
use Rattle.seat_rules.specs.Places.{Known, Place, known}
use Rattle.seat_rules.specs.Views.{desk_view, known_in}
use Rattle.seat_rules.proofs.Opening.{opens}
use Rattle.seat_rules.proofs.desk_seat.DeskSeat.open.Goals as goal

pub split_seat-requires : goal.split_seat-requires
split_seat-requires g c =
    let i = c.self.invariant in
    let w = c.table.invariant in
    let k = known_in c.self.inside.seat.me.0 in
    let alone : k.sessions ≡ [] = ap (λ (x : Known). x.sessions) c.self.view_is ∙ c.requires.alone in
    let place = ap (λ (p : Place). p.table) (c.table.view_is ∙ c.requires.table) in
    (i.0 ∙ sym place, omega arith, opens _ _ k.log k.last k.copies c.self.inside.seat.me.0 (ap (λ m. m.0) i.1 ∙ ap (λ gs. desk_view (known k.log k.last gs k.copies)) alone))
