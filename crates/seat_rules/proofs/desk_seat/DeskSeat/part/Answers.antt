use Rattle.std.proofs.Common.{sym, ap, ◌∙◌, arith}
use Rattle.seat_rules.specs.Places.{Place}
use Rattle.seat_rules.proofs.Parting.{leaves}
use Rattle.seat_rules.proofs.desk_seat.DeskSeat.part.Goals as goal

pub split_seat-requires : goal.split_seat-requires
split_seat-requires g c =
    let i = c.self.invariant in
    let w = c.table.invariant in
    let place = ap (λ (p : Place). p.table) (c.table.view_is ∙ c.requires.table) in
    (i.0 ∙ sym place, omega arith, leaves _ _ _ _ _ _ c.self.inside.seat.me.0 (ap (λ m. m.0) i.1))
