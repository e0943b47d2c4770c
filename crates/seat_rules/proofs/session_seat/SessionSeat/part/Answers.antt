use Rattle.std.proofs.Common.{sym, ap, ◌∙◌, arith, []}
use Rattle.seat_rules.specs.Places.{Place}
use Rattle.seat_rules.specs.Views.{view_of}
use Rattle.seat_rules.proofs.Parting.{parts}
use Rattle.seat_rules.proofs.session_seat.SessionSeat.part.Goals as goal

pub split_seat-leaver-requires : goal.split_seat-leaver-requires
split_seat-leaver-requires g c =
    let w = c.table.invariant in
    let place = ap (λ (p : Place). p.table) (c.table.view_is ∙ c.requires.table) in
    let t = c.take-seat.ensures.seat in
    let r = c.requires.two in
    (t.0 ∙ sym place, omega arith, parts _ _ r.0 r.1 _ (ap (λ m. m.0) t.1 ∙ ap (λ gs. view_of [] gs []) r.2))
