use Rattle.std.proofs.Common.{sym, ap, ◌∙◌, arith}
use Rattle.seat_rules.specs.Places.{Place}
use Rattle.seat_rules.proofs.Joining.{joins, looks}
use Rattle.seat_rules.proofs.session_seat.SessionSeat.host.Goals as goal

pub join_seat-requires : goal.join_seat-requires
join_seat-requires g c =
    let w = c.table.invariant in
    let place = ap (λ (p : Place). p.table) (c.table.view_is ∙ c.requires.table) in
    let t = c.take.ensures.seat in
    (c.take-seat.ensures.seat.0 ∙ sym place, t.0 ∙ sym place, ap (λ m. m.1) t.1, omega arith, joins _ _ _ _ _)

pub load-requires : goal.load-requires
load-requires g c =
    let w = c.table.invariant in
    let place = ap (λ (p : Place). p.table) (c.table.view_is ∙ c.requires.table) in
    (c.join_seat.ensures.0 ∙ (c.take-seat.ensures.seat.0 ∙ sym place), omega arith, looks _ _ _ _)
