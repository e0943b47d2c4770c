use Rattle.std.proofs.Common.{sym, ap, ◌∙◌, arith}
use Rattle.seat_rules.specs.Places.{Place}
use Rattle.seat_rules.proofs.Glancing.{glances}
use Rattle.seat_rules.proofs.session_seat.SessionSeat.glance.Goals as goal

pub load-count-requires : goal.load-count-requires
load-count-requires g c =
    let w = c.table.invariant in
    let place = ap (λ (p : Place). p.table) (c.table.view_is ∙ c.requires.table) in
    (c.take-seat.ensures.seat.0 ∙ sym place, omega arith, glances _ _ _ _)
