use Rattle.std.proofs.Common.{sym, ap, ◌∙◌, arith}
use Rattle.seat_rules.specs.Places.{Place}
use Rattle.seat_rules.proofs.Stopping.{reads_stop_word}
use Rattle.seat_rules.proofs.session_seat.SessionSeat.read_stop.Goals as goal

pub load-found-requires : goal.load-found-requires
load-found-requires g c =
    let w = c.table.invariant in
    let b = c.stop_word.ensures.place in
    let place = ap (λ (p : Place). p.table) (c.table.view_is ∙ c.requires.table) in
    (c.take-seat.ensures.seat.0 ∙ sym place, omega arith, reads_stop_word _ _ _ _ _ b.0)
