use Rattle.std.proofs.Common.{sym, ap, ◌∙◌, arith, []}
use Rattle.seat_rules.specs.Places.{Place}
use Rattle.seat_rules.specs.Steps.{hosting}
use Rattle.seat_rules.specs.Views.{view_of}
use Rattle.seat_rules.proofs.Joining.{joins, looks}
use Rattle.seat_rules.proofs.Parting.{reads}
use Rattle.seat_rules.proofs.session_seat.SessionSeat.read.Goals as goal

pub join_seat-requires : goal.join_seat-requires
join_seat-requires g c =
    let w = c.table.invariant in
    let place = ap (λ (p : Place). p.table) (c.table.view_is ∙ c.requires.table) in
    let t = c.into_seat.ensures in
    (c.take-seat.ensures.seat.0 ∙ sym place, t.0 ∙ sym place, ap (λ m. m.1) t.1, omega arith, joins _ _ _ _ _)

pub load-requires : goal.load-requires
load-requires g c =
    let w = c.table.invariant in
    let place = ap (λ (p : Place). p.table) (c.table.view_is ∙ c.requires.table) in
    (c.join_seat.ensures.0 ∙ (c.take-seat.ensures.seat.0 ∙ sym place), omega arith, looks _ _ _ _)

pub split_seat-left-requires : goal.split_seat-left-requires
split_seat-left-requires g c =
    let w = c.table.invariant in
    let place = ap (λ (p : Place). p.table) (c.table.view_is ∙ c.requires.table) in
    let r = c.requires.two in
    let mine = ap (λ m. m.0) c.take-seat.ensures.seat.1 ∙ ap (λ gs. view_of [] gs []) r.2 in
    let theirs = ap (λ m. m.0) c.into_seat.ensures.1 ∙ ap (λ ls. view_of [] [] ls) (c.take.ensures.seat ∙ r.3) in
    let now = ap (λ m. m.0) (c.load.ensures.2.0 ∙ c.join_seat.ensures.2) ∙ (λ i. hosting (mine i) (theirs i)) in
    (c.load.ensures.0 ∙ (c.join_seat.ensures.0 ∙ (c.take-seat.ensures.seat.0 ∙ sym place)), omega arith, reads _ _ r.0 r.1 _ r.4 now)
