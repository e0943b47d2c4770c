use Rattle.std.proofs.Common.{sym, ap, ◌∙◌, arith}
use Rattle.seat_rules.specs.Places.{Place}
use Rattle.seat_rules.proofs.Parting.{makes_copy}
use Rattle.seat_rules.proofs.desk_seat.DeskSeat.copy_seat.Goals as goal

pub split_seat-requires : goal.split_seat-requires
split_seat-requires g c =
    let i = c.self.invariant in
    let w = c.table.invariant in
    let place = ap (λ (p : Place). p.table) (c.table.view_is ∙ c.requires.table) in
    (i.0 ∙ sym place, omega arith, makes_copy _ _ _)
