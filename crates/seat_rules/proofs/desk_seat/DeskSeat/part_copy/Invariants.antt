use Rattle.seat_rules.proofs.desk_seat.DeskSeat.part_copy.Given as goal

abbrev pub ghosts-part_copy_as : goal.ghosts-part_copy_as
ghosts-part_copy_as g a = record { absorbed = a.absorbed }
