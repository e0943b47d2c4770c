use Rattle.seat_rules.proofs.desk_seat.DeskSeat.append.Given as goal

abbrev pub ghosts-append_as : goal.ghosts-append_as
ghosts-append_as g a = record { entry = a.entry.now }
