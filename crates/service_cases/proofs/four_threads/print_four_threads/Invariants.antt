use Rattle.service_cases.proofs.four_threads.print_four_threads.Given as goal

abbrev pub ghosts-run : goal.ghosts-run
ghosts-run g a = record { place = a.table }
