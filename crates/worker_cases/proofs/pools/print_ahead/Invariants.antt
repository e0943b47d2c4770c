use Rattle.worker_cases.proofs.pools.print_ahead.Given as goal

abbrev pub ghosts-run_by_two : goal.ghosts-run_by_two
ghosts-run_by_two g a = record { place = a.table }
