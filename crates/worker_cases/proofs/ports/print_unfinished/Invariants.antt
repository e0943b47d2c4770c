use Rattle.worker_cases.proofs.ports.print_unfinished.Given as goal

abbrev pub ghosts-run_unfinished : goal.ghosts-run_unfinished
ghosts-run_unfinished g a = record { place = a.table }
