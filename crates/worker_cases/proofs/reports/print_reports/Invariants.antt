use Rattle.worker_cases.proofs.reports.print_reports.Given as goal

abbrev pub ghosts-run_by_a_worker : goal.ghosts-run_by_a_worker
ghosts-run_by_a_worker g a = record { place = a.table }

abbrev pub ghosts-run_by_a_pool : goal.ghosts-run_by_a_pool
ghosts-run_by_a_pool g a = record { place = a.table }
