use Rattle.worker_cases.proofs.refused_pools.print_refused_pools.Given as goal

abbrev pub ghosts-run_pool : goal.ghosts-run_pool
ghosts-run_pool g a = record { place = a.table }
