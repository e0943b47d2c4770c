use Rattle.worker_cases.proofs.built_ins.print_built_ins.Given as goal

abbrev pub ghosts-run_named : goal.ghosts-run_named
ghosts-run_named g a = record { place = a.table }
