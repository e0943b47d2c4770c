use Rattle.program_calls.proofs.pools.run_pools.Given as goal

abbrev pub ghosts-answer_at : goal.ghosts-answer_at
ghosts-answer_at g a = record { place = a.table }
