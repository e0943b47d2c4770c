use Rattle.repository_calls.proofs.operators.run_operator.Given as goal

abbrev pub ghosts-answer_at : goal.ghosts-answer_at
ghosts-answer_at g a = record { place = a.table }
