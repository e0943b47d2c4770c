use Rattle.repository_calls.proofs.copies.run_copies.Given as goal

abbrev pub ghosts-answer_at : goal.ghosts-answer_at
ghosts-answer_at g a = record { place = a.table }
