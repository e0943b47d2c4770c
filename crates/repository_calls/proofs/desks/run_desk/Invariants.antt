use Rattle.repository_calls.proofs.desks.run_desk.Given as goal

abbrev pub ghosts-answer_on : goal.ghosts-answer_on
ghosts-answer_on g a = record { place = a.table }
