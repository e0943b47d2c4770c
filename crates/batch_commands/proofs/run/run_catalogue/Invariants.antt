use Rattle.batch_commands.proofs.run.run_catalogue.Given as goal

abbrev pub ghosts-run_over : goal.ghosts-run_over
ghosts-run_over g a = record { place = a.table }
