use Rattle.service_tests.proofs.crowds.each_of_eight_threads_gets_the_lock_each_time.Given as goal

abbrev pub ghosts-run_crowd : goal.ghosts-run_crowd
ghosts-run_crowd g a = record { place = a.table }
