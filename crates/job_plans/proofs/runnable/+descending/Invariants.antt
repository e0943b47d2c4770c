use Rattle.job_plans.proofs.runnable.+descending.Given as goal

abbrev pub decreases-list_with : goal.decreases-list_with
decreases-list_with l = l.most
