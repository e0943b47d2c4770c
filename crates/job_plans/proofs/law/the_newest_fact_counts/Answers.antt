use Rattle.job_plans.proofs.Shown.{shown-known}
use Rattle.job_plans.proofs.Newest.{newest-one, newest-others}
use Rattle.job_plans.proofs.law.the_newest_fact_counts.Goals as goal

pub returns : goal.returns
returns c = record { known = shown-known; one = newest-one; others = newest-others }
