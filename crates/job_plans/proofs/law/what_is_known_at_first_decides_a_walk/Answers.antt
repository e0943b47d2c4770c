use Rattle.job_plans.proofs.Beginning.{resumed-value}
use Rattle.job_plans.proofs.law.what_is_known_at_first_decides_a_walk.Goals as goal

pub returns : goal.returns
returns c = resumed-value
