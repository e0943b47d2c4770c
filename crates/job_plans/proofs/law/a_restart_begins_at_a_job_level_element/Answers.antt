use Rattle.job_plans.proofs.Points.{checked-point}
use Rattle.job_plans.proofs.law.a_restart_begins_at_a_job_level_element.Goals as goal

pub returns : goal.returns
returns c = checked-point
