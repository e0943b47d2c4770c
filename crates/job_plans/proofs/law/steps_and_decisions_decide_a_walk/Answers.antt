use Rattle.job_plans.proofs.Agreeing.{value-same, element-same}
use Rattle.job_plans.proofs.law.steps_and_decisions_decide_a_walk.Goals as goal

pub returns : goal.returns
returns c = record { value = value-same; element = element-same }
