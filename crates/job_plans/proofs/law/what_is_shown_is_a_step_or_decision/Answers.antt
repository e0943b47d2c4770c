use Rattle.job_plans.proofs.Shown.{ready-leaf, busy-leaf}
use Rattle.job_plans.proofs.law.what_is_shown_is_a_step_or_decision.Goals as goal

pub returns : goal.returns
returns c = record { ready = ready-leaf; busy = busy-leaf }
