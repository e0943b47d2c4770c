use Rattle.std.proofs.Common.{◌≡◌, drop}
use Rattle.job_plans.specs.Plans.{carried_exit}
use Rattle.job_walk.proofs.first_facts.find_carried.Given as goal

abbrev pub invariant-loop-step : goal.invariant-loop-step
invariant-loop-step l = carried_exit (drop l.step-index l.carried) l.id ≡ carried_exit l.carried l.id
