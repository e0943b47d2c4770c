use Rattle.std.proofs.Common.{◌≡◌, ◌++◌, map, drop}
use Rattle.std.specs.List.{filter_map}
use Rattle.batch_history.specs.Restarts.{carried_step}
use Rattle.restart_rules.specs.Restarting.{earlier_works, job_step}
use Rattle.restart_rules.proofs.plan.add_carried_steps.Given as goal

abbrev pub invariant-loop-one : goal.invariant-loop-one
invariant-loop-one l =
    l.carried ++ filter_map (carried_step (earlier_works l.earlier)) (map job_step (drop l.one-index l.steps))
    ≡ l.fn.carried ++ filter_map (carried_step (earlier_works l.earlier)) (map job_step l.steps)
