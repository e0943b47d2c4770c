use Rattle.std.proofs.Common.{◌≡◌, ◌++◌, map, drop, filter}
use Rattle.batch_history.specs.JobSteps.{JobStep}
use Rattle.batch_history.specs.Restarts.{is_barred}
use Rattle.restart_rules.specs.Restarting.{earlier_works, job_step}
use Rattle.restart_rules.proofs.plan.add_barred_steps.Given as goal

abbrev pub invariant-loop-one : goal.invariant-loop-one
invariant-loop-one l =
    l.barred ++ map (λ (s : JobStep). s.id) (filter (is_barred (earlier_works l.earlier)) (map job_step (drop l.one-index l.steps)))
    ≡ l.fn.barred ++ map (λ (s : JobStep). s.id) (filter (is_barred (earlier_works l.earlier)) (map job_step l.steps))
