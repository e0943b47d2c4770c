use Rattle.std.proofs.Common.{◌≡◌, ◌++◌, map, drop}
use Rattle.std.specs.List.{flat_map}
use Rattle.batch_history.specs.Restarts.{kept_partitions}
use Rattle.restart_rules.specs.Restarting.{earlier_works, job_step}
use Rattle.restart_rules.proofs.plan.add_kept_partitions.Given as goal

abbrev pub invariant-loop-one : goal.invariant-loop-one
invariant-loop-one l =
    l.kept ++ flat_map (kept_partitions (earlier_works l.earlier)) (map job_step (drop l.one-index l.steps))
    ≡ l.fn.kept ++ flat_map (kept_partitions (earlier_works l.earlier)) (map job_step l.steps)
