use Rattle.std.proofs.Common.{◌≡◌, ◌-◌, ◌≤◌, map}
use Rattle.std.specs.List.{list_any, range_with_len}
use Rattle.batch_history.specs.StepExecutions.{is_left}
use Rattle.seq_repository.proofs.steps.any_left.Given as goal

abbrev pub invariant-loop-partition : goal.invariant-loop-partition
invariant-loop-partition l =
    (l.partition ≤ l.count)
    × (list_any (is_left l.owner.plan l.step (map (λ row. row.now) l.items)) (range_with_len l.partition (l.count - l.partition))
    ≡ list_any (is_left l.owner.plan l.step (map (λ row. row.now) l.items)) (range_with_len 0 l.count))
