use Rattle.std.proofs.Common.{◌≡◌, map, take}
use Rattle.batch_history.specs.Partitions.{executions_with}
use Rattle.restart_rules.proofs.partitions.executions_with.Given as goal

abbrev pub invariant-loop-row : goal.invariant-loop-row
invariant-loop-row l =
    l.executions.items ≡ executions_with (map (λ row. row.now) (take l.row-index l.works))
