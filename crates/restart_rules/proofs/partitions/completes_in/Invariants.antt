use Rattle.std.proofs.Common.{◌≡◌, map, drop}
use Rattle.batch_history.specs.Partitions.{completes_in}
use Rattle.restart_rules.proofs.partitions.completes_in.Given as goal

abbrev pub invariant-loop-row : goal.invariant-loop-row
invariant-loop-row l =
    completes_in (map (λ row. row.now) (drop l.row-index l.works)) l.y l.partition ≡ completes_in (map (λ row. row.now) l.works) l.y l.partition
