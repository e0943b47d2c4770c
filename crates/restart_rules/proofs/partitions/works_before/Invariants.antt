use Rattle.std.proofs.Common.{◌≡◌, ◌++◌, map, drop}
use Rattle.batch_history.specs.Partitions.{works_before}
use Rattle.restart_rules.proofs.partitions.works_before.Given as goal

abbrev pub invariant-loop-row : goal.invariant-loop-row
invariant-loop-row l =
    map (λ row. row.now) l.before.items ++ works_before l.y (map (λ row. row.now) (drop l.row-index l.works))
    ≡ works_before l.y (map (λ row. row.now) l.works)
