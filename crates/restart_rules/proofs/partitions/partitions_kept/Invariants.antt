use Rattle.std.proofs.Common.{◌≡◌, ◌++◌, ◌-◌, ◌≤◌, map, filter}
use Rattle.std.specs.List.{range_with_len}
use Rattle.batch_history.specs.Partitions.{is_kept_after}
use Rattle.restart_rules.proofs.partitions.partitions_kept.Given as goal

abbrev pub invariant-loop-partition : goal.invariant-loop-partition
invariant-loop-partition l =
    (l.partition ≤ l.count)
    × (l.kept.items ++ filter (is_kept_after l.done.items (map (λ row. row.now) l.works)) (range_with_len l.partition (l.count - l.partition))
    ≡ filter (is_kept_after l.done.items (map (λ row. row.now) l.works)) (range_with_len 0 l.count))
