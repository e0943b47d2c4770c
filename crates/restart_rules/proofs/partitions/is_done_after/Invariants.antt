use Rattle.std.proofs.Common.{◌≡◌, ◌-◌, ◌≤◌, map}
use Rattle.std.specs.List.{range_with_len}
use Rattle.restart_rules.proofs.Keeping.{are_over}
use Rattle.restart_rules.proofs.partitions.is_done_after.Given as goal

abbrev pub invariant-loop-partition : goal.invariant-loop-partition
invariant-loop-partition l =
    (l.partition ≤ l.count)
    × (are_over l.done (map (λ row. row.now) l.before.items) (map (λ row. row.now) l.works) l.y (range_with_len l.partition (l.count - l.partition))
    ≡ are_over l.done (map (λ row. row.now) l.before.items) (map (λ row. row.now) l.works) l.y (range_with_len 0 l.count))
