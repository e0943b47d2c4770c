use Rattle.std.proofs.Common.{◌≡◌, ◌≤◌, map, drop, length}
use Rattle.batch_history.specs.Partitions.{done_among}
use Rattle.restart_rules.proofs.partitions.done_among.Given as goal

abbrev pub invariant-loop-place : goal.invariant-loop-place
invariant-loop-place l =
    (l.place ≤ length l.executions) × (l.done.items ≡ done_among l.count (map (λ row. row.now) l.works) (drop l.place l.executions))

abbrev pub decreases-loop-place : goal.decreases-loop-place
decreases-loop-place l = l.place
