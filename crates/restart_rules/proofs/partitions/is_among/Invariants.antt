use Rattle.std.proofs.Common.{◌≡◌, ◌==◌, drop}
use Rattle.std.specs.List.{list_any}
use Rattle.restart_rules.proofs.partitions.is_among.Given as goal

abbrev pub invariant-loop-y : goal.invariant-loop-y
invariant-loop-y l =
    list_any (λ y. y == l.x) (drop l.y-index l.executions) ≡ list_any (λ y. y == l.x) l.executions
