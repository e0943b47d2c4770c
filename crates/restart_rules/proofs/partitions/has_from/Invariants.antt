use Rattle.std.proofs.Common.{◌≡◌, nat_le, drop}
use Rattle.std.specs.List.{list_any}
use Rattle.restart_rules.proofs.partitions.has_from.Given as goal

abbrev pub invariant-loop-y : goal.invariant-loop-y
invariant-loop-y l =
    list_any (λ y. nat_le l.x y) (drop l.y-index l.executions) ≡ list_any (λ y. nat_le l.x y) l.executions
