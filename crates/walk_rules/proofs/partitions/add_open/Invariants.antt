use Rattle.std.proofs.Common.{◌≡◌, ◌++◌, drop}
use Rattle.walk_rules.specs.Walk.{is_left, is_busy, keys_with}
use Rattle.walk_rules.proofs.partitions.add_open.Given as goal

abbrev pub invariant-loop-one : goal.invariant-loop-one
invariant-loop-one l =
    (l.ready ++ keys_with is_left (drop l.one-index l.partitions) ≡ l.initial.ready ++ keys_with is_left l.partitions)
    × (l.busy ++ keys_with is_busy (drop l.one-index l.partitions) ≡ l.initial.busy ++ keys_with is_busy l.partitions)
