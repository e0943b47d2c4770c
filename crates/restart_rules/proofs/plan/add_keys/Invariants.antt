use Rattle.std.proofs.Common.{◌≡◌, ◌++◌, map, drop}
use Rattle.walk_rules.specs.Keys.{key_of}
use Rattle.restart_rules.proofs.plan.add_keys.Given as goal

abbrev pub invariant-loop-partition : goal.invariant-loop-partition
invariant-loop-partition l =
    l.kept ++ map (key_of l.id) (drop l.partition-index l.numbers) ≡ l.fn.kept ++ map (key_of l.id) l.numbers
