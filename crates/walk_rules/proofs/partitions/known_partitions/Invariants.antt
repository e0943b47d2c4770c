use Rattle.std.proofs.Common.{◌≡◌, map}
use Rattle.walk_rules.specs.Keys.{key_of, numbers_to}
use Rattle.walk_rules.specs.Walk.{fact_of, known_of}
use Rattle.walk_rules.proofs.partitions.known_partitions.Given as goal

abbrev pub invariant-loop-partition : goal.invariant-loop-partition
invariant-loop-partition l = l.partitions.items ≡ known_of (fact_of l.known) (map (key_of l.id) (numbers_to l.partition))
