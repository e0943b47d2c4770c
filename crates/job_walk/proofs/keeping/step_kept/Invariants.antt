use Rattle.std.proofs.Common.{◌≡◌, map}
use Rattle.walk_rules.specs.Keys.{key_of, numbers_to}
use Rattle.walk_rules.specs.Walk.{fact_of, known_of}
use Rattle.job_walk.proofs.keeping.step_kept.Given as goal

abbrev pub invariant-loop-partition : goal.invariant-loop-partition
invariant-loop-partition l = l.facts.items ≡ known_of (fact_of l.known) (map (key_of l.id) (numbers_to l.partition))
