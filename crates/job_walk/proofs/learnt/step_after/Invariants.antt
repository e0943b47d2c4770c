use Rattle.std.proofs.Common.{◌≡◌, map}
use Rattle.walk_rules.specs.Keys.{key_of, numbers_to}
use Rattle.job_walk.specs.KeptLists.{facts_after}
use Rattle.walk_rules.specs.Walk.{known_of}
use Rattle.job_walk.proofs.learnt.step_after.Given as goal

abbrev pub invariant-loop-partition : goal.invariant-loop-partition
invariant-loop-partition l = l.after.items ≡ known_of (facts_after l.known l.key l.fact) (map (key_of l.id) (numbers_to l.partition))
