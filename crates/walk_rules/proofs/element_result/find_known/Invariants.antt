use Rattle.std.proofs.Common.{◌≡◌, drop}
use Rattle.walk_rules.specs.Keys.{key_of}
use Rattle.walk_rules.specs.Walk.{fact_of}
use Rattle.walk_rules.proofs.element_result.find_known.Given as goal

abbrev pub invariant-loop-one : goal.invariant-loop-one
invariant-loop-one l = fact_of (drop l.one-index l.known) (key_of l.element l.partition) ≡ fact_of l.known (key_of l.element l.partition)
