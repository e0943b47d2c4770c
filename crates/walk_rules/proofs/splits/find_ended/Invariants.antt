use Rattle.std.proofs.Common.{◌≡◌, drop, find, map}
use Rattle.std.specs.Borrow.{Bor}
use Rattle.walk_rules.specs.declared.facts.Value.{Value}
use Rattle.walk_rules.specs.Walk.{ended_as}
use Rattle.walk_rules.proofs.splits.find_ended.Given as goal

abbrev pub invariant-loop-value : goal.invariant-loop-value
invariant-loop-value l = find (ended_as l.wanted) (map (λ (v : Bor Value). v.now) (drop l.value-index l.values)) ≡ find (ended_as l.wanted) (map (λ (v : Bor Value). v.now) l.values)
