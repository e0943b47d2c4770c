use Rattle.std.proofs.Common.{◌≡◌, drop, map}
use Rattle.std.specs.Borrow.{Bor}
use Rattle.walk_rules.specs.declared.facts.Value.{Value}
use Rattle.walk_rules.specs.Walk.{any_open}
use Rattle.walk_rules.proofs.splits.is_one_open.Given as goal

abbrev pub invariant-loop-value : goal.invariant-loop-value
invariant-loop-value l = any_open (map (λ (v : Bor Value). v.now) (drop l.value-index l.values)) ≡ any_open (map (λ (v : Bor Value). v.now) l.values)
