use Rattle.std.proofs.Common.{◌≡◌, map, take}
use Rattle.std.specs.Borrow.{Bor}
use Rattle.walk_rules.specs.declared.facts.Value.{Value}
use Rattle.walk_rules.proofs.splits.split_result.Given as goal

abbrev pub invariant-loop-value : goal.invariant-loop-value
invariant-loop-value l = map (λ (v : Bor Value). v.now) l.lent.items ≡ take l.value-index l.values
