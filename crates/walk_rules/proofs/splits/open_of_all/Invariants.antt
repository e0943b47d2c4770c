use Rattle.std.proofs.Common.{◌≡◌, ◌++◌, drop, map}
use Rattle.std.specs.Borrow.{Bor}
use Rattle.walk_rules.specs.declared.facts.Value.{Value}
use Rattle.walk_rules.specs.Walk.{all_ready, all_busy}
use Rattle.walk_rules.proofs.splits.open_of_all.Given as goal

abbrev pub invariant-loop-value : goal.invariant-loop-value
invariant-loop-value l =
    (l.ready.items ++ all_ready (map (λ (v : Bor Value). v.now) (drop l.value-index l.values)) ≡ all_ready (map (λ (v : Bor Value). v.now) l.values))
    × (l.busy.items ++ all_busy (map (λ (v : Bor Value). v.now) (drop l.value-index l.values)) ≡ all_busy (map (λ (v : Bor Value). v.now) l.values))
