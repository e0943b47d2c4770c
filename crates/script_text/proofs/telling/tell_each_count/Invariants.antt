use Rattle.std.proofs.Common.{◌≡◌, ◌++◌, ℕ, List, Bor, map, drop}
use Rattle.json.specs.Tree.{members_tokens}
use Rattle.serde_json.specs.Written.{members_outline}
use Rattle.script_text.specs.Telling.{told_counts}
use Rattle.script_text.proofs.telling.tell_each_count.Given as goal

abbrev pub invariant-loop-name : goal.invariant-loop-name
invariant-loop-name l =
    (l.out.tokens ++ members_tokens (members_outline (told_counts (map (λ (named : Bor (List ℕ) × ℕ). (named.0.now, named.1)) (drop l.name-index l.counts))))
    ≡ l.initial.out.tokens ++ members_tokens (members_outline (told_counts (map (λ (named : Bor (List ℕ) × ℕ). (named.0.now, named.1)) l.counts))))
    × (l.out.before ≡ l.initial.out.before)
