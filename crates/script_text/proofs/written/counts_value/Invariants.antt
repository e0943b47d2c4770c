use Rattle.std.proofs.Common.{◌≡◌, ℕ, List, Bor, drop, filter, map}
use Rattle.serde_json.specs.Data.{no_members}
use Rattle.serde_json.specs.View.{members_view}
use Rattle.script_text.specs.Written.{with_members, is_shown, count_named}
use Rattle.script_text.proofs.written.counts_value.Given as goal

abbrev pub invariant-loop-name : goal.invariant-loop-name
invariant-loop-name l =
    with_members (members_view l.members.entries)
    (map count_named (filter is_shown (map (λ (named : Bor (List ℕ) × ℕ). (named.0.now, named.1)) (drop l.name-index l.counts))))
    ≡ with_members no_members
    (map count_named (filter is_shown (map (λ (named : Bor (List ℕ) × ℕ). (named.0.now, named.1)) l.counts)))
