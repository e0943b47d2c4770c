use Rattle.std.proofs.Common.{◌≡◌, ℕ, ◌==◌, [], drop, if◌then◌else◌}
use Rattle.std.specs.List.{list_any}
use Rattle.records.specs.Indexes.{numbers_under}
use Rattle.records.proofs.number_lists.NumberLists.remove_all.Given as goal

abbrev pub invariant-loop-key : goal.invariant-loop-key
invariant-loop-key l =
    (q : ℕ) → (if list_any (λ key. key == q) (drop l.key-index l.keys) then [] else numbers_under l.self q)
    ≡ (if list_any (λ key. key == q) l.keys then [] else numbers_under l.initial.self q)
