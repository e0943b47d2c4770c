use Rattle.std.proofs.Common.{◌≡◌, ℕ, ◌+◌, ◌==◌, ◌||◌, Bool, true, false, List, [], cond, drop, get_or, refl, sym, ◌∙◌, ap}
use Rattle.std.proofs.lemmas.List.{drop_more}
use Rattle.std.specs.List.{list_any}
use Rattle.records.specs.Indexes.{numbers_under}
use Rattle.records.proofs.number_lists.NumberLists.remove_all.Goals as goal

either : (a b : Bool) (numbers : List ℕ) → cond b [] (cond a [] numbers) ≡ cond (a || b) [] numbers
either true true numbers = refl
either true false numbers = refl
either false b numbers = refl

pub loop-key-preserved : goal.loop-key-preserved
loop-key-preserved c = λ q.
    let keys : List ℕ = c.args.keys.now in
    let i : ℕ = c.loop-key.key-index in
    let among : List ℕ → Bool = list_any (λ key. key == q) in
    let numbers : List ℕ = numbers_under c.loop-key.self q in
    ap (λ (ns : List ℕ). cond (among (drop (i + 1) keys)) [] ns) (c.remove.ensures q)
    ∙ (either (get_or keys i 0 == q) (among (drop (i + 1) keys)) numbers
    ∙ (ap (λ (ks : List ℕ). cond (among ks) [] numbers) (sym (drop_more keys i 0 c.loop-key-test.true)) ∙ c.loop-key.invariant q))
