-- Where a key stands among pairs by rising keys, by how it compares with one of them.
use Rattle.std.proofs.Common.{◌≡◌, ℕ, zero, suc, ◌+◌, ◌<◌, ◌≤◌, Bool, true, false, List, [], ◌∷◌, ◌++◌, length, take, drop, get_or, set, refl, sym, ap, subst, ◌∙◌, arith, add-one, Ordering, Less, Equal, Greater}
use Rattle.std.specs.List.{insert}
use Rattle.std.specs.Prelude.{nat_lt}
use Rattle.std.specs.Cmp.Lexicographic.{nat_list_cmp_total}
use Rattle.std.proofs.lemmas.Bool.{ltb-true, ltb-false}
use Rattle.std.proofs.lemmas.Cmp.{alike_right}
use Rattle.std.proofs.lemmas.List.{drop_all}
use Rattle.batch_ids.specs.Parameters.{Pair, key_cmp, IsRising, with_pair}
use Rattle.batch_ids.proofs.Placed.{held_at, absent_at, behind_at}

-- the first key is below each other
first-below : (first : Pair) (rest : List Pair) (k : ℕ) (d : Pair) → IsRising (first ∷ rest) → k < length rest → key_cmp first (get_or rest k d) ≡ Less
first-below first [] k d rising lt = absurd (omega arith)
first-below first (next ∷ more) zero d rising lt = rising.0
first-below first (next ∷ more) (suc k) d rising lt =
    nat_list_cmp_total.trans first.0 next.0 (get_or more k d).0 rising.0 (first-below next more k d rising.1 (omega arith))

-- each key is below those behind it
rising-at : (pairs : List Pair) (i j : ℕ) (d : Pair) → IsRising pairs → i < j → j < length pairs → key_cmp (get_or pairs i d) (get_or pairs j d) ≡ Less
rising-at [] i j d rising lt within = absurd (omega arith)
rising-at (first ∷ rest) i zero d rising lt within = absurd (omega arith)
rising-at (first ∷ rest) zero (suc j) d rising lt within = first-below first rest j d rising (omega arith)
rising-at (first ∷ rest) (suc i) (suc j) d rising lt within = rising-at rest i j d rising.1 (omega arith) (omega arith)

-- pairs with lower keys stay before the new one
passed : (pairs : List Pair) (i : ℕ) (d new : Pair) → i ≤ length pairs → ((j : ℕ) → j < i → key_cmp (get_or pairs j d) new ≡ Less)
    → with_pair pairs new ≡ take i pairs ++ with_pair (drop i pairs) new
passed pairs zero d new le below = refl
passed pairs (suc i) d new le below =
    subst (λ k. with_pair pairs new ≡ take k pairs ++ with_pair (drop k pairs) new) (add-one i)
    (behind_at pairs i d new (omega arith) (below i (omega arith)) (passed pairs i d new (omega arith) (λ j lt. below j (omega arith))))

-- if the key at a place is lower, all up to it stay before the new one
pub above : (pairs : List Pair) (m : ℕ) (d new : Pair) → IsRising pairs → m < length pairs → key_cmp (get_or pairs m d) new ≡ Less
    → with_pair pairs new ≡ take (m + 1) pairs ++ with_pair (drop (m + 1) pairs) new
above pairs m d new rising lt lower =
    behind_at pairs m d new lt lower (passed pairs m d new (omega arith)
    (λ j before. nat_list_cmp_total.trans (get_or pairs j d).0 (get_or pairs m d).0 new.0 (rising-at pairs j m d rising before lt) lower))

-- if the key at a place is the new one's, the pair there gives way to it
pub here : (pairs : List Pair) (m : ℕ) (d new : Pair) → IsRising pairs → m < length pairs → key_cmp (get_or pairs m d) new ≡ Equal
    → with_pair pairs new ≡ set pairs m new
here pairs m d new rising lt same =
    held_at pairs m d new lt same (passed pairs m d new (omega arith)
    (λ j before. sym (alike_right nat_list_cmp_total (get_or pairs m d).0 new.0 (get_or pairs j d).0 same) ∙ rising-at pairs j m d rising before lt))

-- if all before a place have lower keys, and the pair there has a higher one or none is there, the new one stands there
pub gap : (pairs : List Pair) (i : ℕ) (d new : Pair) → (i < length pairs → key_cmp (get_or pairs i d) new ≡ Greater)
    → with_pair pairs new ≡ take i pairs ++ with_pair (drop i pairs) new → with_pair pairs new ≡ insert pairs i new
gap pairs i d new higher so_far =
    (elim (nat_lt i (length pairs)) as (λ b. nat_lt i (length pairs) ≡ b → with_pair pairs new ≡ insert pairs i new) [
      | true ↦ λ e. let lt = ltb-true i (length pairs) e in absent_at pairs i d new lt (higher lt) so_far
      | false ↦ λ e.
          let none : drop i pairs ≡ [] = drop_all i pairs (ltb-false i (length pairs) e) in
          so_far ∙ ap (λ rest. take i pairs ++ with_pair rest new) none ∙ ap (λ rest. take i pairs ++ new ∷ rest) (sym none)
    ]) refl
