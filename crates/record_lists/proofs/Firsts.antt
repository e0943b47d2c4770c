-- The least number that no first number of some lists is above.
use Rattle.std.proofs.Common.{◌≡◌, ℕ, ◌<◌, ◌≤◌, Option, None, Some, IfSome, List, [], ◌∷◌, ◌++◌, All, map, length, get_or, unwrap_or, slice_get, string_bytes, String, Global, refl, sym, subst, arith}
use Rattle.std.specs.HashMap.{HashMap, get_by_text, IsUnique}
use Rattle.std.specs.List.{AllByRecursion}
use Rattle.std.specs.Ordering.{nat_cmp, ord_max}
use Rattle.std.specs.String.{string_eq, string_eq_equiv}
use Rattle.std.proofs.lemmas.List.Elements.{All-from_recursion, recursion_from_All, All-weaker, All-push, All-pop}
use Rattle.std.proofs.lemmas.Map.Entries.{hash_map_get_place}
use Rattle.std.proofs.lemmas.Option.{slice_get-get_or}

max_bounds : (b n : ℕ) → (b ≤ ord_max nat_cmp b n) × (n ≤ ord_max nat_cmp b n) × ((c : ℕ) → b ≤ c → n ≤ c → ord_max nat_cmp b n ≤ c)
max_bounds b n = (search (arith), search (arith), λ c first second. search (arith, first, second))

-- a bound of a number that may be missing
weaker : (b c : ℕ) (o : Option ℕ) → b ≤ c → IfSome o (λ n. n ≤ b) → IfSome o (λ n. n ≤ c)
weaker b c None le h = tt
weaker b c (Some n) le h = omega (arith, le, h)

module _ {X : Type 0} (first : X → Option ℕ) where
  abbrev pub AreUpTo : ℕ → List X → Type 0
  AreUpTo bound xs = All (λ x. IfSome (first x) (λ n. n ≤ bound)) xs

  abbrev pub IsLeastBound : ℕ → List X → Type 0
  IsLeastBound b xs = AreUpTo b xs × ((bound : ℕ) → AreUpTo bound xs → b ≤ bound)

  pub with_number : (b n : ℕ) (xs : List X) (x : X) → first x ≡ Some n → IsLeastBound b xs → IsLeastBound (ord_max nat_cmp b n) (xs ++ x ∷ [])
  with_number b n xs x is least =
      let m = max_bounds b n in
      let P : ℕ → X → Type 0 = λ c y. IfSome (first y) (λ k. k ≤ c) in (
        All-push (P (ord_max nat_cmp b n)) xs x (All-weaker (P b) (P (ord_max nat_cmp b n)) (λ y h. weaker b _ (first y) m.0 h) xs least.0)
            (subst (λ (o : Option ℕ). IfSome o (λ k. k ≤ ord_max nat_cmp b n)) (sym is) m.1),
        λ bound all.
            let parts = All-pop (P bound) (xs ++ x ∷ []) xs (Some x) refl all in
            m.2 bound (least.1 bound parts.0) (subst (λ (o : Option ℕ). IfSome o (λ k. k ≤ bound)) is parts.1),
      )

  pub without_number : (b : ℕ) (xs : List X) (x : X) → first x ≡ None → IsLeastBound b xs → IsLeastBound b (xs ++ x ∷ [])
  without_number b xs x is least =
      let P : ℕ → X → Type 0 = λ c y. IfSome (first y) (λ k. k ≤ c) in (
        All-push (P b) xs x least.0 (subst (λ (o : Option ℕ). IfSome o (λ k. k ≤ b)) (sym is) tt),
        λ bound all. least.1 bound (All-pop (P bound) (xs ++ x ∷ []) xs (Some x) refl all).0,
      )

module _ {X Y : Type 0} (P : X → Type 0) (f : Y → X) where
  by_recursion : (ys : List Y) → AllByRecursion P (map f ys) → AllByRecursion (λ y. P (f y)) ys
  by_recursion [] h = tt
  by_recursion (y ∷ ys) h = (h.0, by_recursion ys h.1)

  -- what holds of what a list shows
  pub shown : (ys : List Y) → All P (map f ys) → All (λ y. P (f y)) ys
  shown ys h = All-from_recursion (λ y. P (f y)) ys (by_recursion ys (recursion_from_All P (map f ys) h))

-- each entry's list is the one under its name
pub entries_up_to : {S : Type 0} (bound : ℕ) (m : HashMap (String Global) (List ℕ) S) → IsUnique string_eq m
    → ((q : List ℕ) → IfSome (slice_get (unwrap_or (get_by_text m q) []) 0) (λ n. n ≤ bound)) → All (λ (e : String Global × List ℕ). IfSome (slice_get e.1 0) (λ n. n ≤ bound)) m.entries
entries_up_to bound m unique up = λ i d lt.
    let e : String Global × List ℕ = get_or m.entries i d in
    subst (λ (o : Option (List ℕ)). IfSome (slice_get (unwrap_or o []) 0) (λ n. n ≤ bound))
    (hash_map_get_place string_eq_equiv m i e.0 e.1 unique (slice_get-get_or m.entries i d lt)) (up (string_bytes e.0))
