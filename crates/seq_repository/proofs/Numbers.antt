-- The numbers of those rows that pass a test, as an ordered set, where the rows stand by rising number.
use Rattle.std.proofs.Common.{◌≡◌, ℕ, length, ◌==◌, ◌<◌, Bool, true, false, cond, None, Some, List, [], ◌∷◌, ◌++◌, map, find, filter, slice_get, refl, sym, ◌∙◌, ap, subst, arith}
use Rattle.std.specs.Ordering.{nat_cmp, match_ordering, is_eq}
use Rattle.std.specs.declared.cmp.Ordering.TheVariants.{Less, Greater}
use Rattle.std.specs.BTreeSet.{insert_key}
use Rattle.std.specs.Set.{remove_key}
use Rattle.std.proofs.lemmas.Bool.{eqb-true, eq-eqb, ne_eqb}
use Rattle.std.proofs.lemmas.Bool.Decides.{nat_tests}
use Rattle.batch_history.specs.Lists.{change_first}
use Rattle.agendas.proofs.Numbers.{cmp-same, remove-same}
use Rattle.records.specs.Maps.{AreAbove, AreBelow, AreRising}
use Rattle.records.proofs.Sets.{put_last}
use Rattle.seq_repository.specs.Agendas.{put_number}

cmp-less : (x y : ℕ) → x < y → nat_cmp x y ≡ Less
cmp-less x y lt = grind arith

cmp-more : (x y : ℕ) → y < x → nat_cmp x y ≡ Greater
cmp-more x y lt = grind arith

-- A number in an ordered set

insert-first : (x : ℕ) (ks : List ℕ) → AreAbove x ks → insert_key nat_cmp ks x ≡ x ∷ ks
insert-first x [] h = refl
insert-first x (k ∷ ks) h = ap (λ o. match_ordering o (x ∷ k ∷ ks) (k ∷ ks) (k ∷ insert_key nat_cmp ks x)) (cmp-less x k h.0)

insert-same : (x : ℕ) (ks : List ℕ) → insert_key nat_cmp (x ∷ ks) x ≡ x ∷ ks
insert-same x ks = ap (λ o. match_ordering o (x ∷ x ∷ ks) (x ∷ ks) (x ∷ insert_key nat_cmp ks x)) (cmp-same x)

remove-none : (x : ℕ) (ks : List ℕ) → AreAbove x ks → remove_key (λ y. is_eq (nat_cmp x y)) ks ≡ ks
remove-none x [] h = refl
remove-none x (k ∷ ks) h =
    ap (λ o. cond (is_eq o) ks (k ∷ remove_key (λ y. is_eq (nat_cmp x y)) ks)) (cmp-less x k h.0)
    ∙ ap (λ (l : List ℕ). k ∷ l) (remove-none x ks h.1)

-- a number that is put stands, or is gone, where those behind it are above it
put-here : (b here : Bool) (x : ℕ) (ks : List ℕ) → AreAbove x ks → put_number b x (cond here (x ∷ ks) ks) ≡ cond b (x ∷ ks) ks
put-here true true x ks h = insert-same x ks
put-here true false x ks h = insert-first x ks h
put-here false true x ks h = remove-same x ks
put-here false false x ks h = remove-none x ks h

-- it is put behind a lower number
put-behind : (b : Bool) (n x : ℕ) (ks : List ℕ) → n < x → put_number b x (n ∷ ks) ≡ n ∷ put_number b x ks
put-behind true n x ks lt = ap (λ o. match_ordering o (x ∷ n ∷ ks) (n ∷ ks) (n ∷ insert_key nat_cmp ks x)) (cmp-more x n lt)
put-behind false n x ks lt = ap (λ o. cond (is_eq o) ks (n ∷ remove_key (λ y. is_eq (nat_cmp x y)) ks)) (cmp-more x n lt)

-- a list of no length is empty
pub empty_list : (ks : List ℕ) → (0 < length ks → ⊥) → ks ≡ []
empty_list [] none = refl
empty_list (k ∷ ks) none = absurd (none (omega arith))

-- Rows by rising number

module _ {R : Type 0} (num : R → ℕ) where
  above-passing : (n : ℕ) (p : R → Bool) (rows : List R) → AreAbove n (map num rows) → AreAbove n (map num (filter p rows))
  above-passing n p [] h = tt
  above-passing n p (row ∷ rest) h =
      elim (p row) as (λ b. AreAbove n (map num (cond b (row ∷ filter p rest) (filter p rest)))) [
        | true ↦ (h.0, above-passing n p rest h.1)
        | false ↦ above-passing n p rest h.1
      ]

  above-found : (n x : ℕ) (rows : List R) (old : R) → AreAbove n (map num rows) → find (λ row. num row == x) rows ≡ Some old → n < x
  above-found n x [] old h found = cc
  above-found n x (row ∷ rest) old h found =
      (elim (num row == x) as (λ b. (num row == x) ≡ b → cond b (Some row) (find (λ row. num row == x) rest) ≡ Some old → n < x) [
        | true ↦ λ is s. let here : num row ≡ x = eqb-true (num row) x is in omega (arith, h.0, here)
        | false ↦ λ is s. above-found n x rest old h.1 s
      ]) refl found

  -- tests that agree on rows of other numbers
  same-above : (x : ℕ) (p q : R → Bool) (rows : List R) → ((row : R) → (num row == x) ≡ false → q row ≡ p row) → AreAbove x (map num rows)
      → filter q rows ≡ filter p rows
  same-above x p q [] same h = refl
  same-above x p q (row ∷ rest) same h =
      let other : (num row == x) ≡ false = ne_eqb (num row) x (λ e. omega (arith, h.0, e)) in
      ap (λ b. cond b (row ∷ filter q rest) (filter q rest)) (same row other)
      ∙ ap (λ (l : List R). cond (p row) (row ∷ l) l) (same-above x p q rest same h.1)

  -- the row of a number is replaced
  pub put_changed : (x : ℕ) (p q : R → Bool) (rows : List R) (old new : R) → AreRising (map num rows) → find (λ row. num row == x) rows ≡ Some old → num new ≡ x
      → ((row : R) → (num row == x) ≡ false → q row ≡ p row)
      → put_number (q new) x (map num (filter p rows)) ≡ map num (filter q (change_first (λ row. num row == x) (λ gone. new) rows))
  put_changed x p q [] old new h found is same = cc
  put_changed x p q (row ∷ rest) old new h found is same =
      (elim (num row == x) as (λ b. (num row == x) ≡ b → cond b (Some row) (find (λ row. num row == x) rest) ≡ Some old
      → put_number (q new) x (map num (filter p (row ∷ rest))) ≡ map num (filter q (cond b (new ∷ rest) (row ∷ change_first (λ row. num row == x) (λ gone. new) rest)))) [
        | true ↦ λ at s.
            let here : num row ≡ x = eqb-true (num row) x at in
            let above : AreAbove x (map num rest) = subst (λ n. AreAbove n (map num rest)) here h.0 in
            let split : map num (filter p (row ∷ rest)) ≡ cond (p row) (x ∷ map num (filter p rest)) (map num (filter p rest)) =
            elim (p row) as (λ b. map num (cond b (row ∷ filter p rest) (filter p rest)) ≡ cond b (x ∷ map num (filter p rest)) (map num (filter p rest))) [
              | true ↦ ap (λ n. n ∷ map num (filter p rest)) here
              | false ↦ refl
            ] in
            let joined : cond (q new) (x ∷ map num (filter p rest)) (map num (filter p rest)) ≡ map num (filter q (new ∷ rest)) =
            ap (λ (l : List R). cond (q new) (x ∷ map num l) (map num l)) (sym (same-above x p q rest same above))
            ∙ (elim (q new) as (λ b. cond b (x ∷ map num (filter q rest)) (map num (filter q rest)) ≡ map num (cond b (new ∷ filter q rest) (filter q rest))) [
              | true ↦ ap (λ n. n ∷ map num (filter q rest)) (sym is)
              | false ↦ refl
            ]) in
            ap (put_number (q new) x) split
            ∙ (put-here (q new) (p row) x (map num (filter p rest)) (above-passing x p rest above) ∙ joined)
        | false ↦ λ off s.
            let lower : num row < x = above-found (num row) x rest old h.0 s in
            let more = put_changed x p q rest old new h.1 s is same in
            let changed : List R = change_first (λ row. num row == x) (λ gone. new) rest in
            (elim (p row) as (λ b. put_number (q new) x (map num (cond b (row ∷ filter p rest) (filter p rest))) ≡ map num (cond b (row ∷ filter q changed) (filter q changed))) [
              | true ↦ put-behind (q new) (num row) x (map num (filter p rest)) lower ∙ ap (λ (l : List ℕ). num row ∷ l) more
              | false ↦ more
            ]) ∙ ap (λ b. map num (cond b (row ∷ filter q changed) (filter q changed))) (sym (same row off))
      ]) refl found

  -- no row has the number
  pub put_absent : (x : ℕ) (p q : R → Bool) (rows : List R) → find (λ row. num row == x) rows ≡ None → ((row : R) → (num row == x) ≡ false → q row ≡ p row)
      → filter q rows ≡ filter p rows
  put_absent x p q [] found same = refl
  put_absent x p q (row ∷ rest) found same =
      (elim (num row == x) as (λ b. (num row == x) ≡ b → cond b (Some row) (find (λ row. num row == x) rest) ≡ None → filter q (row ∷ rest) ≡ filter p (row ∷ rest)) [
        | true ↦ λ at s. cc
        | false ↦ λ off s.
            ap (λ b. cond b (row ∷ filter q rest) (filter q rest)) (same row off)
            ∙ ap (λ (l : List R). cond (p row) (row ∷ l) l) (put_absent x p q rest s same)
      ]) refl found

  below-passing : (n : ℕ) (p : R → Bool) (rows : List R) → AreBelow n (map num rows) → AreBelow n (map num (filter p rows))
  below-passing n p [] h = tt
  below-passing n p (row ∷ rest) h =
      elim (p row) as (λ b. AreBelow n (map num (cond b (row ∷ filter p rest) (filter p rest)))) [
        | true ↦ (h.0, below-passing n p rest h.1)
        | false ↦ below-passing n p rest h.1
      ]

  passing-pushed : (p : R → Bool) (rows : List R) (new : R) → p new ≡ true → map num (filter p rows) ++ num new ∷ [] ≡ map num (filter p (rows ++ new ∷ []))
  passing-pushed p [] new on = sym (ap (λ b. map num (cond b (new ∷ []) [])) on)
  passing-pushed p (row ∷ rest) new on =
      elim (p row) as (λ b. map num (cond b (row ∷ filter p rest) (filter p rest)) ++ num new ∷ [] ≡ map num (cond b (row ∷ filter p (rest ++ new ∷ [])) (filter p (rest ++ new ∷ [])))) [
        | true ↦ ap (λ (l : List ℕ). num row ∷ l) (passing-pushed p rest new on)
        | false ↦ passing-pushed p rest new on
      ]

  -- a row above all others is added
  pub put_pushed : (x : ℕ) (p : R → Bool) (rows : List R) (new : R) → AreBelow x (map num rows) → num new ≡ x → p new ≡ true
      → insert_key nat_cmp (map num (filter p rows)) x ≡ map num (filter p (rows ++ new ∷ []))
  put_pushed x p rows new below is on =
      put_last x (map num (filter p rows)) (below-passing x p rows below)
      ∙ (ap (λ n. map num (filter p rows) ++ n ∷ []) (sym is) ∙ passing-pushed p rows new on)

  above-head : (n k : ℕ) (p : R → Bool) (rows : List R) → AreAbove n (map num rows) → slice_get (map num (filter p rows)) 0 ≡ Some k → n < k
  above-head n k p [] h first = cc
  above-head n k p (row ∷ rest) h first =
      (elim (p row) as (λ b. slice_get (map num (cond b (row ∷ filter p rest) (filter p rest))) 0 ≡ Some k → n < k) [
        | true ↦ λ s. let is : num row ≡ k = cc in omega (arith, h.0, is)
        | false ↦ λ s. above-head n k p rest h.1 s
      ]) first

  -- the row of the least number is the first that passes
  pub least_found : (p : R → Bool) (rows : List R) (k : ℕ) → AreRising (map num rows) → slice_get (map num (filter p rows)) 0 ≡ Some k
      → find (λ row. num row == k) rows ≡ find p rows
  least_found p [] k h first = refl
  least_found p (row ∷ rest) k h first =
      (elim (p row) as (λ b. slice_get (map num (cond b (row ∷ filter p rest) (filter p rest))) 0 ≡ Some k
      → cond (num row == k) (Some row) (find (λ row. num row == k) rest) ≡ cond b (Some row) (find p rest)) [
        | true ↦ λ s. ap (λ b. cond b (Some row) (find (λ row. num row == k) rest)) (let is : num row ≡ k = cc in eq-eqb (num row) k is)
        | false ↦ λ s.
            let low : num row < k = above-head (num row) k p rest h.0 s in
            ap (λ b. cond b (Some row) (find (λ row. num row == k) rest)) (ne_eqb (num row) k (λ e. omega (arith, low, e)))
            ∙ least_found p rest k h.1 s
      ]) first

  -- none passes where there is no number
  pub none_found : (p : R → Bool) (rows : List R) → map num (filter p rows) ≡ [] → find p rows ≡ None
  none_found p [] none = refl
  none_found p (row ∷ rest) none =
      (elim (p row) as (λ b. map num (cond b (row ∷ filter p rest) (filter p rest)) ≡ [] → cond b (Some row) (find p rest) ≡ None) [
        | true ↦ λ s. cc
        | false ↦ λ s. none_found p rest s
      ]) none

  -- a number that no row has is not there
  cmp-other : (x y : ℕ) → (y == x) ≡ false → is_eq (nat_cmp x y) ≡ false
  cmp-other x y off = grind (arith, nat_tests)

  pub gone_absent : (x : ℕ) (p : R → Bool) (rows : List R) → find (λ row. num row == x) rows ≡ None
      → remove_key (λ y. is_eq (nat_cmp x y)) (map num (filter p rows)) ≡ map num (filter p rows)
  gone_absent x p [] found = refl
  gone_absent x p (row ∷ rest) found =
      (elim (num row == x) as (λ b. (num row == x) ≡ b → cond b (Some row) (find (λ row. num row == x) rest) ≡ None
      → remove_key (λ y. is_eq (nat_cmp x y)) (map num (filter p (row ∷ rest))) ≡ map num (filter p (row ∷ rest))) [
        | true ↦ λ at s. cc
        | false ↦ λ off s.
            let more = gone_absent x p rest s in
            let ks : List ℕ = map num (filter p rest) in
            elim (p row) as (λ b. remove_key (λ y. is_eq (nat_cmp x y)) (map num (cond b (row ∷ filter p rest) (filter p rest))) ≡ map num (cond b (row ∷ filter p rest) (filter p rest))) [
              | true ↦ ap (λ b. cond b ks (num row ∷ remove_key (λ y. is_eq (nat_cmp x y)) ks)) (cmp-other x (num row) off) ∙ ap (λ (l : List ℕ). num row ∷ l) more
              | false ↦ more
            ]
      ]) refl found

  -- one passes where there is a number
  pub first_passes : (p : R → Bool) (rows : List R) (k : ℕ) → slice_get (map num (filter p rows)) 0 ≡ Some k → find p rows ≡ None → ⊥
  first_passes p [] k first none = cc
  first_passes p (row ∷ rest) k first none =
      (elim (p row) as (λ b. slice_get (map num (cond b (row ∷ filter p rest) (filter p rest))) 0 ≡ Some k → cond b (Some row) (find p rest) ≡ None → ⊥) [
        | true ↦ λ s e. cc
        | false ↦ λ s e. first_passes p rest k s e
      ]) first none

  -- The numbers rise

  above-pushed : (n : ℕ) (rows : List R) (new : R) → AreAbove n (map num rows) → n < num new → AreAbove n (map num (rows ++ new ∷ []))
  above-pushed n [] new h lt = (lt, tt)
  above-pushed n (row ∷ rest) new h lt = (h.0, above-pushed n rest new h.1 lt)

  pub rising_pushed : (x : ℕ) (rows : List R) (new : R) → AreRising (map num rows) → AreBelow x (map num rows) → num new ≡ x → AreRising (map num (rows ++ new ∷ []))
  rising_pushed x [] new h below is = (tt, tt)
  rising_pushed x (row ∷ rest) new h below is = (above-pushed (num row) rest new h.0 (omega (arith, below.0, is)), rising_pushed x rest new h.1 below.1 is)

  pub rising_filtered : (p : R → Bool) (rows : List R) → AreRising (map num rows) → AreRising (map num (filter p rows))
  rising_filtered p [] h = tt
  rising_filtered p (row ∷ rest) h =
      elim (p row) as (λ b. AreRising (map num (cond b (row ∷ filter p rest) (filter p rest)))) [
        | true ↦ (above-passing (num row) p rest h.0, rising_filtered p rest h.1)
        | false ↦ rising_filtered p rest h.1
      ]
