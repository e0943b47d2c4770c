-- Rows that belong to something, by a number of it: what an index of their own numbers has to be after each change.
use Rattle.std.proofs.Common.{◌≡◌, ℕ, zero, suc, ◌+◌, ◌<◌, ◌≤◌, length, drop, get_or, ◌==◌, Bool, true, false, not, cond, Option, Some, List, [], ◌∷◌, ◌++◌, map, find, filter, unwrap_or, ◌||◌, subst, refl, sym, ◌∙◌, ap, arith}
use Rattle.std.specs.List.{filter_map, flat_map, cons_option, list_any}
use Rattle.std.proofs.lemmas.List.Concat.{flat_map-cons}
use Rattle.std.specs.Option.{option_map}
use Rattle.std.proofs.lemmas.Bool.{eqb-true, eq-eqb, ne_eqb}
use Rattle.batch_history.specs.Lists.{change_first}
use Rattle.batch_history.specs.Rows.{is_gone}
use Rattle.records.specs.Maps.{AreAbove, AreRising}

module _ {R : Type 0} (num key : R → ℕ) where
  -- the rows that belong to q
  abbrev of : ℕ → List R → List R
  of q rows = filter (λ row. key row == q) rows

  -- the numbers of the rows that belong to q
  abbrev under : ℕ → List R → List ℕ
  under q rows = map num (of q rows)

  -- a row more
  pub pushed : (q : ℕ) (rows : List R) (new : R) → under q (rows ++ new ∷ []) ≡ cond (key new == q) (under q rows ++ num new ∷ []) (under q rows)
  pushed q [] new =
      elim (key new == q) as (λ b. map num (cond b (new ∷ []) []) ≡ cond b (num new ∷ []) []) [
        | true ↦ refl
        | false ↦ refl
      ]
  pushed q (row ∷ rest) new =
      let more : under q (rest ++ new ∷ []) ≡ cond (key new == q) (under q rest ++ num new ∷ []) (under q rest) = pushed q rest new in
      elim (key row == q) as (λ b. map num (cond b (row ∷ of q (rest ++ new ∷ [])) (of q (rest ++ new ∷ [])))
      ≡ cond (key new == q) (map num (cond b (row ∷ of q rest) (of q rest)) ++ num new ∷ []) (map num (cond b (row ∷ of q rest) (of q rest)))) [
        | true ↦ ap (λ (ns : List ℕ). num row ∷ ns) more
            ∙ elim (key new == q) as (λ b. num row ∷ cond b (under q rest ++ num new ∷ []) (under q rest) ≡ cond b ((num row ∷ under q rest) ++ num new ∷ []) (num row ∷ under q rest)) [
              | true ↦ refl
              | false ↦ refl
            ]
        | false ↦ more
      ]

  -- a row that keeps its number and what it belongs to
  pub changed : (p : R → Bool) (new : R) (q : ℕ) (rows : List R) (before : R) → find p rows ≡ Some before → num new ≡ num before → key new ≡ key before
      → under q (change_first p (λ old. new) rows) ≡ under q rows
  changed p new q [] before is same kept = refl
  changed p new q (row ∷ rest) before is same kept =
      (elim (p row) as (λ b. cond b (Some row) (find p rest) ≡ Some before → under q (cond b (new ∷ rest) (row ∷ change_first p (λ old. new) rest)) ≡ under q (row ∷ rest)) [
        | true ↦ λ here. (
            let one : row ≡ before = ap (λ (r : Option R). unwrap_or r row) here in
            let num_is : num new ≡ num row = same ∙ ap num (sym one) in
            let key_is : key new ≡ key row = kept ∙ ap key (sym one) in
            ap (λ (k : ℕ). map num (cond (k == q) (new ∷ of q rest) (of q rest))) key_is
            ∙ elim (key row == q) as (λ b. map num (cond b (new ∷ of q rest) (of q rest)) ≡ map num (cond b (row ∷ of q rest) (of q rest))) [
              | true ↦ ap (λ (n : ℕ). n ∷ under q rest) num_is
              | false ↦ refl
            ]
            )
        | false ↦ λ there.
            let more : under q (change_first p (λ old. new) rest) ≡ under q rest = changed p new q rest before there same kept in
            elim (key row == q) as (λ b. map num (cond b (row ∷ of q (change_first p (λ old. new) rest)) (of q (change_first p (λ old. new) rest)))
            ≡ map num (cond b (row ∷ of q rest) (of q rest))) [
              | true ↦ ap (λ (ns : List ℕ). num row ∷ ns) more
              | false ↦ more
            ]
      ]) is

  -- rows that belong to what is gone are left out
  pub left_out : (gone : ℕ → Bool) (q : ℕ) (rows : List R) → of q (filter (λ row. not (gone (key row))) rows) ≡ cond (gone q) [] (of q rows)
  left_out gone q [] = (let none : List R = [] in elim (gone q) as (λ b. none ≡ cond b none none) [ true ↦ refl | false ↦ refl ])
  left_out gone q (row ∷ rest) =
      let others : List R = filter (λ row. not (gone (key row))) rest in
      let more : of q others ≡ cond (gone q) [] (of q rest) = left_out gone q rest in
      (elim (key row == q) as (λ b. key row == q ≡ b → of q (cond (not (gone (key row))) (row ∷ others) others) ≡ cond (gone q) [] (cond b (row ∷ of q rest) (of q rest))) [
        | true ↦ λ is.
            let same : key row ≡ q = eqb-true (key row) q is in
            ap (λ (b : Bool). of q (cond (not b) (row ∷ others) others)) (ap gone same)
            ∙ (elim (gone q) as (λ b. of q others ≡ cond b [] (of q rest) → of q (cond (not b) (row ∷ others) others) ≡ cond b [] (row ∷ of q rest)) [
              | true ↦ λ m. m
              | false ↦ λ m. ap (λ (b : Bool). cond b (row ∷ of q others) (of q others)) is ∙ ap (λ (rs : List R). row ∷ rs) m
            ]) more
        | false ↦ λ off.
            elim (gone (key row)) as (λ b. of q (cond (not b) (row ∷ others) others) ≡ cond (gone q) [] (of q rest)) [
              | true ↦ more
              | false ↦ ap (λ (b : Bool). cond b (row ∷ of q others) (of q others)) off ∙ more
            ]
      ]) refl

  -- rows that stand by rising number are found again by their numbers

  pub above_filtered : (p : R → Bool) (rows : List R) (n : ℕ) → AreAbove n (map num rows) → AreAbove n (map num (filter p rows))
  above_filtered p [] n h = tt
  above_filtered p (row ∷ rest) n h =
      elim (p row) as (λ b. AreAbove n (map num (cond b (row ∷ filter p rest) (filter p rest)))) [
        | true ↦ (h.0, above_filtered p rest n h.1)
        | false ↦ above_filtered p rest n h.1
      ]

  abbrev numbered : List R → ℕ → Option R
  numbered rows n = find (λ row. num row == n) rows

  behind : (row : R) (rest : List R) (ns : List ℕ) → AreAbove (num row) ns → filter_map (numbered (row ∷ rest)) ns ≡ filter_map (numbered rest) ns
  behind row rest [] h = refl
  behind row rest (n ∷ ns) h =
      let off : (num row == n) ≡ false = ne_eqb (num row) n (λ e. omega (arith, h.0, e)) in
      ap (λ (b : Bool). cons_option (cond b (Some row) (numbered rest n)) (filter_map (numbered (row ∷ rest)) ns)) off
      ∙ ap (cons_option (numbered rest n)) (behind row rest ns h.1)

  pub found_again : (p : R → Bool) (rows : List R) → AreRising (map num rows) → filter_map (numbered rows) (map num (filter p rows)) ≡ filter p rows
  found_again p [] h = refl
  found_again p (row ∷ rest) h =
      let more : filter_map (numbered (row ∷ rest)) (map num (filter p rest)) ≡ filter p rest =
      behind row rest (map num (filter p rest)) (above_filtered p rest (num row) h.0) ∙ found_again p rest h.1 in
      elim (p row) as (λ b. filter_map (numbered (row ∷ rest)) (map num (cond b (row ∷ filter p rest) (filter p rest))) ≡ cond b (row ∷ filter p rest) (filter p rest)) [
        | true ↦ ap (λ (b : Bool). cons_option (cond b (Some row) (numbered rest (num row))) (filter_map (numbered (row ∷ rest)) (map num (filter p rest)))) (eq-eqb (num row) (num row) refl)
            ∙ ap (λ (rs : List R). row ∷ rs) more
        | false ↦ more
      ]

  -- whether a number is that of a row that belongs to q
  none_above : (q x : ℕ) (rows : List R) → AreAbove x (map num rows) → list_any (λ n. n == x) (under q rows) ≡ false
  none_above q x [] h = refl
  none_above q x (row ∷ rest) h =
      let more : list_any (λ n. n == x) (under q rest) ≡ false = none_above q x rest h.1 in
      let off : (num row == x) ≡ false = ne_eqb (num row) x (λ e. omega (arith, h.0, e)) in
      elim (key row == q) as (λ b. list_any (λ n. n == x) (map num (cond b (row ∷ of q rest) (of q rest))) ≡ false) [
        | true ↦ ap (λ (b : Bool). b || list_any (λ n. n == x) (under q rest)) off ∙ more
        | false ↦ more
      ]

  pub among_own : (q x : ℕ) (rows : List R) → AreRising (map num rows) → list_any (λ n. n == x) (under q rows) ≡ is_gone (λ k. k == q) (option_map key (numbered rows x))
  among_own q x [] h = refl
  among_own q x (row ∷ rest) h =
      let more : list_any (λ n. n == x) (under q rest) ≡ is_gone (λ k. k == q) (option_map key (numbered rest x)) = among_own q x rest h.1 in
      (elim (num row == x) as (λ b. num row == x ≡ b → list_any (λ n. n == x) (map num (cond (key row == q) (row ∷ of q rest) (of q rest)))
      ≡ is_gone (λ k. k == q) (option_map key (cond b (Some row) (numbered rest x)))) [
        | true ↦ λ here.
            elim (key row == q) as (λ b. list_any (λ n. n == x) (map num (cond b (row ∷ of q rest) (of q rest))) ≡ b) [
              | true ↦ ap (λ (b : Bool). b || list_any (λ n. n == x) (under q rest)) here
              | false ↦ none_above q x rest (subst (λ (n : ℕ). AreAbove n (map num rest)) (eqb-true (num row) x here) h.0)
            ]
        | false ↦ λ off.
            elim (key row == q) as (λ b. list_any (λ n. n == x) (map num (cond b (row ∷ of q rest) (of q rest))) ≡ is_gone (λ k. k == q) (option_map key (numbered rest x))) [
              | true ↦ ap (λ (b : Bool). b || list_any (λ n. n == x) (under q rest)) off ∙ more
              | false ↦ more
            ]
      ]) refl

pub flipped : (a b : ℕ) → (a == b) ≡ (b == a)
flipped a b =
    (elim (b == a) as (λ t. b == a ≡ t → (a == b) ≡ t) [
      | true ↦ λ e. eq-eqb a b (sym (eqb-true b a e))
      | false ↦ λ e. ne_eqb a b (λ same. let here : (b == a) ≡ true = eq-eqb b a (sym same) in cc)
    ]) refl

-- Rows that belong to one of some numbers, gathered one number after the other
module _ {R : Type 0} (num key : R → ℕ) where
  abbrev nums : (R → Bool) → List R → List ℕ
  nums p rows = map num (filter p rows)

  tail-rises : (xs ys : List ℕ) → AreRising (xs ++ ys) → AreRising ys
  tail-rises [] ys h = h
  tail-rises (x ∷ xs) ys h = tail-rises xs ys h.1

  -- a number that is behind others is above them
  above-front : (n : ℕ) (xs ys : List ℕ) → AreAbove n (xs ++ ys) → AreAbove n ys
  above-front n [] ys h = h
  above-front n (x ∷ xs) ys h = above-front n xs ys h.1

  pub joined : (p q : R → Bool) (rows : List R) → AreRising (map num rows) → AreRising (nums p rows ++ nums q rows)
      → nums p rows ++ nums q rows ≡ nums (λ row. p row || q row) rows
  joined p q [] h up = refl
  joined p q (row ∷ rest) h up =
      let goal : Bool → Bool → Type 0 = λ a b.
      AreRising (map num (cond a (row ∷ filter p rest) (filter p rest)) ++ map num (cond b (row ∷ filter q rest) (filter q rest)))
      → map num (cond a (row ∷ filter p rest) (filter p rest)) ++ map num (cond b (row ∷ filter q rest) (filter q rest))
      ≡ map num (cond (a || b) (row ∷ filter (λ row. p row || q row) rest) (filter (λ row. p row || q row) rest)) in
      elim (p row) as (λ a. goal a (q row)) [
        | true ↦ elim (q row) as (λ b. goal true b) [
          | true ↦ λ both. absurd (omega (arith, (above-front (num row) (nums p rest) (num row ∷ nums q rest) both.0).0))
          | false ↦ λ one. ap (λ (ns : List ℕ). num row ∷ ns) (joined p q rest h.1 one.1)
        ]
        | false ↦ elim (q row) as (λ b. goal false b) [
          | true ↦ λ other. behind-none p q row rest h (joined p q rest h.1) (filter p rest) refl other
          | false ↦ λ neither. joined p q rest h.1 neither
        ]
      ] up
    where
      behind-none : (p q : R → Bool) (row : R) (rest : List R) → AreRising (map num (row ∷ rest))
          → (AreRising (nums p rest ++ nums q rest) → nums p rest ++ nums q rest ≡ nums (λ row. p row || q row) rest) → (front : List R) → filter p rest ≡ front
          → AreRising (map num front ++ num row ∷ nums q rest) → map num front ++ num row ∷ nums q rest ≡ num row ∷ nums (λ row. p row || q row) rest
      behind-none p q row rest h again [] is other =
          let start : nums p rest ++ nums q rest ≡ nums q rest = ap (λ (rs : List R). map num rs ++ nums q rest) is in
          ap (λ (ns : List ℕ). num row ∷ ns) (sym start ∙ again (subst AreRising (sym start) other.1))
      behind-none p q row rest h again (first ∷ front) is other =
          let above : AreAbove (num row) (map num (first ∷ front)) =
          subst (λ (rs : List R). AreAbove (num row) (map num rs)) is (above_filtered num key p rest (num row) h.0) in
          absurd (omega (arith, above.0, (above-front (num first) (map num front) (num row ∷ nums q rest) other.0).0))

  nobody : (rows : List R) → nums (λ row. false) rows ≡ []
  nobody [] = refl
  nobody (row ∷ rest) = nobody rest

  pub gathered : (xs : List ℕ) (rows : List R) → AreRising (map num rows) → AreRising (flat_map (λ x. under num key x rows) xs)
      → flat_map (λ x. under num key x rows) xs ≡ nums (λ row. list_any (λ x. x == key row) xs) rows
  gathered [] rows h up = sym (nobody rows)
  gathered (x ∷ rest) rows h up =
      let split = flat_map-cons (λ (x : ℕ). under num key x rows) x rest in
      let both : AreRising (under num key x rows ++ flat_map (λ x. under num key x rows) rest) = subst AreRising split up in
      let more : flat_map (λ x. under num key x rows) rest ≡ nums (λ row. list_any (λ x. x == key row) rest) rows =
      gathered rest rows h (tail-rises (under num key x rows) (flat_map (λ x. under num key x rows) rest) both) in
      split
      ∙ (ap (λ (ns : List ℕ). under num key x rows ++ ns) more
      ∙ (joined (λ row. key row == x) (λ row. list_any (λ x. x == key row) rest) rows h (subst (λ (ns : List ℕ). AreRising (under num key x rows ++ ns)) more both)
      ∙ (λ k. nums (λ row. flipped (key row) x k || list_any (λ x. x == key row) rest) rows)))

-- A list that rises from behind

pub last_rises : (xs : List ℕ) (k : ℕ) → length xs ≤ k + 1 → AreRising (drop k xs)
last_rises [] zero le = tt
last_rises [] (suc k) le = tt
last_rises (x ∷ []) zero le = (tt, tt)
last_rises (x ∷ y ∷ xs) zero le = absurd (omega (arith, le))
last_rises (x ∷ xs) (suc k) le = last_rises xs k (omega (arith, le))

lower : (n m : ℕ) (xs : List ℕ) → n < m → AreAbove m xs → AreAbove n xs
lower n m [] lt h = tt
lower n m (x ∷ xs) lt h = (omega (arith, lt, h.0), lower n m xs lt h.1)

one-more : (xs : List ℕ) (k d : ℕ) → suc k < length xs → AreRising (drop (suc k) xs) → get_or xs k d < get_or xs (suc k) d → AreRising (drop k xs)
one-more [] k d lt h up = absurd (omega (arith, lt))
one-more (x ∷ []) k d lt h up = absurd (omega (arith, lt))
one-more (x ∷ y ∷ xs) zero d lt h up = ((up, lower x y xs up h.0), h)
one-more (x ∷ y ∷ xs) (suc k) d lt h up = one-more (y ∷ xs) k d (omega (arith, lt)) h up

pub one_more_rises : (xs : List ℕ) (k j d : ℕ) → j ≡ suc k → j < length xs → AreRising (drop j xs) → get_or xs k d < get_or xs j d → AreRising (drop k xs)
one_more_rises xs k j d is lt h up =
    one-more xs k d (subst (λ (n : ℕ). n < length xs) is lt) (subst (λ (n : ℕ). AreRising (drop n xs)) is h)
    (subst (λ (n : ℕ). get_or xs k d < get_or xs n d) is up)
