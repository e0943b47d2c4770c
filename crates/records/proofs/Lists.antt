-- Lists of numbers without one of them.
use Rattle.std.proofs.Common.{◌≡◌, ℕ, ◌==◌, Bool, true, false, cond, Option, None, Some, List, [], ◌∷◌, ◌++◌, ◌||◌, not, map, filter, subst, bytes_eq, find, remove, refl, sym, ◌∙◌, ap, arith}
use Rattle.std.specs.List.{list_any}
use Rattle.std.proofs.lemmas.Slice.Eq.{bytes_eq-Decides}
use Rattle.std.proofs.lemmas.Bool.{eqb-true, eq-eqb, ne_eqb}
use Rattle.records.specs.Indexes.{without_number}
use Rattle.records.specs.Maps.{AreAbove, AreBelow, AreRising}

-- a number that is not there
pub nothing_removed : (number : ℕ) (xs : List ℕ) → list_any (λ n. n == number) xs ≡ false → without_number number xs ≡ xs
nothing_removed number [] none = refl
nothing_removed number (x ∷ xs) none =
    (elim (x == number) as (λ b. (b || list_any (λ n. n == number) xs) ≡ false → cond b xs (x ∷ without_number number xs) ≡ x ∷ xs) [
      | true ↦ λ e. cc
      | false ↦ λ e. ap (λ (l : List ℕ). x ∷ l) (nothing_removed number xs e)
    ]) none

-- a number that was put last, above all others
pub last_removed : (number : ℕ) (xs : List ℕ) → AreBelow number xs → without_number number (xs ++ number ∷ []) ≡ xs
last_removed number [] below = ap (λ (b : Bool). cond b [] (number ∷ [])) (eq-eqb number number refl)
last_removed number (x ∷ xs) below =
    ap (λ (b : Bool). cond b (xs ++ number ∷ []) (x ∷ without_number number (xs ++ number ∷ []))) (ne_eqb x number (λ e. omega (arith, below.0, e)))
    ∙ ap (λ (l : List ℕ). x ∷ l) (last_removed number xs below.1)

-- a number put last under a name, and removed again
pub undone : (before middle after : List ℕ → List ℕ) (name : List ℕ) (number : ℕ) → AreBelow number (before name)
    → ((q : List ℕ) → middle q ≡ cond (bytes_eq name q) (before q ++ number ∷ []) (before q))
    → ((q : List ℕ) → after q ≡ cond (bytes_eq name q) (without_number number (middle q)) (middle q)) → (q : List ℕ) → after q ≡ before q
undone before middle after name number below more less q =
    (elim (bytes_eq name q) as (λ b. bytes_eq name q ≡ b → after q ≡ before q) [
      | true ↦ λ is.
          let same : name ≡ q = grind (arith, bytes_eq-Decides, is) in
          less q
          ∙ (ap (λ (b : Bool). cond b (without_number number (middle q)) (middle q)) is
          ∙ (ap (without_number number) (more q ∙ ap (λ (b : Bool). cond b (before q ++ number ∷ []) (before q)) is)
          ∙ last_removed number (before q) (subst (λ (n : List ℕ). AreBelow number (before n)) same below)))
      | false ↦ λ off.
          less q
          ∙ (ap (λ (b : Bool). cond b (without_number number (middle q)) (middle q)) off
          ∙ (more q ∙ ap (λ (b : Bool). cond b (before q ++ number ∷ []) (before q)) off))
    ]) refl

module _ {R : Type 0} (num : R → ℕ) where
  -- whether the row of a number passes a test
  abbrev pub passes : (R → Bool) → Option R → Bool
  passes p None = false
  passes p (Some row) = p row

  none-above : (p : R → Bool) (x : ℕ) (rows : List R) → AreAbove x (map num rows) → list_any (λ n. n == x) (map num (filter p rows)) ≡ false
  none-above p x [] h = refl
  none-above p x (row ∷ rest) h =
      let more : list_any (λ n. n == x) (map num (filter p rest)) ≡ false = none-above p x rest h.1 in
      let off : (num row == x) ≡ false = ne_eqb (num row) x (λ e. omega (arith, h.0, e)) in
      elim (p row) as (λ b. list_any (λ n. n == x) (map num (cond b (row ∷ filter p rest) (filter p rest))) ≡ false) [
        | true ↦ ap (λ (b : Bool). b || list_any (λ n. n == x) (map num (filter p rest))) off ∙ more
        | false ↦ more
      ]

  -- a number is among those of the rows that pass, if its row passes
  pub passing_among : (p : R → Bool) (x : ℕ) (rows : List R) → AreRising (map num rows)
      → list_any (λ n. n == x) (map num (filter p rows)) ≡ passes p (find (λ row. num row == x) rows)
  passing_among p x [] h = refl
  passing_among p x (row ∷ rest) h =
      let more = passing_among p x rest h.1 in
      (elim (num row == x) as (λ b. num row == x ≡ b → list_any (λ n. n == x) (map num (cond (p row) (row ∷ filter p rest) (filter p rest)))
      ≡ passes p (cond b (Some row) (find (λ row. num row == x) rest))) [
        | true ↦ λ here.
            elim (p row) as (λ b. list_any (λ n. n == x) (map num (cond b (row ∷ filter p rest) (filter p rest))) ≡ b) [
              | true ↦ ap (λ (b : Bool). b || list_any (λ n. n == x) (map num (filter p rest))) here
              | false ↦ none-above p x rest (subst (λ (n : ℕ). AreAbove n (map num rest)) (eqb-true (num row) x here) h.0)
            ]
        | false ↦ λ off.
            elim (p row) as (λ b. list_any (λ n. n == x) (map num (cond b (row ∷ filter p rest) (filter p rest))) ≡ passes p (find (λ row. num row == x) rest)) [
              | true ↦ ap (λ (b : Bool). b || list_any (λ n. n == x) (map num (filter p rest))) off ∙ more
              | false ↦ more
            ]
      ]) refl

  kept-above : (p : R → Bool) (x : ℕ) (rows : List R) → AreAbove x (map num rows) → filter p (filter (λ row. not (num row == x)) rows) ≡ filter p rows
  kept-above p x [] h = refl
  kept-above p x (row ∷ rest) h =
      ap (λ (b : Bool). filter p (cond (not b) (row ∷ filter (λ row. not (num row == x)) rest) (filter (λ row. not (num row == x)) rest))) (ne_eqb (num row) x (λ e. omega (arith, h.0, e)))
      ∙ ap (λ (rs : List R). cond (p row) (row ∷ rs) rs) (kept-above p x rest h.1)

  -- the numbers of the rows that pass, without the row of a number
  pub row_removed : (p : R → Bool) (x : ℕ) (rows : List R) → AreRising (map num rows)
      → map num (filter p (filter (λ row. not (num row == x)) rows)) ≡ without_number x (map num (filter p rows))
  row_removed p x [] h = refl
  row_removed p x (row ∷ rest) h =
      let others : List R = filter (λ row. not (num row == x)) rest in
      let more : map num (filter p others) ≡ without_number x (map num (filter p rest)) = row_removed p x rest h.1 in
      (elim (num row == x) as (λ b. num row == x ≡ b → map num (filter p (cond (not b) (row ∷ others) others)) ≡ without_number x (map num (cond (p row) (row ∷ filter p rest) (filter p rest)))) [
        | true ↦ λ here.
            let above : AreAbove x (map num rest) = subst (λ (n : ℕ). AreAbove n (map num rest)) (eqb-true (num row) x here) h.0 in
            ap (λ (rs : List R). map num rs) (kept-above p x rest above)
            ∙ elim (p row) as (λ b. map num (filter p rest) ≡ without_number x (map num (cond b (row ∷ filter p rest) (filter p rest)))) [
              | true ↦ sym (ap (λ (b : Bool). cond b (map num (filter p rest)) (num row ∷ without_number x (map num (filter p rest)))) here)
              | false ↦ sym (nothing_removed x (map num (filter p rest)) (none-above p x rest above))
            ]
        | false ↦ λ off.
            elim (p row) as (λ b. map num (cond b (row ∷ filter p others) (filter p others)) ≡ without_number x (map num (cond b (row ∷ filter p rest) (filter p rest)))) [
              | true ↦ ap (λ (ns : List ℕ). num row ∷ ns) more
                  ∙ sym (ap (λ (b : Bool). cond b (map num (filter p rest)) (num row ∷ without_number x (map num (filter p rest)))) off)
              | false ↦ more
            ]
      ]) refl

  -- the numbers of the rows that pass, with a row more
  pub row_added : (p : R → Bool) (new : R) (rows : List R) → map num (filter p (rows ++ new ∷ [])) ≡ cond (p new) (map num (filter p rows) ++ num new ∷ []) (map num (filter p rows))
  row_added p new [] =
      elim (p new) as (λ b. map num (cond b (new ∷ []) []) ≡ cond b (num new ∷ []) []) [
        | true ↦ refl
        | false ↦ refl
      ]
  row_added p new (row ∷ rest) =
      let more = row_added p new rest in
      let ns : List ℕ = map num (filter p rest) in
      elim (p row) as (λ b. map num (cond b (row ∷ filter p (rest ++ new ∷ [])) (filter p (rest ++ new ∷ [])))
      ≡ cond (p new) (map num (cond b (row ∷ filter p rest) (filter p rest)) ++ num new ∷ []) (map num (cond b (row ∷ filter p rest) (filter p rest)))) [
        | true ↦ ap (λ (l : List ℕ). num row ∷ l) more
            ∙ elim (p new) as (λ b. num row ∷ cond b (ns ++ num new ∷ []) ns ≡ cond b ((num row ∷ ns) ++ num new ∷ []) (num row ∷ ns)) [
              | true ↦ refl
              | false ↦ refl
            ]
        | false ↦ more
      ]
