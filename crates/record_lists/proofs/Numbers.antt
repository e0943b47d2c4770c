-- Lists of numbers without one of them, and their first numbers.
use Rattle.std.proofs.Common.{◌≡◌, ℕ, zero, suc, ◌==◌, ◌<◌, ◌≤◌, Bool, true, false, cond, inl, inr, Option, None, Some, IfSome, List, [], ◌∷◌, length, position, find, remove, get_or, unwrap_or, slice_get, refl, sym, ◌∙◌, ap, arith}
use Rattle.std.specs.List.{position_or_len}
use Rattle.std.proofs.lemmas.Bool.{lt-ltb, cases_lt}
use Rattle.std.proofs.lemmas.List.Folds.{find_at}
use Rattle.std.proofs.lemmas.List.Quantifiers.{position-Some}
use Rattle.record_lists.specs.Numbers.{without_number}

-- Where a row stands

module _ {R : Type 0} where
  pub place_at : (p : R → Bool) (rows : List R) (k : ℕ) → position_or_len p rows ≡ k → k < length rows → position p rows ≡ Some k
  place_at p rows k is lt =
      ap (λ (b : Bool). cond b (Some (position_or_len p rows)) None) (lt-ltb (position_or_len p rows) (length rows) (omega (arith, is, lt))) ∙ ap Some is

  -- no row stands behind the last
  pub beyond : (rows : List R) (k : ℕ) → length rows ≤ k → slice_get rows k ≡ None
  beyond [] k le = refl
  beyond (row ∷ rest) zero le = absurd (omega (arith, le))
  beyond (row ∷ rest) (suc k) le = beyond rest k (omega (arith, le))

  pub absent : (p : R → Bool) (rows : List R) → position p rows ≡ None → find p rows ≡ None
  absent p rows is =
      (elim (cases_lt (position_or_len p rows) (length rows)) as (λ side. find p rows ≡ None) [
        | inl under ↦ (let at : position p rows ≡ Some (position_or_len p rows) = place_at p rows (position_or_len p rows) refl under in cc)
        | inr over ↦ find_at p rows ∙ beyond rows (position_or_len p rows) over
      ])

-- Without a number

removed-at : (number : ℕ) (xs : List ℕ) (k : ℕ) (d : ℕ) → k < length xs → (get_or xs k d == number) ≡ true → ((j : ℕ) → j < k → (get_or xs j d == number) ≡ false)
    → remove xs k ≡ without_number number xs
removed-at number [] k d lt here before = absurd (omega (arith, lt))
removed-at number (x ∷ xs) zero d lt here before = sym (ap (λ (b : Bool). cond b xs (x ∷ without_number number xs)) here)
removed-at number (x ∷ xs) (suc k) d lt here before =
    ap (λ (l : List ℕ). x ∷ l) (removed-at number xs k d (omega (arith, lt)) here (λ j less. before (suc j) (omega (arith, less))))
    ∙ sym (ap (λ (b : Bool). cond b xs (x ∷ without_number number xs)) (before 0 (omega arith)))

pub removed_first : (number : ℕ) (xs : List ℕ) (k : ℕ) → position (λ n. n == number) xs ≡ Some k → remove xs k ≡ without_number number xs
removed_first number xs k is =
    let at = position-Some (λ (n : ℕ). n == number) xs k 0 is in
    removed-at number xs k 0 at.0 at.1 at.2

pub none_removed : (number : ℕ) (xs : List ℕ) → find (λ n. n == number) xs ≡ None → xs ≡ without_number number xs
none_removed number [] none = refl
none_removed number (x ∷ xs) none =
    (elim (x == number) as (λ b. cond b (Some x) (find (λ n. n == number) xs) ≡ None → x ∷ xs ≡ cond b xs (x ∷ without_number number xs)) [
      | true ↦ λ e. cc
      | false ↦ λ e. ap (λ (l : List ℕ). x ∷ l) (none_removed number xs e)
    ]) none

-- the first number of a list that may be missing
pub first_up_to : (bound : ℕ) (numbers : Option (List ℕ)) → IfSome numbers (λ ns. IfSome (slice_get ns 0) (λ n. n ≤ bound))
    → IfSome (slice_get (unwrap_or numbers []) 0) (λ n. n ≤ bound)
first_up_to bound None h = tt
first_up_to bound (Some ns) h = h
