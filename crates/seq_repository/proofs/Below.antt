-- Numbers below a bound stay so.
use Rattle.std.proofs.Common.{◌≡◌, ℕ, ◌+◌, ◌≤◌, Bool, true, false, cond, Some, List, [], ◌∷◌, ◌++◌, map, find, filter, refl, sym, ◌∙◌, ap, subst, arith}
use Rattle.batch_history.specs.Lists.{change_first}
use Rattle.records.specs.Maps.{AreBelow}

-- a greater bound
pub below_more : (a b : ℕ) (numbers : List ℕ) → a ≤ b → AreBelow a numbers → AreBelow b numbers
below_more a b [] le h = tt
below_more a b (number ∷ rest) le h = (omega (arith, le, h.0), below_more a b rest le h.1)

-- the number at the bound, and a bound above it
pub below_pushed : {R : Type 0} (num : R → ℕ) (rows : List R) (new : R) (bound : ℕ) → AreBelow bound (map num rows) → num new ≡ bound
    → AreBelow (bound + 1) (map num (rows ++ new ∷ []))
below_pushed num [] new bound h is = (omega (arith, is), tt)
below_pushed num (row ∷ rest) new bound h is = (omega (arith, h.0), below_pushed num rest new bound h.1 is)

-- some of the rows
pub below_filtered : {R : Type 0} (num : R → ℕ) (p : R → Bool) (rows : List R) (bound : ℕ) → AreBelow bound (map num rows) → AreBelow bound (map num (filter p rows))
below_filtered num p [] bound h = tt
below_filtered num p (row ∷ rest) bound h =
    elim (p row) as (λ b. AreBelow bound (map num (cond b (row ∷ filter p rest) (filter p rest)))) [
      | true ↦ (h.0, below_filtered num p rest bound h.1)
      | false ↦ below_filtered num p rest bound h.1
    ]

-- a row in place of one of its number
pub numbers_changed : {R : Type 0} (num : R → ℕ) (p : R → Bool) (rows : List R) (before new : R) → find p rows ≡ Some before → num new ≡ num before
    → map num (change_first p (λ old. new) rows) ≡ map num rows
numbers_changed num p [] before new found same = refl
numbers_changed num p (row ∷ rest) before new found same =
    (elim (p row) as (λ b. cond b (Some row) (find p rest) ≡ Some before → map num (cond b (new ∷ rest) (row ∷ change_first p (λ old. new) rest)) ≡ num row ∷ map num rest) [
      | true ↦ λ s. let is : row ≡ before = cc in ap (λ (n : ℕ). n ∷ map num rest) (same ∙ ap num (sym is))
      | false ↦ λ s. ap (λ (l : List ℕ). num row ∷ l) (numbers_changed num p rest before new s same)
    ]) found

pub below_changed : {R : Type 0} (num : R → ℕ) (p : R → Bool) (rows : List R) (before new : R) (bound : ℕ) → find p rows ≡ Some before → num new ≡ num before
    → AreBelow bound (map num rows) → AreBelow bound (map num (change_first p (λ old. new) rows))
below_changed num p rows before new bound found same h = subst (AreBelow bound) (sym (numbers_changed num p rows before new found same)) h
