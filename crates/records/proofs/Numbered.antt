-- Rows that stand by rising number: where the row of a number stands.
use Rattle.std.proofs.Common.{◌≡◌, ◌≢◌, ℕ, zero, suc, ◌+◌, ◌==◌, ◌<◌, ◌≤◌, Bool, true, false, cond, nat_lt, ltb, inl, inr, Option, None, Some, Result, Ok, Err, IfSome, is_some, option_copied, Bor, List, [], ◌∷◌, ◌++◌, length, map, find, filter, position, set, get_or, slice_get, unwrap_or, subst, refl, sym, ◌∙◌, ap, arith}
use Rattle.std.specs.List.{position_or_len}
use Rattle.std.specs.List.Sorted.{IsSearchInRange, IsBinarySearchResult, IsNonDecreasingBy}
use Rattle.std.specs.Ordering.{nat_cmp, ordering_index}
use Rattle.std.specs.Result.{result_ok}
use Rattle.std.proofs.lemmas.Bool.{eqb-true, eq-eqb, ne_eqb, ltb-true, ltb-false, le-ltb, cases_lt}
use Rattle.std.proofs.lemmas.Option.{slice_get_read}
use Rattle.std.proofs.lemmas.Bool.Decides.{nat_tests}
use Rattle.std.proofs.lemmas.Cmp.{ranked}
use Rattle.std.proofs.lemmas.List.Folds.{find_at}
use Rattle.std.proofs.lemmas.List.Quantifiers.{position-Some}
use Rattle.std.proofs.lemmas.List.Sums.{position_or_len_is}
use Rattle.batch_history.specs.Lists.{change_first}
use Rattle.batch_history.specs.Replies.{is_execution}
use Rattle.batch_history.specs.Works.{is_work}
use Rattle.batch_history.specs.declared.rows.JobInstance.{JobInstance}
use Rattle.batch_history.specs.declared.rows.ExecutionRow.{ExecutionRow}
use Rattle.batch_history.specs.declared.rows.WorkRow.{WorkRow}
use Rattle.batch_history.proofs.Finding.{found-passes}
use Rattle.record_lists.proofs.Numbers.{place_at, beyond}
use Rattle.records.specs.Maps.{instance_numbers, execution_numbers, work_numbers, AreAbove, AreBelow, AreRising, MayReplaceExecution, MayReplaceWork}

module _ {R : Type 0} (num : R → ℕ) where
  -- the numbers of these rows
  abbrev numbers : List R → List ℕ
  numbers rows = map num rows

  above-at : (rows : List R) (n k : ℕ) (d : R) → AreAbove n (numbers rows) → k < length rows → n < num (get_or rows k d)
  above-at [] n k d h lt = absurd (omega (arith, lt))
  above-at (row ∷ rest) n zero d h lt = h.0
  above-at (row ∷ rest) n (suc k) d h lt = above-at rest n k d h.1 (omega (arith, lt))

  rising-at : (rows : List R) (i j : ℕ) (d : R) → AreRising (numbers rows) → i < j → j < length rows → num (get_or rows i d) < num (get_or rows j d)
  rising-at [] i j d h lt within = absurd (omega (arith, within))
  rising-at (row ∷ rest) i zero d h lt within = absurd (omega (arith, lt))
  rising-at (row ∷ rest) zero (suc j) d h lt within = above-at rest (num row) j d h.0 (omega (arith, within))
  rising-at (row ∷ rest) (suc i) (suc j) d h lt within = rising-at rest i j d h.1 (omega (arith, lt)) (omega (arith, within))

  -- A binary search

  abbrev is_numbered : ℕ → R → Bool
  is_numbered x row = num row == x

  comparisons-rise : (rows : List R) (x : ℕ) → AreRising (numbers rows) → IsNonDecreasingBy (λ row. ordering_index (nat_cmp (num row) x)) rows
  comparisons-rise rows x h i j d le within =
      let rise : i < j → num (get_or rows i d) < num (get_or rows j d) = λ lt. rising-at rows i j d h lt within in
      let same : i ≡ j → num (get_or rows i d) ≡ num (get_or rows j d) = λ e. ap (λ k. num (get_or rows k d)) e in
      let up : num (get_or rows i d) ≤ num (get_or rows j d) = grind (arith, rise, same) in
      grind (arith, nat_tests)

  position-none : (p : R → Bool) (rows : List R) → position_or_len p rows ≡ length rows → position p rows ≡ None
  position-none p rows is =
      ap (λ (b : Bool). cond b (Some (position_or_len p rows)) None) (le-ltb (position_or_len p rows) (length rows) (omega (arith, is)))

  -- what a binary search by the numbers answers
  pub searched : (rows : List R) (x : ℕ) (r : Result ℕ ℕ) → AreRising (numbers rows) → IsSearchInRange r (length rows)
      → IsBinarySearchResult (λ row. nat_cmp (num row) x) rows r → result_ok r ≡ position (is_numbered x) rows
  searched [] x (Ok k) h within is = absurd (omega (arith, within))
  searched (row ∷ rest) x (Ok k) h within is =
      let rows : List R = row ∷ rest in
      let here : num (get_or rows k row) ≡ x = ranked _ x _ (sym (is row)) in
      let before : (j : ℕ) → j < k → is_numbered x (get_or rows j row) ≡ false =
      λ j lt. ne_eqb (num (get_or rows j row)) x (λ e. omega (arith, rising-at rows j k row h lt within, here, e)) in
      sym (place_at (is_numbered x) rows k
      (position_or_len_is (is_numbered x) rows k row (omega (arith, within)) before (λ lt. eq-eqb (num (get_or rows k row)) x here))
      within)
  searched [] x (Err i) h within is = refl
  searched (row ∷ rest) x (Err i) h within is =
      let rows : List R = row ∷ rest in
      let parted = is (comparisons-rise rows x h) in
      let off : (j : ℕ) → j < length rows → is_numbered x (get_or rows j row) ≡ false =
      λ j lt. ne_eqb (num (get_or rows j row)) x (elim (cases_lt j i) as (λ side. num (get_or rows j row) ≢ x) [
        | inl under ↦ (let less : num (get_or rows j row) < x = ranked _ x _ (sym (parted.0 j row (omega arith) under)) in λ e. omega (arith, less, e))
        | inr over ↦ (let more : x < num (get_or rows j row) = ranked _ x _ (sym (parted.1 j row over lt)) in λ e. omega (arith, more, e))
      ]) in
      sym (position-none (is_numbered x) rows (position_or_len_is (is_numbered x) rows (length rows) row (omega arith) off (λ lt. absurd (omega (arith, lt)))))

  -- the place of a row that has the number
  pub at_place : (rows : List R) (x k : ℕ) (d : R) → AreRising (numbers rows) → k < length rows → num (get_or rows k d) ≡ x → position (is_numbered x) rows ≡ Some k
  at_place [] x k d h lt is = absurd (omega (arith, lt))
  at_place (row ∷ rest) x k d h lt is =
      let rows : List R = row ∷ rest in
      let before : (j : ℕ) → j < k → is_numbered x (get_or rows j d) ≡ false =
      λ j less. ne_eqb (num (get_or rows j d)) x (λ e. omega (arith, rising-at rows j k d h less lt, is, e)) in
      place_at (is_numbered x) rows k
      (position_or_len_is (is_numbered x) rows k d (omega (arith, lt)) before (λ under. eq-eqb (num (get_or rows k d)) x is))
      lt

  -- The row at its place

  change-at : (p : R → Bool) (rows : List R) (k : ℕ) (new d : R) → k < length rows → p (get_or rows k d) ≡ true → ((j : ℕ) → j < k → p (get_or rows j d) ≡ false)
      → set rows k new ≡ change_first p (λ old. new) rows
  change-at p [] k new d lt here before = absurd (omega (arith, lt))
  change-at p (row ∷ rest) zero new d lt here before = sym (ap (λ (b : Bool). cond b (new ∷ rest) (row ∷ change_first p (λ old. new) rest)) here)
  change-at p (row ∷ rest) (suc k) new d lt here before =
      ap (λ (rows : List R). row ∷ rows) (change-at p rest k new d (omega (arith, lt)) here (λ j less. before (suc j) (omega (arith, less))))
      ∙ sym (ap (λ (b : Bool). cond b (new ∷ rest) (row ∷ change_first p (λ old. new) rest)) (before 0 (omega arith)))

  place-is : (p : R → Bool) (rows : List R) (k : ℕ) → position p rows ≡ Some k → position_or_len p rows ≡ k
  place-is p rows k is =
      (elim (nat_lt (position_or_len p rows) (length rows)) as (λ b. cond b (Some (position_or_len p rows)) None ≡ Some k → position_or_len p rows ≡ k) [
        | true ↦ λ e. cc
        | false ↦ λ e. cc
      ]) is

  pub found : (p : R → Bool) (rows : List R) (k : ℕ) → position p rows ≡ Some k → slice_get rows k ≡ find p rows
  found p rows k is = ap (slice_get rows) (sym (place-is p rows k is)) ∙ sym (find_at p rows)

  -- what a slice has at a place
  pub copied : (rows : List R) (k : ℕ) (r : Option (Bor R)) → is_some r ≡ ltb k (length rows) → IfSome r (λ x. x.now ≡ get_or rows k x.now) → option_copied r ≡ slice_get rows k
  copied rows k None is of = sym (beyond rows k (ltb-false k (length rows) (sym is)))
  copied rows k (Some x) is of = sym (slice_get_read rows (length rows) k x.now refl (ltb-true k (length rows) (sym is)) of)

  pub changed : (p : R → Bool) (rows : List R) (k : ℕ) (new : R) → position p rows ≡ Some k → set rows k new ≡ change_first p (λ old. new) rows
  changed p rows k new is =
      let at = position-Some p rows k new is in
      change-at p rows k new new at.0 at.1 at.2

  -- The numbers after a change

  numbers-set : (rows : List R) (k : ℕ) (new d : R) → k < length rows → num new ≡ num (get_or rows k d) → numbers (set rows k new) ≡ numbers rows
  numbers-set [] k new d lt same = refl
  numbers-set (row ∷ rest) zero new d lt same = ap (λ n. n ∷ numbers rest) same
  numbers-set (row ∷ rest) (suc k) new d lt same = ap (λ (ns : List ℕ). num row ∷ ns) (numbers-set rest k new d (omega (arith, lt)) same)

  kept : (rows : List R) (x k : ℕ) (new : R) → position (is_numbered x) rows ≡ Some k → num new ≡ x → AreRising (numbers rows) → AreRising (numbers (set rows k new))
  kept rows x k new is same h =
      let at = position-Some (is_numbered x) rows k new is in
      subst AreRising (sym (numbers-set rows k new new at.0 (same ∙ sym (eqb-true (num (get_or rows k new)) x at.1)))) h

  -- a row in place of that of its number
  numbers-kept : (p : R → Bool) (new : R) (rows : List R) (before : R) → find p rows ≡ Some before → num new ≡ num before → numbers (change_first p (λ old. new) rows) ≡ numbers rows
  numbers-kept p new [] before is same = refl
  numbers-kept p new (row ∷ rest) before is same =
      (elim (p row) as (λ b. cond b (Some row) (find p rest) ≡ Some before → numbers (cond b (new ∷ rest) (row ∷ change_first p (λ old. new) rest)) ≡ numbers (row ∷ rest)) [
        | true ↦ λ here. (
            let one : row ≡ before = ap (λ (r : Option R). unwrap_or r row) here in
            ap (λ (n : ℕ). n ∷ numbers rest) (same ∙ ap num (sym one))
            )
        | false ↦ λ there. ap (λ (ns : List ℕ). num row ∷ ns) (numbers-kept p new rest before there same)
      ]) is

  above-pushed : (rows : List R) (n : ℕ) (new : R) → AreAbove n (numbers rows) → n < num new → AreAbove n (numbers (rows ++ new ∷ []))
  above-pushed [] n new h lt = (lt, tt)
  above-pushed (row ∷ rest) n new h lt = (h.0, above-pushed rest n new h.1 lt)

  pushed : (rows : List R) (new : R) → AreRising (numbers rows) → AreBelow (num new) (numbers rows) → AreRising (numbers (rows ++ new ∷ []))
  pushed [] new h below = (tt, tt)
  pushed (row ∷ rest) new h below = (above-pushed rest (num row) new h.0 below.0, pushed rest new h.1 below.1)

  above-filtered : (p : R → Bool) (rows : List R) (n : ℕ) → AreAbove n (numbers rows) → AreAbove n (numbers (filter p rows))
  above-filtered p [] n h = tt
  above-filtered p (row ∷ rest) n h =
      elim (p row) as (λ b. AreAbove n (numbers (cond b (row ∷ filter p rest) (filter p rest)))) [
        | true ↦ (h.0, above-filtered p rest n h.1)
        | false ↦ above-filtered p rest n h.1
      ]

  filtered : (p : R → Bool) (rows : List R) → AreRising (numbers rows) → AreRising (numbers (filter p rows))
  filtered p [] h = tt
  filtered p (row ∷ rest) h =
      elim (p row) as (λ b. AreRising (numbers (cond b (row ∷ filter p rest) (filter p rest)))) [
        | true ↦ (above-filtered p rest (num row) h.0, filtered p rest h.1)
        | false ↦ filtered p rest h.1
      ]

  -- Numbers below a bound

  pub below_filtered : (p : R → Bool) (rows : List R) (bound : ℕ) → AreBelow bound (numbers rows) → AreBelow bound (numbers (filter p rows))
  below_filtered p [] bound h = tt
  below_filtered p (row ∷ rest) bound h =
      elim (p row) as (λ b. AreBelow bound (numbers (cond b (row ∷ filter p rest) (filter p rest)))) [
        | true ↦ (h.0, below_filtered p rest bound h.1)
        | false ↦ below_filtered p rest bound h.1
      ]

  pub below_pushed : (rows : List R) (bound : ℕ) (new : R) → AreBelow bound (numbers rows) → num new ≡ bound → AreBelow (bound + 1) (numbers (rows ++ new ∷ []))
  below_pushed [] bound new h is = (omega (arith, is), tt)
  below_pushed (row ∷ rest) bound new h is = (omega (arith, h.0), below_pushed rest bound new h.1 is)

  pub below_changed : (p : R → Bool) (f : R → R) (rows : List R) (bound : ℕ) → ((row : R) → num (f row) ≡ num row) → AreBelow bound (numbers rows)
      → AreBelow bound (numbers (change_first p f rows))
  below_changed p f [] bound same h = tt
  below_changed p f (row ∷ rest) bound same h =
      elim (p row) as (λ b. AreBelow bound (numbers (cond b (f row ∷ rest) (row ∷ change_first p f rest)))) [
        | true ↦ (omega (arith, h.0, same row), h.1)
        | false ↦ (h.0, below_changed p f rest bound same h.1)
      ]

-- A changed row

pub execution_kept : (rows : List ExecutionRow) (x : ℕ) (new : ExecutionRow) → AreRising (execution_numbers rows) → MayReplaceExecution rows x new
    → AreRising (execution_numbers (change_first (is_execution x) (λ old. new) rows))
execution_kept rows x new h m =
    subst AreRising (sym (numbers-kept (λ (row : ExecutionRow). row.execution) (is_execution x) new rows m.0 m.1 m.2.execution)) h

pub execution_is : (rows : List ExecutionRow) (x : ℕ) (new : ExecutionRow) → MayReplaceExecution rows x new → new.execution ≡ x
execution_is rows x new m = m.2.execution ∙ eqb-true m.0.execution x (found-passes (is_execution x) rows m.0 m.1)

pub work_kept : (rows : List WorkRow) (w : ℕ) (new : WorkRow) → AreRising (work_numbers rows) → MayReplaceWork rows w new
    → AreRising (work_numbers (change_first (is_work w) (λ old. new) rows))
work_kept rows w new h m =
    subst AreRising (sym (numbers-kept (λ (row : WorkRow). row.work) (is_work w) new rows m.0 m.1 m.2.work)) h

pub work_is : (rows : List WorkRow) (w : ℕ) (new : WorkRow) → MayReplaceWork rows w new → new.work ≡ w
work_is rows w new m = m.2.work ∙ eqb-true m.0.work w (found-passes (is_work w) rows m.0 m.1)

-- An added row

pub instance_pushed : (rows : List JobInstance) (new : JobInstance) → AreRising (instance_numbers rows) → AreBelow new.instance (instance_numbers rows)
    → AreRising (instance_numbers (rows ++ new ∷ []))
instance_pushed rows new h below = pushed (λ (row : JobInstance). row.instance) rows new h below

pub execution_pushed : (rows : List ExecutionRow) (new : ExecutionRow) → AreRising (execution_numbers rows) → AreBelow new.execution (execution_numbers rows)
    → AreRising (execution_numbers (rows ++ new ∷ []))
execution_pushed rows new h below = pushed (λ (row : ExecutionRow). row.execution) rows new h below

pub work_pushed : (rows : List WorkRow) (new : WorkRow) → AreRising (work_numbers rows) → AreBelow new.work (work_numbers rows)
    → AreRising (work_numbers (rows ++ new ∷ []))
work_pushed rows new h below = pushed (λ (row : WorkRow). row.work) rows new h below

-- Rows that stay

pub instances_filtered : (p : JobInstance → Bool) (rows : List JobInstance) → AreRising (instance_numbers rows) → AreRising (instance_numbers (filter p rows))
instances_filtered p rows h = filtered (λ (row : JobInstance). row.instance) p rows h

pub executions_filtered : (p : ExecutionRow → Bool) (rows : List ExecutionRow) → AreRising (execution_numbers rows) → AreRising (execution_numbers (filter p rows))
executions_filtered p rows h = filtered (λ (row : ExecutionRow). row.execution) p rows h

pub works_filtered : (p : WorkRow → Bool) (rows : List WorkRow) → AreRising (work_numbers rows) → AreRising (work_numbers (filter p rows))
works_filtered p rows h = filtered (λ (row : WorkRow). row.work) p rows h
