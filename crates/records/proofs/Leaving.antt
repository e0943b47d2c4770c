-- Rows that stay, where those of some numbers leave.
use Rattle.std.proofs.Common.{◌≡◌, ℕ, zero, suc, ◌<◌, ◌≤◌, ◌==◌, ◌||◌, Bool, true, false, not, cond, Option, None, Some, List, [], ◌∷◌, find, filter, map, drop, length, get_or, refl, ◌∙◌, ap, arith}
use Rattle.std.specs.List.{list_any}
use Rattle.std.specs.Option.{option_map}
use Rattle.std.proofs.lemmas.Bool.{eqb-true, eq-eqb, ne_eqb}
use Rattle.batch_history.specs.Lists.{is_at}
use Rattle.batch_history.specs.Rows.{instance_in, is_gone, executions_there, works_there}
use Rattle.batch_history.specs.declared.rows.ExecutionRow.{ExecutionRow}
use Rattle.batch_history.specs.declared.rows.WorkRow.{WorkRow}
use Rattle.records.specs.Indexes.{AreIndexed}
use Rattle.records.specs.Maps.{Maps, AreAbove, AreRising}
use Rattle.records.proofs.Indexed.{among_own, flipped}

-- Those that one of some numbers has leave, one number after the other
module _ {R : Type 0} (has : ℕ → R → Bool) where
  abbrev pub left_by : List ℕ → List R → List R
  left_by ns rows = filter (λ row. not (list_any (λ n. has n row) ns)) rows

  abbrev pub left_by_one : ℕ → List R → List R
  left_by_one n rows = filter (λ row. not (has n row)) rows

  all-left : (rows : List R) → left_by [] rows ≡ rows
  all-left [] = refl
  all-left (row ∷ rest) = ap (λ (l : List R). row ∷ l) (all-left rest)

  one-less : (n : ℕ) (ns : List ℕ) (rows : List R) → left_by ns (left_by_one n rows) ≡ left_by (n ∷ ns) rows
  one-less n ns [] = refl
  one-less n ns (row ∷ rest) =
      let more : left_by ns (left_by_one n rest) ≡ left_by (n ∷ ns) rest = one-less n ns rest in
      elim (has n row) as (λ b. left_by ns (cond (not b) (row ∷ left_by_one n rest) (left_by_one n rest))
      ≡ cond (not (b || list_any (λ k. has k row) ns)) (row ∷ left_by (n ∷ ns) rest) (left_by (n ∷ ns) rest)) [
        | true ↦ more
        | false ↦ ap (λ (l : List R). cond (not (list_any (λ k. has k row) ns)) (row ∷ l) l) more
      ]

  pub less_at : (ns : List ℕ) (k j d : ℕ) (rows : List R) → j ≡ suc k → k < length ns
      → left_by (drop j ns) (left_by_one (get_or ns k d) rows) ≡ left_by (drop k ns) rows
  less_at ns k j d rows is lt = ap (λ (i : ℕ). left_by (drop i ns) (left_by_one (get_or ns k d) rows)) is ∙ by-one ns k lt
    where
      by-one : (ns : List ℕ) (k : ℕ) → k < length ns → left_by (drop (suc k) ns) (left_by_one (get_or ns k d) rows) ≡ left_by (drop k ns) rows
      by-one [] k lt = absurd (omega (arith, lt))
      by-one (n ∷ ns) zero lt = one-less n ns rows
      by-one (n ∷ ns) (suc k) lt = by-one ns k (omega (arith, lt))

  pub none_left : (ns : List ℕ) (k : ℕ) (rows : List R) → length ns ≤ k → left_by (drop k ns) rows ≡ rows
  none_left [] zero rows le = all-left rows
  none_left [] (suc k) rows le = all-left rows
  none_left (n ∷ ns) zero rows le = absurd (omega (arith, le))
  none_left (n ∷ ns) (suc k) rows le = none_left ns k rows (omega (arith, le))

-- Those that belong to a job instance leave

module _ {R : Type 0} (num : R → ℕ) where
  above-found : (m n : ℕ) (rows : List R) (row : R) → AreAbove m (map num rows) → find (λ r. num r == n) rows ≡ Some row → m < n
  above-found m n [] row above is = cc
  above-found m n (one ∷ rest) row above is =
      (elim (num one == n) as (λ b. num one == n ≡ b → cond b (Some one) (find (λ r. num r == n) rest) ≡ Some row → m < n) [
        | true ↦ λ here found. omega (arith, above.0, eqb-true (num one) n here)
        | false ↦ λ off found. above-found m n rest row above.1 found
      ]) refl is

  -- two tests that agree at each row that is found by its number
  filter-found : (p q : R → Bool) (rows : List R) → AreRising (map num rows) → ((row : R) → find (λ r. num r == num row) rows ≡ Some row → p row ≡ q row)
      → filter p rows ≡ filter q rows
  filter-found p q [] rising agree = refl
  filter-found p q (one ∷ rest) rising agree =
      let here : p one ≡ q one = agree one (ap (λ (b : Bool). cond b (Some one) (find (λ r. num r == num one) rest)) (eq-eqb (num one) (num one) refl)) in
      let later : (row : R) → find (λ r. num r == num row) rest ≡ Some row → p row ≡ q row =
      λ row is. agree row (ap (λ (b : Bool). cond b (Some one) (find (λ r. num r == num row) rest)) (ne_eqb (num one) (num row) (λ e. omega (arith, above-found (num one) (num row) rest row rising.0 is, e))) ∙ is) in
      ap (λ (b : Bool). cond b (one ∷ filter p rest) (filter p rest)) here
      ∙ ap (λ (l : List R). cond (q one) (one ∷ l) l) (filter-found p q rest rising.1 later)

pub executions_purged : (i : ℕ) (maps : Maps) (names : List ℕ → List ℕ) (executions works : ℕ → List ℕ) → AreIndexed maps names executions works
    → left_by (λ n (row : ExecutionRow). n == row.execution) (executions i) maps.executions ≡ executions_there (λ j. j == i) maps.executions
executions_purged i maps names executions works are =
    filter-found (λ (row : ExecutionRow). row.execution) (λ row. not (list_any (λ n. n == row.execution) (executions i))) (λ row. not (row.instance == i)) maps.executions are.keyed.executions
    (λ row is. ap not (ap (list_any (λ n. n == row.execution)) (are.executions_by_instance i)
    ∙ (among_own (λ (r : ExecutionRow). r.execution) (λ (r : ExecutionRow). r.instance) i row.execution maps.executions are.keyed.executions
    ∙ ap (λ (o : Option ExecutionRow). is_gone (λ k. k == i) (option_map (λ (r : ExecutionRow). r.instance) o)) is)))

pub works_purged : (i : ℕ) (maps : Maps) (names : List ℕ → List ℕ) (executions works : ℕ → List ℕ) → AreIndexed maps names executions works
    → left_by (λ x (row : WorkRow). list_any (λ n. n == row.work) (works x)) (executions i) maps.works ≡ works_there (λ j. j == i) maps.executions maps.works
works_purged i maps names executions works are =
    filter-found (λ (row : WorkRow). row.work) (λ row. not (list_any (λ x. list_any (λ n. n == row.work) (works x)) (executions i)))
    (λ row. not (is_gone (λ j. j == i) (instance_in maps.executions row.execution))) maps.works are.keyed.works
    (λ row is.
    let own : (x : ℕ) → list_any (λ n. n == row.work) (works x) ≡ (x == row.execution) =
    λ x. ap (list_any (λ n. n == row.work)) (are.works_by_execution x)
    ∙ (among_own (λ (r : WorkRow). r.work) (λ (r : WorkRow). r.execution) x row.work maps.works are.keyed.works
    ∙ (ap (λ (o : Option WorkRow). is_gone (λ k. k == x) (option_map (λ (r : WorkRow). r.execution) o)) is
    ∙ flipped row.execution x)) in
    ap not ((λ k. list_any (λ x. own x k) (executions i))
    ∙ (ap (list_any (λ x. x == row.execution)) (are.executions_by_instance i)
    ∙ among_own (λ (r : ExecutionRow). r.execution) (λ (r : ExecutionRow). r.instance) i row.execution maps.executions are.keyed.executions)))

pub gone_at : (i : ℕ) (instance : Option ℕ) → is_at i instance ≡ is_gone (λ j. j == i) instance
gone_at i None = refl
gone_at i (Some j) = refl
