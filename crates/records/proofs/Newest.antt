-- The last of rising numbers is above each of the others.
use Rattle.std.proofs.Common.{◌≡◌, ℕ, suc, ◌==◌, ◌<◌, ◌-◌, ◌||◌, Bool, true, false, cond, nat_lt, Option, None, Some, List, [], ◌∷◌, filter, slice_get, length, refl, sym, ◌∙◌, ap, subst, arith, get_or}
use Rattle.std.specs.List.{last_or, list_any}
use Rattle.std.proofs.lemmas.Bool.{ltb-true, lt-ltb}
use Rattle.std.proofs.lemmas.Option.{slice_get-get_or}
use Rattle.std.proofs.Math.Bool.{or-false}
use Rattle.batch_history.specs.declared.rows.ExecutionRow.{ExecutionRow}
use Rattle.records.specs.Belonging.{executions_of}
use Rattle.records.specs.Maps.{AreAbove, AreRising, execution_numbers}
use Rattle.records.proofs.Indexed.{above_filtered}

last-at : {X : Type 0} (x : X) (xs : List X) → slice_get (x ∷ xs) (length (x ∷ xs) - 1) ≡ last_or (Some x) xs
last-at x [] = refl
last-at {X = X} x (y ∷ ys) =
    let further : length (x ∷ y ∷ ys) - 1 ≡ suc (length (y ∷ ys) - 1) = omega arith in
    ap (λ (k : ℕ). slice_get (x ∷ y ∷ ys) k) further ∙ last-at y ys

last_there : (ns : List ℕ) (n : ℕ) → slice_get ns (length ns - 1) ≡ Some n → last_or None ns ≡ Some n
last_there [] n is = cc
last_there (m ∷ ns) n is = sym (last-at m ns) ∙ is

last-above : (ns : List ℕ) (o : Option ℕ) (m n : ℕ) → AreAbove m ns → ((k : ℕ) → o ≡ Some k → m < k) → last_or o ns ≡ Some n → m < n
last-above [] o m n above start is = start n is
last-above (k ∷ ns) o m n above start is = last-above ns (Some k) m n above.1 (λ j same. (let one : k ≡ j = cc in subst (λ (i : ℕ). m < i) one above.0)) is

either-above : (x m n : ℕ) → m < n → (nat_lt x m || nat_lt x n) ≡ nat_lt x n
either-above x m n up =
    (elim (nat_lt x m) as (λ b. nat_lt x m ≡ b → (b || nat_lt x n) ≡ nat_lt x n) [
      | true ↦ λ is. sym (lt-ltb x n (omega (arith, ltb-true x m is, up)))
      | false ↦ λ _. refl
    ]) refl

-- whether one of them is above x is whether the last is
any-above : (ns : List ℕ) (x n : ℕ) → AreRising ns → last_or None ns ≡ Some n → list_any (λ k. nat_lt x k) ns ≡ nat_lt x n
any-above [] x n rising is = cc
any-above (m ∷ []) x n rising is = (let one : m ≡ n = cc in or-false (nat_lt x m) ∙ ap (λ (k : ℕ). nat_lt x k) one)
any-above (m ∷ k ∷ ns) x n rising is =
    let rest : list_any (λ j. nat_lt x j) (k ∷ ns) ≡ nat_lt x n = any-above (k ∷ ns) x n rising.1 is in
    let up : m < n = last-above (k ∷ ns) None m n rising.0 (λ j none. cc) is in
    ap (λ b. nat_lt x m || b) rest ∙ either-above x m n up

rising-filtered : (p : ExecutionRow → Bool) (rows : List ExecutionRow) → AreRising (execution_numbers rows) → AreRising (execution_numbers (filter p rows))
rising-filtered p [] rising = rising
rising-filtered p (row ∷ rest) rising =
    let more = rising-filtered p rest rising.1 in
    elim (p row) as (λ b. AreRising (execution_numbers (cond b (row ∷ filter p rest) (filter p rest)))) [
      | true ↦ (above_filtered (λ (row : ExecutionRow). row.execution) (λ (row : ExecutionRow). row.execution) p rest row.execution rising.0, more)
      | false ↦ more
    ]

any-numbered : (x : ℕ) (rows : List ExecutionRow) → list_any (λ row. nat_lt x row.execution) rows ≡ list_any (λ n. nat_lt x n) (execution_numbers rows)
any-numbered x [] = refl
any-numbered x (row ∷ rest) = ap (λ b. nat_lt x row.execution || b) (any-numbered x rest)

pub newest_above : (i x n : ℕ) (rows : List ExecutionRow) → AreRising (execution_numbers rows)
    → slice_get (execution_numbers (executions_of i rows)) (length (execution_numbers (executions_of i rows)) - 1) ≡ Some n
    → nat_lt x n ≡ list_any (λ row. nat_lt x row.execution) (executions_of i rows)
newest_above i x n rows rising is =
    let own = executions_of i rows in
    sym (any-numbered x own ∙ any-above (execution_numbers own) x n (rising-filtered (λ row. row.instance == i) rows rising) (last_there (execution_numbers own) n is))

none-newest : (ns : List ℕ) → slice_get ns (length ns - 1) ≡ None → ns ≡ []
none-newest [] is = refl
none-newest (n ∷ ns) is =
    let last = slice_get-get_or (n ∷ ns) (length (n ∷ ns) - 1) n (omega arith) in
    absurd (let no : Some (get_or (n ∷ ns) (length (n ∷ ns) - 1) n) ≡ None = sym last ∙ is in cc)

pub none_above : (x : ℕ) (rows : List ExecutionRow) → slice_get (execution_numbers rows) (length (execution_numbers rows) - 1) ≡ None
    → list_any (λ row. nat_lt x row.execution) rows ≡ false
none_above x rows is = any-numbered x rows ∙ ap (list_any (λ n. nat_lt x n)) (none-newest (execution_numbers rows) is)
