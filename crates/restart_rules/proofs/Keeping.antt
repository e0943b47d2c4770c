-- The partitions of a step, one after another, and the job executions with work of it.
use Rattle.std.proofs.Common.{◌≡◌, ℕ, suc, ◌+◌, ◌-◌, ◌==◌, ◌<◌, ◌||◌, not, Bool, true, false, cond, List, [], ◌∷◌, ◌++◌, map, filter, length, take, drop, get_or, sym, ◌∙◌, ap, arith}
use Rattle.std.specs.List.{list_all, range_with_len}
use Rattle.std.proofs.lemmas.List.{append_assoc, take_more, drop_more, map-append, reverse-append}
use Rattle.batch_history.specs.declared.rows.WorkRow.{WorkRow}
use Rattle.batch_history.specs.Partitions.{completes_in, done_among, each_once, executions_with, is_done_after, is_kept_after}

-- whether each of these partitions is kept after the work before a job execution, or COMPLETED in it
abbrev pub are_over : List ℕ → List WorkRow → List WorkRow → ℕ → List ℕ → Bool
are_over done before works y partitions = list_all (λ p. is_kept_after done before p || completes_in works y p) partitions

-- the numbers from one on that is below the end begin with it
pub numbers_ahead : (p n : ℕ) → p < n → range_with_len p (n - p) ≡ p ∷ range_with_len (p + 1) (n - (p + 1))
numbers_ahead p n lt =
    let one : n - p ≡ suc (n - (p + 1)) = omega (arith, lt) in
    ap (range_with_len p) one

-- so do those that pass a test, where it passes
pub passing_ahead : (test : ℕ → Bool) (p n : ℕ) (before all : List ℕ) → p < n → test p ≡ true → before ++ filter test (range_with_len p (n - p)) ≡ all
    → (before ++ p ∷ []) ++ filter test (range_with_len (p + 1) (n - (p + 1))) ≡ all
passing_ahead test p n before all lt passes so_far =
    let rest : List ℕ = filter test (range_with_len (p + 1) (n - (p + 1))) in
    append_assoc before (p ∷ []) rest
    ∙ (ap (λ b. before ++ cond b (p ∷ rest) rest) (sym passes) ∙ (ap (λ l. before ++ filter test l) (sym (numbers_ahead p n lt)) ∙ so_far))

-- and where it fails, it is left out
pub failing_ahead : (test : ℕ → Bool) (p n : ℕ) (before all : List ℕ) → p < n → test p ≡ false → before ++ filter test (range_with_len p (n - p)) ≡ all
    → before ++ filter test (range_with_len (p + 1) (n - (p + 1))) ≡ all
failing_ahead test p n before all lt fails so_far =
    let rest : List ℕ = filter test (range_with_len (p + 1) (n - (p + 1))) in
    ap (λ b. before ++ cond b (p ∷ rest) rest) (sym fails) ∙ (ap (λ l. before ++ filter test l) (sym (numbers_ahead p n lt)) ∙ so_far)

-- a work item more puts its job execution first
pub one_more : (rows : List WorkRow) (row : WorkRow) → executions_with (rows ++ row ∷ []) ≡ row.execution ∷ filter (λ y. not (y == row.execution)) (executions_with rows)
one_more rows row = ap (λ (l : List WorkRow). each_once (map (λ (r : WorkRow). r.execution) l)) (reverse-append rows (row ∷ []))

pub executions_more : {A : Type 0} (f : A → WorkRow) (works : List A) (i : ℕ) (d : A) → i < length works
    → executions_with (map f (take (i + 1) works))
    ≡ (f (get_or works i d)).execution ∷ filter (λ y. not (y == (f (get_or works i d)).execution)) (executions_with (map f (take i works)))
executions_more f works i d lt =
    ap executions_with (ap (map f) (take_more works i d lt) ∙ map-append f (take i works) (get_or works i d ∷ [])) ∙ one_more (map f (take i works)) (f (get_or works i d))

-- the job execution that stands here is done with the step or not
pub done_at : (n : ℕ) (works : List WorkRow) (executions : List ℕ) (place d : ℕ) → place < length executions
    → done_among n works (drop place executions)
    ≡ cond (is_done_after n (done_among n works (drop (place + 1) executions)) works (get_or executions place d))
    (get_or executions place d ∷ done_among n works (drop (place + 1) executions)) (done_among n works (drop (place + 1) executions))
done_at n works executions place d lt = ap (done_among n works) (drop_more executions place d lt)
