-- The unfinished job executions of each job, where job executions are added, changed or gone.
use Rattle.std.proofs.Common.{◌≡◌, ℕ, ◌==◌, ◌&&◌, ◌||◌, Bool, true, false, not, cond, Option, None, Some, bytes_eq, List, [], ◌∷◌, ◌++◌, find, filter, map, length, refl, sym, ◌∙◌, ap, arith}
use mathlib.Core.Bool.{beq}
use Rattle.std.specs.List.{list_any}
use Rattle.std.proofs.lemmas.Bool.{eqb-true, ne_eqb}
use Rattle.batch_ids.specs.Statuses.{is_unfinished}
use Rattle.batch_history.proofs.Finding.{found-passes}
use Rattle.batch_history.specs.Answers.{is_running_of}
use Rattle.batch_history.specs.Lists.{change_first}
use Rattle.batch_history.specs.Replies.{is_execution, is_running_in, row_status}
use Rattle.batch_history.specs.Rows.{executions_there}
use Rattle.batch_history.specs.declared.rows.ExecutionRow.{ExecutionRow}
use Rattle.records.specs.Belonging.{executions_of}
use Rattle.records.specs.Indexes.{AreRunning, numbers_running, numbers_under, unfinished_executions, without_number}
use Rattle.records.specs.declared.running.RunningLists.{RunningLists}
use Rattle.records.proofs.Lists.{row_added}

-- the number of a job execution
abbrev number : ExecutionRow → ℕ
number row = row.execution

-- whether a job execution is unfinished
abbrev is_open : ExecutionRow → Bool
is_open row = is_unfinished (row_status row)

pub same_truth : (a b : Bool) → beq a b ≡ true → a ≡ b
same_truth true true same = refl
same_truth true false same = sym same
same_truth false true same = same
same_truth false false same = refl

pub other_truth : (a b : Bool) → beq a b ≡ false → a ≡ false → b ≡ true
other_truth true true apart off = refl
other_truth true false apart off = sym off
other_truth false true apart off = refl
other_truth false false apart off = sym apart

both-false : (b : Bool) → (b && false) ≡ false
both-false true = refl
both-false false = refl

both-true : (b : Bool) → (b && true) ≡ b
both-true true = refl
both-true false = refl

-- A job execution more

-- the unfinished ones that pass a test
abbrev open_by : (ExecutionRow → Bool) → List ExecutionRow → List ℕ
open_by test rows = map number (filter (λ row. test row && is_open row) rows)

looked-up : (test : ExecutionRow → Bool) (row : ExecutionRow) (rows : List ExecutionRow) → is_open row ≡ true
    → open_by test (rows ++ row ∷ []) ≡ cond (test row) (open_by test rows ++ row.execution ∷ []) (open_by test rows)
looked-up test row rows live =
    row_added number (λ one. test one && is_open one) row rows
    ∙ ap (λ b. cond b (open_by test rows ++ row.execution ∷ []) (open_by test rows)) (ap (λ b. test row && b) live ∙ both-true (test row))

passed-over : (test : ExecutionRow → Bool) (row : ExecutionRow) (rows : List ExecutionRow) → is_open row ≡ false → open_by test (rows ++ row ∷ []) ≡ open_by test rows
passed-over test row rows over =
    row_added number (λ one. test one && is_open one) row rows
    ∙ ap (λ b. cond b (open_by test rows ++ row.execution ∷ []) (open_by test rows)) (ap (λ b. test row && b) over ∙ both-false (test row))

-- those of a job, and those of a job instance
abbrev of_job : List ℕ → ExecutionRow → Bool
of_job q row = bytes_eq row.job q

abbrev of_instance : ℕ → ExecutionRow → Bool
of_instance i row = row.instance == i

pub running_added : (lists after : RunningLists) (row : ExecutionRow) (rows : List ExecutionRow) → is_unfinished (row_status row) ≡ true → AreRunning (Some lists) rows
    → ((q : List ℕ) → numbers_running after.by_name q ≡ cond (bytes_eq row.job q) (numbers_running lists.by_name q ++ row.execution ∷ []) (numbers_running lists.by_name q))
    → ((i : ℕ) → numbers_under after.by_instance i ≡ cond (row.instance == i) (numbers_under lists.by_instance i ++ row.execution ∷ []) (numbers_under lists.by_instance i))
    → AreRunning (Some after) (rows ++ row ∷ [])
running_added lists after row rows live known named owned = (
  λ q. named q ∙ (ap (λ ns. cond (bytes_eq row.job q) (ns ++ row.execution ∷ []) ns) (known.0 q) ∙ sym (looked-up (of_job q) row rows live)),
  λ i. owned i ∙ (ap (λ ns. cond (row.instance == i) (ns ++ row.execution ∷ []) ns) (known.1 i) ∙ sym (looked-up (of_instance i) row rows live)),
)

pub finished_added : (running : Option RunningLists) (row : ExecutionRow) (rows : List ExecutionRow) → is_unfinished (row_status row) ≡ false → AreRunning running rows
    → AreRunning running (rows ++ row ∷ [])
finished_added None row rows over known = tt
finished_added (Some lists) row rows over known =
    (λ q. known.0 q ∙ sym (passed-over (of_job q) row rows over), λ i. known.1 i ∙ sym (passed-over (of_instance i) row rows over))

-- A job execution that changes

-- a job execution that was found has the number that was looked for
pub one_number : (x : ℕ) (old : ExecutionRow) (rows : List ExecutionRow) → find (is_execution x) rows ≡ Some old → x ≡ old.execution
one_number x old rows found = sym (eqb-true old.execution x (found-passes (is_execution x) rows old found))

kept : (p : ExecutionRow → Bool) (x : ℕ) (old new : ExecutionRow) (rows : List ExecutionRow) → find (is_execution x) rows ≡ Some old → p new ≡ p old → new.execution ≡ old.execution
    → map number (filter p (change_first (is_execution x) (λ gone. new) rows)) ≡ map number (filter p rows)
kept p x old new [] found same one = refl
kept p x old new (row ∷ rest) found same one =
    let changed : List ExecutionRow = change_first (is_execution x) (λ gone. new) rest in
    (elim (is_execution x row) as (λ b. cond b (Some row) (find (is_execution x) rest) ≡ Some old
    → map number (filter p (cond b (new ∷ rest) (row ∷ changed))) ≡ map number (filter p (row ∷ rest))) [
      | true ↦ λ s.
          let is : row ≡ old = cc in
          ap (λ b. map number (cond b (new ∷ filter p rest) (filter p rest))) (same ∙ ap p (sym is))
          ∙ elim (p row) as (λ b. map number (cond b (new ∷ filter p rest) (filter p rest)) ≡ map number (cond b (row ∷ filter p rest) (filter p rest))) [
            | true ↦ ap (λ n. n ∷ map number (filter p rest)) (one ∙ ap number (sym is))
            | false ↦ refl
          ]
      | false ↦ λ s.
          let later : map number (filter p changed) ≡ map number (filter p rest) = kept p x old new rest s same one in
          elim (p row) as (λ b. map number (cond b (row ∷ filter p changed) (filter p changed)) ≡ map number (cond b (row ∷ filter p rest) (filter p rest))) [
            | true ↦ ap (λ ns. row.execution ∷ ns) later
            | false ↦ later
          ]
    ]) found

left : (p : ExecutionRow → Bool) (x : ℕ) (old new : ExecutionRow) (rows : List ExecutionRow) → find (is_execution x) rows ≡ Some old → p old ≡ true → p new ≡ false
    → map number (filter p (change_first (is_execution x) (λ gone. new) rows)) ≡ without_number x (map number (filter p rows))
left p x old new [] found was now = refl
left p x old new (row ∷ rest) found was now =
    let changed : List ExecutionRow = change_first (is_execution x) (λ gone. new) rest in
    let ns : List ℕ = map number (filter p rest) in
    (elim (is_execution x row) as (λ b. is_execution x row ≡ b → cond b (Some row) (find (is_execution x) rest) ≡ Some old
    → map number (filter p (cond b (new ∷ rest) (row ∷ changed))) ≡ without_number x (map number (filter p (row ∷ rest)))) [
      | true ↦ λ here s.
          let is : row ≡ old = cc in
          ap (λ b. map number (cond b (new ∷ filter p rest) (filter p rest))) now
          ∙ (sym (ap (λ b. cond b ns (row.execution ∷ without_number x ns)) here)
          ∙ sym (ap (λ b. without_number x (map number (cond b (row ∷ filter p rest) (filter p rest)))) (ap p is ∙ was)))
      | false ↦ λ off s.
          let later : map number (filter p changed) ≡ without_number x ns = left p x old new rest s was now in
          elim (p row) as (λ b. map number (cond b (row ∷ filter p changed) (filter p changed)) ≡ without_number x (map number (cond b (row ∷ filter p rest) (filter p rest)))) [
            | true ↦ ap (λ l. row.execution ∷ l) later ∙ sym (ap (λ b. cond b ns (row.execution ∷ without_number x ns)) off)
            | false ↦ later
          ]
    ]) refl found

-- it is as unfinished as it was
pub running_kept : (running : Option RunningLists) (x : ℕ) (old new : ExecutionRow) (rows : List ExecutionRow) → find (is_execution x) rows ≡ Some old → old.job ≡ new.job
    → old.instance ≡ new.instance → new.execution ≡ old.execution → is_unfinished (row_status new) ≡ is_unfinished (row_status old) → AreRunning running rows
    → AreRunning running (change_first (is_execution x) (λ gone. new) rows)
running_kept None x old new rows found job instance one same known = tt
running_kept (Some lists) x old new rows found job instance one same known = (
  λ q. known.0 q
      ∙ sym (kept (is_running_of q) x old new rows found (ap (λ b. bytes_eq new.job q && b) same ∙ ap (λ n. bytes_eq n q && is_open old) (sym job)) one),
  λ i. known.1 i
      ∙ sym (kept (is_running_in i) x old new rows found (ap (λ b. new.instance == i && b) same ∙ ap (λ n. n == i && is_open old) (sym instance)) one),
)

-- those that pass a test without one that was unfinished and is finished
less-one : (test : ExecutionRow → Bool) (x : ℕ) (old new : ExecutionRow) (rows : List ExecutionRow) → find (is_execution x) rows ≡ Some old → test old ≡ test new
    → new.execution ≡ old.execution → is_open old ≡ true → is_open new ≡ false
    → cond (test new) (without_number x (open_by test rows)) (open_by test rows) ≡ open_by test (change_first (is_execution x) (λ gone. new) rows)
less-one test x old new rows found same one was now =
    (elim (test new) as (λ b. test new ≡ b → cond b (without_number x (open_by test rows)) (open_by test rows) ≡ open_by test (change_first (is_execution x) (λ gone. new) rows)) [
      | true ↦ λ here.
          let before : (test old && is_open old) ≡ true = ap (λ b. b && is_open old) (same ∙ here) ∙ was in
          let after : (test new && is_open new) ≡ false = ap (λ b. b && is_open new) here ∙ now in
          sym (left (λ row. test row && is_open row) x old new rows found before after)
      | false ↦ λ off.
          let before : (test old && is_open old) ≡ false = ap (λ b. b && is_open old) (same ∙ off) in
          let after : (test new && is_open new) ≡ false = ap (λ b. b && is_open new) off in
          sym (kept (λ row. test row && is_open row) x old new rows found (after ∙ sym before) one)
    ]) refl

-- it was unfinished and is finished
pub running_left : (lists after : RunningLists) (x : ℕ) (old new : ExecutionRow) (rows : List ExecutionRow) → find (is_execution x) rows ≡ Some old → old.job ≡ new.job
    → old.instance ≡ new.instance → new.execution ≡ old.execution → is_unfinished (row_status old) ≡ true → is_unfinished (row_status new) ≡ false
    → AreRunning (Some lists) rows
    → ((q : List ℕ) → numbers_running after.by_name q ≡ cond (bytes_eq new.job q) (without_number x (numbers_running lists.by_name q)) (numbers_running lists.by_name q))
    → ((i : ℕ) → numbers_under after.by_instance i ≡ cond (new.instance == i) (without_number x (numbers_under lists.by_instance i)) (numbers_under lists.by_instance i))
    → AreRunning (Some after) (change_first (is_execution x) (λ gone. new) rows)
running_left lists after x old new rows found job instance one was now known named owned = (
  λ q. named q ∙ (ap (λ ns. cond (bytes_eq new.job q) (without_number x ns) ns) (known.0 q) ∙ less-one (of_job q) x old new rows found (ap (λ n. bytes_eq n q) job) one was now),
  λ i. owned i ∙ (ap (λ ns. cond (new.instance == i) (without_number x ns) ns) (known.1 i) ∙ less-one (of_instance i) x old new rows found (ap (λ n. n == i) instance) one was now),
)

-- Job executions that are gone

none-of : (i : ℕ) (test : ExecutionRow → Bool) (rows : List ExecutionRow) → list_any (is_running_in i) rows ≡ false
    → open_by test (executions_there (λ j. j == i) rows) ≡ open_by test rows
none-of i test [] none = refl
none-of i test (row ∷ rest) none =
    let p : ExecutionRow → Bool = λ one. test one && is_open one in
    let there : List ExecutionRow = executions_there (λ j. j == i) rest in
    (elim (row.instance == i) as (λ b. ((b && is_open row) || list_any (is_running_in i) rest) ≡ false
    → map number (filter p (cond (not b) (row ∷ there) there)) ≡ map number (filter p (row ∷ rest))) [
      | true ↦ λ n.
          (elim (is_open row) as (λ b. is_open row ≡ b → (b || list_any (is_running_in i) rest) ≡ false → map number (filter p there) ≡ map number (filter p (row ∷ rest))) [
            | true ↦ λ live m. cc
            | false ↦ λ over m.
                none-of i test rest m
                ∙ sym (ap (λ b. map number (cond b (row ∷ filter p rest) (filter p rest))) (ap (λ b. test row && b) over ∙ both-false (test row)))
          ]) refl n
      | false ↦ λ n.
          let later : map number (filter p there) ≡ map number (filter p rest) = none-of i test rest n in
          elim (p row) as (λ b. map number (cond b (row ∷ filter p there) (filter p there)) ≡ map number (cond b (row ∷ filter p rest) (filter p rest))) [
            | true ↦ ap (λ ns. row.execution ∷ ns) later
            | false ↦ later
          ]
    ]) none

pub running_there : (running : Option RunningLists) (i : ℕ) (rows : List ExecutionRow) → list_any (is_running_in i) rows ≡ false
    → AreRunning running rows → AreRunning running (executions_there (λ j. j == i) rows)
running_there None i rows none known = tt
running_there (Some lists) i rows none known =
    (λ q. known.0 q ∙ sym (none-of i (of_job q) rows none), λ j. known.1 j ∙ sym (none-of i (of_instance j) rows none))

-- Whether a job instance has one

pub some_open : (i : ℕ) (rows : List ExecutionRow) → not (length (unfinished_executions i rows) == 0) ≡ list_any (is_running_in i) rows
some_open i [] = refl
some_open i (row ∷ rest) =
    let rests : List ℕ = unfinished_executions i rest in
    elim (is_running_in i row) as (λ b. not (length (map number (cond b (row ∷ filter (is_running_in i) rest) (filter (is_running_in i) rest))) == 0) ≡ (b || list_any (is_running_in i) rest)) [
      | true ↦ ap not (ne_eqb (length (row.execution ∷ rests)) 0 (λ e. omega (arith, e)))
      | false ↦ some_open i rest
    ]

pub open_among_own : (i : ℕ) (rows : List ExecutionRow) → list_any is_open (executions_of i rows) ≡ list_any (is_running_in i) rows
open_among_own i [] = refl
open_among_own i (row ∷ rest) =
    elim (row.instance == i) as (λ b. list_any is_open (cond b (row ∷ executions_of i rest) (executions_of i rest)) ≡ ((b && is_open row) || list_any (is_running_in i) rest)) [
      | true ↦ ap (λ b. is_open row || b) (open_among_own i rest)
      | false ↦ open_among_own i rest
    ]
