-- Counts by batch status, where job executions are added, changed or gone.
use Rattle.std.proofs.Common.{◌≡◌, ℕ, ◌+◌, ◌-◌, ◌≤◌, ◌==◌, Bool, true, false, not, cond, Some, find, length, List, [], ◌∷◌, ◌++◌, refl, sym, ◌∙◌, ap, subst, arith}
use Rattle.batch_ids.specs.declared.status.BatchStatus.{BatchStatus}
use Rattle.batch_ids.specs.declared.status.BatchStatus.TheVariants.{Starting, Started, Stopping, Stopped, Failed, Completed, Abandoned}
use Rattle.batch_history.specs.declared.query.CountsByStatus.{CountsByStatus}
use Rattle.batch_history.specs.declared.rows.ExecutionRow.{ExecutionRow}
use Rattle.batch_history.specs.Answers.{no_counts, with_one_more, counted, counts_of, total}
use Rattle.batch_history.specs.Lists.{change_first}
use Rattle.batch_history.specs.Replies.{row_status}
use Rattle.batch_history.specs.Rows.{executions_there}
use Rattle.records.specs.Belonging.{executions_of}

-- the counts of two lists together
abbrev pub both : CountsByStatus → CountsByStatus → CountsByStatus
both a b =
    record {
      starting = a.starting + b.starting;
      started = a.started + b.started;
      stopping = a.stopping + b.stopping;
      stopped = a.stopped + b.stopped;
      failed = a.failed + b.failed;
      completed = a.completed + b.completed;
      abandoned = a.abandoned + b.abandoned;
    }

-- one that is counted with the first list, or with the second
both-counted : (status : BatchStatus) (a b : CountsByStatus) → both (with_one_more status a) b ≡ both a (with_one_more status b)
both-counted Starting a b = let e : a.starting + 1 + b.starting ≡ a.starting + (b.starting + 1) = omega arith in ap (λ (n : ℕ). record (both a b) { starting = n }) e
both-counted Started a b = let e : a.started + 1 + b.started ≡ a.started + (b.started + 1) = omega arith in ap (λ (n : ℕ). record (both a b) { started = n }) e
both-counted Stopping a b = let e : a.stopping + 1 + b.stopping ≡ a.stopping + (b.stopping + 1) = omega arith in ap (λ (n : ℕ). record (both a b) { stopping = n }) e
both-counted Stopped a b = let e : a.stopped + 1 + b.stopped ≡ a.stopped + (b.stopped + 1) = omega arith in ap (λ (n : ℕ). record (both a b) { stopped = n }) e
both-counted Failed a b = let e : a.failed + 1 + b.failed ≡ a.failed + (b.failed + 1) = omega arith in ap (λ (n : ℕ). record (both a b) { failed = n }) e
both-counted Completed a b = let e : a.completed + 1 + b.completed ≡ a.completed + (b.completed + 1) = omega arith in ap (λ (n : ℕ). record (both a b) { completed = n }) e
both-counted Abandoned a b = let e : a.abandoned + 1 + b.abandoned ≡ a.abandoned + (b.abandoned + 1) = omega arith in ap (λ (n : ℕ). record (both a b) { abandoned = n }) e

-- nothing is counted with the first list
none-before : (a : CountsByStatus) → both no_counts a ≡ a
none-before a = grind arith

-- one more is counted
total-counted : (status : BatchStatus) (a : CountsByStatus) → total (with_one_more status a) ≡ total a + 1
total-counted Starting a = omega arith
total-counted Started a = omega arith
total-counted Stopping a = omega arith
total-counted Stopped a = omega arith
total-counted Failed a = omega arith
total-counted Completed a = omega arith
total-counted Abandoned a = omega arith

-- one more is counted with both lists together
counted-both : (status : BatchStatus) (a b : CountsByStatus) → both (with_one_more status a) b ≡ with_one_more status (both a b)
counted-both Starting a b = let e : a.starting + 1 + b.starting ≡ a.starting + b.starting + 1 = omega arith in ap (λ (n : ℕ). record (both a b) { starting = n }) e
counted-both Started a b = let e : a.started + 1 + b.started ≡ a.started + b.started + 1 = omega arith in ap (λ (n : ℕ). record (both a b) { started = n }) e
counted-both Stopping a b = let e : a.stopping + 1 + b.stopping ≡ a.stopping + b.stopping + 1 = omega arith in ap (λ (n : ℕ). record (both a b) { stopping = n }) e
counted-both Stopped a b = let e : a.stopped + 1 + b.stopped ≡ a.stopped + b.stopped + 1 = omega arith in ap (λ (n : ℕ). record (both a b) { stopped = n }) e
counted-both Failed a b = let e : a.failed + 1 + b.failed ≡ a.failed + b.failed + 1 = omega arith in ap (λ (n : ℕ). record (both a b) { failed = n }) e
counted-both Completed a b = let e : a.completed + 1 + b.completed ≡ a.completed + b.completed + 1 = omega arith in ap (λ (n : ℕ). record (both a b) { completed = n }) e
counted-both Abandoned a b = let e : a.abandoned + 1 + b.abandoned ≡ a.abandoned + b.abandoned + 1 = omega arith in ap (λ (n : ℕ). record (both a b) { abandoned = n }) e

-- one of a status alone
abbrev one : BatchStatus → CountsByStatus
one status = with_one_more status no_counts

counted-one : (status : BatchStatus) (a : CountsByStatus) → with_one_more status a ≡ both (one status) a
counted-one status a = ap (with_one_more status) (sym (none-before a)) ∙ sym (counted-both status no_counts a)

-- in any order
both-turned : (a b c : CountsByStatus) → both a (both b c) ≡ both b (both a c)
both-turned a b c = grind arith

counted-turned : (s t : BatchStatus) (a : CountsByStatus) → with_one_more s (with_one_more t a) ≡ with_one_more t (with_one_more s a)
counted-turned s t a =
    counted-one s (with_one_more t a)
    ∙ (ap (both (one s)) (counted-one t a)
    ∙ (both-turned (one s) (one t) a
    ∙ (ap (both (one t)) (sym (counted-one s a)) ∙ sym (counted-one t (with_one_more s a)))))

-- one of a status less
abbrev with_one_less : BatchStatus → CountsByStatus → CountsByStatus
with_one_less Starting counts = record counts { starting = counts.starting - 1 }
with_one_less Started counts = record counts { started = counts.started - 1 }
with_one_less Stopping counts = record counts { stopping = counts.stopping - 1 }
with_one_less Stopped counts = record counts { stopped = counts.stopped - 1 }
with_one_less Failed counts = record counts { failed = counts.failed - 1 }
with_one_less Completed counts = record counts { completed = counts.completed - 1 }
with_one_less Abandoned counts = record counts { abandoned = counts.abandoned - 1 }

more-less : (status : BatchStatus) (a : CountsByStatus) → with_one_less status (with_one_more status a) ≡ a
more-less Starting a = let e : a.starting + 1 - 1 ≡ a.starting = omega arith in ap (λ (n : ℕ). record a { starting = n }) e
more-less Started a = let e : a.started + 1 - 1 ≡ a.started = omega arith in ap (λ (n : ℕ). record a { started = n }) e
more-less Stopping a = let e : a.stopping + 1 - 1 ≡ a.stopping = omega arith in ap (λ (n : ℕ). record a { stopping = n }) e
more-less Stopped a = let e : a.stopped + 1 - 1 ≡ a.stopped = omega arith in ap (λ (n : ℕ). record a { stopped = n }) e
more-less Failed a = let e : a.failed + 1 - 1 ≡ a.failed = omega arith in ap (λ (n : ℕ). record a { failed = n }) e
more-less Completed a = let e : a.completed + 1 - 1 ≡ a.completed = omega arith in ap (λ (n : ℕ). record a { completed = n }) e
more-less Abandoned a = let e : a.abandoned + 1 - 1 ≡ a.abandoned = omega arith in ap (λ (n : ℕ). record a { abandoned = n }) e

same-less : (status : BatchStatus) (a b : CountsByStatus) → with_one_more status a ≡ with_one_more status b → a ≡ b
same-less status a b same = sym (more-less status a) ∙ (ap (with_one_less status) same ∙ more-less status b)

one-there : (status : BatchStatus) (a : CountsByStatus) → 1 ≤ counted status (with_one_more status a)
one-there Starting a = omega arith
one-there Started a = omega arith
one-there Stopping a = omega arith
one-there Stopped a = omega arith
one-there Failed a = omega arith
one-there Completed a = omega arith
one-there Abandoned a = omega arith

-- as many as there are rows
pub total_rows : (rows : List ExecutionRow) → total (counts_of rows) ≡ length rows
total_rows [] = refl
total_rows (row ∷ rest) =
    let e : total (counts_of rest) ≡ length rest = total_rows rest in
    total-counted (row_status row) (counts_of rest) ∙ omega (arith, e)

-- A job execution more

pub counts_added : (row : ExecutionRow) (rows : List ExecutionRow) → counts_of (rows ++ row ∷ []) ≡ with_one_more (row_status row) (counts_of rows)
counts_added row [] = refl
counts_added row (first ∷ rest) =
    ap (with_one_more (row_status first)) (counts_added row rest) ∙ counted-turned (row_status first) (row_status row) (counts_of rest)

-- A job execution that changes

-- the others
abbrev without_first : (ExecutionRow → Bool) → List ExecutionRow → List ExecutionRow
without_first p [] = []
without_first p (row ∷ rest) = cond (p row) rest (row ∷ without_first p rest)

found-counted : (p : ExecutionRow → Bool) (old : ExecutionRow) (rows : List ExecutionRow) → find p rows ≡ Some old
    → counts_of rows ≡ with_one_more (row_status old) (counts_of (without_first p rows))
found-counted p old [] found = cc
found-counted p old (row ∷ rest) found =
    (elim (p row) as (λ b. cond b (Some row) (find p rest) ≡ Some old
    → counts_of (row ∷ rest) ≡ with_one_more (row_status old) (counts_of (cond b rest (row ∷ without_first p rest)))) [
      | true ↦ λ s. let same : row ≡ old = cc in ap (λ r. with_one_more (row_status r) (counts_of rest)) same
      | false ↦ λ s. ap (with_one_more (row_status row)) (found-counted p old rest s) ∙ counted-turned (row_status row) (row_status old) (counts_of (without_first p rest))
    ]) found

new-counted : (p : ExecutionRow → Bool) (old new : ExecutionRow) (rows : List ExecutionRow) → find p rows ≡ Some old
    → counts_of (change_first p (λ gone. new) rows) ≡ with_one_more (row_status new) (counts_of (without_first p rows))
new-counted p old new [] found = cc
new-counted p old new (row ∷ rest) found =
    (elim (p row) as (λ b. cond b (Some row) (find p rest) ≡ Some old
    → counts_of (cond b (new ∷ rest) (row ∷ change_first p (λ gone. new) rest)) ≡ with_one_more (row_status new) (counts_of (cond b rest (row ∷ without_first p rest)))) [
      | true ↦ λ s. refl
      | false ↦ λ s. ap (with_one_more (row_status row)) (new-counted p old new rest s) ∙ counted-turned (row_status row) (row_status new) (counts_of (without_first p rest))
    ]) found

pub found_there : (p : ExecutionRow → Bool) (old : ExecutionRow) (rows : List ExecutionRow) (counts : CountsByStatus) → find p rows ≡ Some old → counts ≡ counts_of rows
    → 1 ≤ counted (row_status old) counts
found_there p old rows counts found is =
    subst (λ c. 1 ≤ counted (row_status old) c) (sym (is ∙ found-counted p old rows found)) (one-there (row_status old) (counts_of (without_first p rows)))

-- the old one is counted no more
pub total_less : (p : ExecutionRow → Bool) (old : ExecutionRow) (rows : List ExecutionRow) (counts less : CountsByStatus) → find p rows ≡ Some old → counts ≡ counts_of rows
    → counts ≡ with_one_more (row_status old) less → total less + 1 ≡ length rows
total_less p old rows counts less found is more =
    sym (total-counted (row_status old) less) ∙ (ap total (sym more ∙ is) ∙ total_rows rows)

pub counts_changed : (p : ExecutionRow → Bool) (old new : ExecutionRow) (rows : List ExecutionRow) (counts less : CountsByStatus) → find p rows ≡ Some old
    → counts ≡ counts_of rows → counts ≡ with_one_more (row_status old) less
    → with_one_more (row_status new) less ≡ counts_of (change_first p (λ gone. new) rows)
counts_changed p old new rows counts less found is more =
    let same : less ≡ counts_of (without_first p rows) =
    same-less (row_status old) less (counts_of (without_first p rows)) (sym more ∙ (is ∙ found-counted p old rows found)) in
    ap (with_one_more (row_status new)) same ∙ sym (new-counted p old new rows found)

-- Job executions that are gone

-- those of a job instance with those of all others
pub counts_split : (i : ℕ) (rows : List ExecutionRow) → both (counts_of (executions_of i rows)) (counts_of (executions_there (λ j. j == i) rows)) ≡ counts_of rows
counts_split i [] = none-before no_counts
counts_split i (row ∷ rest) =
    let own : CountsByStatus = counts_of (executions_of i rest) in
    let others : CountsByStatus = counts_of (executions_there (λ j. j == i) rest) in
    let one_more : CountsByStatus → CountsByStatus = with_one_more (row_status row) in
    elim (row.instance == i) as (λ b. both (counts_of (cond b (row ∷ executions_of i rest) (executions_of i rest))) (counts_of (cond (not b) (row ∷ executions_there (λ j. j == i) rest) (executions_there (λ j. j == i) rest)))
    ≡ one_more (counts_of rest)) [
      | true ↦ counted-both (row_status row) own others ∙ ap one_more (counts_split i rest)
      | false ↦ sym (both-counted (row_status row) own others) ∙ (counted-both (row_status row) own others ∙ ap one_more (counts_split i rest))
    ]

pub first_there : (row : ExecutionRow) (left rest : List ExecutionRow) (counts others : CountsByStatus) → left ≡ row ∷ rest → both (counts_of left) others ≡ counts
    → 1 ≤ counted (row_status row) counts
first_there row left rest counts others is so_far =
    subst (λ c. 1 ≤ counted (row_status row) c)
    (sym (counted-both (row_status row) (counts_of rest) others) ∙ (ap (λ l. both (counts_of l) others) (sym is) ∙ so_far))
    (one-there (row_status row) (both (counts_of rest) others))

pub first_gone : (row : ExecutionRow) (left rest : List ExecutionRow) (counts less others : CountsByStatus) → left ≡ row ∷ rest → both (counts_of left) others ≡ counts
    → counts ≡ with_one_more (row_status row) less → both (counts_of rest) others ≡ less
first_gone row left rest counts less others is so_far more =
    same-less (row_status row) (both (counts_of rest) others) less
    (sym (counted-both (row_status row) (counts_of rest) others) ∙ (ap (λ l. both (counts_of l) others) (sym is) ∙ (so_far ∙ more)))

pub all_gone : (left : List ExecutionRow) (counts others : CountsByStatus) → left ≡ [] → both (counts_of left) others ≡ counts → counts ≡ others
all_gone left counts others is so_far = sym so_far ∙ (ap (λ l. both (counts_of l) others) is ∙ none-before others)
