-- What exists of rows, and what is not changed by what is gone: a row that exists is found as among all, and so are its walk, its
-- job instance's other rows and the job execution that a claim takes up.
use mathlib.Core.Path.{fun_ext}
use Rattle.std.proofs.Common.{◌≡◌, ℕ, ◌+◌, ◌==◌, ◌&&◌, Bool, true, false, cond, not, nat_lt, Option, None, Some, is_some, Result, Ok, Err, List, [], ◌∷◌, find, filter, refl, sym, ◌∙◌, ap, subst}
use Rattle.std.specs.List.{list_any}
use Rattle.std.specs.Option.{option_map}
use Rattle.std.proofs.lemmas.Bool.{eqb-true, and_parts}
use Rattle.batch_ids.specs.Statuses.{is_unfinished}
use Rattle.batch_ids.specs.declared.refusal.Refusal.{Refusal}
use Rattle.batch_ids.specs.declared.refusal.Refusal.TheVariants.{JobExecutionIsRunningException, JobExecutionNotMostRecentException}
use Rattle.batch_ids.specs.declared.status.BatchStatus.{BatchStatus}
use Rattle.batch_ids.specs.declared.status.BatchStatus.TheVariants.{Starting, Started, Stopping, Stopped, Failed, Completed, Abandoned}
use Rattle.walk_rules.specs.declared.facts.Value.{Value}
use Rattle.walk_rules.specs.declared.work_key.WorkKey.{WorkKey}
use Rattle.jsl_model.specs.Jobs.{JobTree}
use Rattle.batch_history.specs.Lists.{Each}
use Rattle.batch_history.specs.declared.call.Reply.{Reply}
use Rattle.batch_history.specs.declared.call.Reply.TheVariants.{Work}
use Rattle.batch_history.specs.declared.rows.ExecutionRow.{ExecutionRow}
use Rattle.batch_history.specs.declared.rows.JobInstance.{JobInstance}
use Rattle.batch_history.specs.declared.rows.WorkRow.{WorkRow}
use Rattle.batch_history.proofs.Leaving.{on-or-off, never, any-left, any-there, any-whole, SeesLeft, find-seen, find-left, unless_out, AreKeyed, find-numbered, found-itself}
use Rattle.batch_history.proofs.WorkLists.{each-both, each-found}
use Rattle.batch_history.specs.Checkpoints.{InstanceStep}
use Rattle.batch_history.specs.Replies.{row_status, walk_in_rows, has_something, has_something_by, first_ready, is_later_than, is_running_in, restart_refusal, refusal_by_status, is_restartable, work_task, runnable_of_job, partitions_of_job, partition_named, claim_reply, stop_requested_of, is_stop_requested}
use Rattle.batch_history.specs.Rows.{Rows, is_execution, instance_in, is_gone, executions_there, works_there, checkpoint_there, existing}
use Rattle.batch_history.specs.Statuses.{is_finished}
use Rattle.batch_history.specs.Walks.{facts_by_work, fact_by_work, is_work_of, job_named, walk_of}
use Rattle.batch_history.specs.Works.{is_work}

pub not-true : (b : Bool) → not b ≡ true → b ≡ false
not-true true h = cc
not-true false h = refl

pub not-false : (b : Bool) → not b ≡ false → b ≡ true
not-false true h = refl
not-false false h = cc

-- whether a row of a job execution is left, and one of a work item
abbrev pub is_left : (ℕ → Bool) → ExecutionRow → Bool
is_left gone row = not (gone row.instance)

abbrev pub is_work_left : (ℕ → Bool) → List ExecutionRow → WorkRow → Bool
is_work_left gone executions row = not (is_gone gone (instance_in executions row.execution))

-- rows of all that was made, and job instances that are gone: each of their job executions is over, none of them is the next
-- one, and each work item has its job execution
pub record AreWhole (gone : ℕ → Bool) (r : Rows) : Type 0 where
  pub executions : AreKeyed (λ (row : ExecutionRow). row.execution) 1 r.executions
  pub works : AreKeyed (λ (row : WorkRow). row.work) 1 r.works
  pub over : Each (λ (row : ExecutionRow). gone row.instance ≡ true → is_finished (row_status row) ≡ true) r.executions
  pub begun : gone (r.last.instance + 1) ≡ false
  pub owned : Each (λ (row : WorkRow). is_some (find (is_execution row.execution) r.executions) ≡ true) r.works

-- ---- What is found

-- what is found in what is left is found in all, and is not left out
pub record IsLeft {X : Type 0} (q : X → Bool) (all : Option X) (x : X) : Type 0 where
  pub found : all ≡ Some x
  pub left : q x ≡ true

pub left-found : {X : Type 0} (q : X → Bool) (all : Option X) (x : X) → unless_out q all ≡ Some x → IsLeft q all x
left-found q None x h = cc
left-found q (Some y) x h =
    on-or-off (q y)
    (λ on. let same : Some y ≡ Some x = sym (ap (λ b. cond b (Some y) None) on) ∙ h in
    let is : y ≡ x = cc in record { found = same; left = ap q (sym is) ∙ on })
    (λ off. let none : None ≡ Some x = sym (ap (λ b. cond b (Some y) None) off) ∙ h in absurd (let no : true ≡ false = ap is_some (sym none) in cc))

pub execution-left : (gone : ℕ → Bool) (r : Rows) (x : ℕ) (row : ExecutionRow) → AreWhole gone r → find (is_execution x) (executions_there gone r.executions) ≡ Some row
    → IsLeft (is_left gone) (find (is_execution x) r.executions) row
execution-left gone r x row whole found =
    left-found (is_left gone) (find (is_execution x) r.executions) row
    (sym (find-numbered (λ (row : ExecutionRow). row.execution) (is_left gone) x 1 r.executions whole.executions) ∙ found)

pub work-left : (gone : ℕ → Bool) (r : Rows) (w : ℕ) (row : WorkRow) → AreWhole gone r → find (is_work w) (works_there gone r.executions r.works) ≡ Some row
    → IsLeft (is_work_left gone r.executions) (find (is_work w) r.works) row
work-left gone r w row whole found =
    left-found (is_work_left gone r.executions) (find (is_work w) r.works) row
    (sym (find-numbered (λ (row : WorkRow). row.work) (is_work_left gone r.executions) w 1 r.works whole.works) ∙ found)

left-owner : (gone : ℕ → Bool) (o : Option ExecutionRow) → is_gone gone (option_map (λ row. row.instance) o) ≡ false → unless_out (is_left gone) o ≡ o
left-owner gone None h = refl
left-owner gone (Some row) h = ap (λ b. cond (not b) (Some row) None) h

-- a job execution whose job instance is not gone is found alike
pub owner-left : (gone : ℕ → Bool) (r : Rows) (x : ℕ) → AreWhole gone r → is_gone gone (instance_in r.executions x) ≡ false
    → find (is_execution x) (executions_there gone r.executions) ≡ find (is_execution x) r.executions
owner-left gone r x whole there =
    find-numbered (λ (row : ExecutionRow). row.execution) (is_left gone) x 1 r.executions whole.executions ∙ left-owner gone (find (is_execution x) r.executions) there

-- the job instance of one that is found
pub instance-of : (executions : List ExecutionRow) (x : ℕ) (row : ExecutionRow) → find (is_execution x) executions ≡ Some row → instance_in executions x ≡ Some row.instance
instance-of executions x row found = ap (option_map (λ (row : ExecutionRow). row.instance)) found

pub stop-left : (gone : ℕ → Bool) (r : Rows) (x : ℕ) → AreWhole gone r → is_gone gone (instance_in r.executions x) ≡ false
    → stop_requested_of (existing gone r) x ≡ stop_requested_of r x
stop-left gone r x whole there = ap is_stop_requested (owner-left gone r x whole there)

-- ---- Job instances

-- what is of a job instance that is not gone is left
of-instance : (gone : ℕ → Bool) (i j : ℕ) → gone i ≡ false → (j == i) ≡ true → not (gone j) ≡ true
of-instance gone i j there same = ap (λ k. not (gone k)) (eqb-true j i same) ∙ ap not there

pub later-left : (gone : ℕ → Bool) (row : ExecutionRow) (rows : List ExecutionRow) → gone row.instance ≡ false
    → list_any (is_later_than row) (executions_there gone rows) ≡ list_any (is_later_than row) rows
later-left gone row rows there =
    any-left (is_later_than row) (is_left gone) rows
    (λ other later. of-instance gone row.instance other.instance there (and_parts (other.instance == row.instance) (nat_lt row.execution other.execution) later).0)

pub running-left : (gone : ℕ → Bool) (i : ℕ) (rows : List ExecutionRow) → gone i ≡ false
    → list_any (is_running_in i) (executions_there gone rows) ≡ list_any (is_running_in i) rows
running-left gone i rows there =
    any-left (is_running_in i) (is_left gone) rows
    (λ other runs. of-instance gone i other.instance there (and_parts (other.instance == i) (is_unfinished (row_status other)) runs).0)

pub refusal-left : (gone : ℕ → Bool) (r : Rows) (row : ExecutionRow) → gone row.instance ≡ false → restart_refusal (existing gone r) row ≡ restart_refusal r row
refusal-left gone r row there =
    ap (λ b. cond b (Some JobExecutionNotMostRecentException) (refusal_by_status (is_restartable (job_named r.catalogue row.job)) (row_status row)))
    (later-left gone row r.executions there)

-- ---- Walks

-- the work items of a job execution whose job instance is not gone are left
work-of-left : (gone : ℕ → Bool) (executions : List ExecutionRow) (x : ℕ) (key : WorkKey) (row : WorkRow) → is_gone gone (instance_in executions x) ≡ false
    → is_work_of x key row ≡ true → is_work_left gone executions row ≡ true
work-of-left gone executions x key row there is =
    ap (λ y. not (is_gone gone (instance_in executions y))) (eqb-true row.execution x (and_parts (row.execution == x) _ is).0) ∙ ap not there

pub facts-left : (gone : ℕ → Bool) (executions : List ExecutionRow) (works : List WorkRow) (x : ℕ) → is_gone gone (instance_in executions x) ≡ false
    → facts_by_work x (works_there gone executions works) ≡ facts_by_work x works
facts-left gone executions works x there =
    fun_ext (λ key. ap fact_by_work (find-left (is_work_of x key) (is_work_left gone executions) works (λ row is. work-of-left gone executions x key row there is)))

pub walk-left : (gone : ℕ → Bool) (r : Rows) (row : ExecutionRow) → is_gone gone (instance_in r.executions row.execution) ≡ false
    → walk_in_rows (existing gone r) row ≡ walk_in_rows r row
walk-left gone r row there =
    ap (λ facts. walk_of row.plan facts (job_named r.catalogue row.job)) (facts-left gone r.executions r.works row.execution there)

-- ---- Claims

-- who is over has nothing to do
over-idle : (status : BatchStatus) (value : Value) → is_finished status ≡ true → has_something_by status value ≡ false
over-idle Starting value h = cc
over-idle Started value h = cc
over-idle Stopping value h = refl
over-idle Stopped value h = refl
over-idle Failed value h = refl
over-idle Completed value h = refl
over-idle Abandoned value h = refl

-- a job execution stands in all rows under its number
itself-there : (gone : ℕ → Bool) (executions : List ExecutionRow) (row : ExecutionRow) → find (is_execution row.execution) executions ≡ Some row → is_left gone row ≡ true
    → is_gone gone (instance_in executions row.execution) ≡ false
itself-there gone executions row found left =
    ap (is_gone gone) (instance-of executions row.execution row found) ∙ not-true (gone row.instance) left

seen-left : (gone : ℕ → Bool) (r : Rows) (row : ExecutionRow) → (gone row.instance ≡ true → is_finished (row_status row) ≡ true)
    → find (is_execution row.execution) r.executions ≡ Some row → SeesLeft (has_something (existing gone r)) (has_something r) (is_left gone) row
seen-left gone r row over found =
    record {
      same = λ left. ap (has_something_by (row_status row)) (walk-left gone r row (itself-there gone r.executions row found left));
      unseen = λ out. over-idle (row_status row) (walk_in_rows r row) (over (not-false (gone row.instance) out));
    }

-- the job execution that a claim finds is the least of all with something to do
pub claim-left : (gone : ℕ → Bool) (r : Rows) → AreWhole gone r
    → find (has_something (existing gone r)) (executions_there gone r.executions) ≡ find (has_something r) r.executions
claim-left gone r whole =
    find-seen (has_something (existing gone r)) (has_something r) (is_left gone) r.executions
    (each-both (λ (row : ExecutionRow). gone row.instance ≡ true → is_finished (row_status row) ≡ true)
    (λ (row : ExecutionRow). find (is_execution row.execution) r.executions ≡ Some row)
    (SeesLeft (has_something (existing gone r)) (has_something r) (is_left gone)) r.executions
    (λ row over found. seen-left gone r row over found) whole.over (found-itself (λ (row : ExecutionRow). row.execution) 1 r.executions whole.executions))

passes-left : {X : Type 0} (p q : X → Bool) (xs : List X) (x : X) → find p (filter q xs) ≡ Some x → q x ≡ true
passes-left p q [] x h = cc
passes-left p q (y ∷ ys) x h =
    on-or-off (q y)
    (λ on.
    let here : cond (p y) (Some y) (find p (filter q ys)) ≡ Some x = sym (ap (λ b. find p (cond b (y ∷ filter q ys) (filter q ys))) on) ∙ h in
    on-or-off (p y)
    (λ passes. let same : Some y ≡ Some x = sym (ap (λ b. cond b (Some y) (find p (filter q ys))) passes) ∙ here in
    let is : y ≡ x = cc in ap q (sym is) ∙ on)
    (λ fails. passes-left p q ys x (sym (ap (λ b. cond b (Some y) (find p (filter q ys))) fails) ∙ here)))
    (λ off. passes-left p q ys x (sym (ap (λ b. find p (cond b (y ∷ filter q ys) (filter q ys))) off) ∙ h))

-- its job instance is not gone
pub record IsClaimed (gone : ℕ → Bool) (r : Rows) (row : ExecutionRow) : Type 0 where
  pub itself : find (is_execution row.execution) r.executions ≡ Some row
  pub left : gone row.instance ≡ false
  pub there : is_gone gone (instance_in r.executions row.execution) ≡ false

pub claimed-left : (gone : ℕ → Bool) (r : Rows) (row : ExecutionRow) → AreWhole gone r
    → find (has_something (existing gone r)) (executions_there gone r.executions) ≡ Some row → IsClaimed gone r row
claimed-left gone r row whole found =
    let left : is_left gone row ≡ true = passes-left (has_something (existing gone r)) (is_left gone) r.executions row found in
    let itself : find (is_execution row.execution) r.executions ≡ Some row =
    each-found (λ (row : ExecutionRow). find (is_execution row.execution) r.executions ≡ Some row) (has_something r) r.executions row
    (found-itself (λ (row : ExecutionRow). row.execution) 1 r.executions whole.executions) (sym (claim-left gone r whole) ∙ found) in
    record { itself = itself; left = not-true (gone row.instance) left; there = itself-there gone r.executions row itself left }

pub checkpoint-left : (gone : ℕ → Bool) (checkpoint : InstanceStep → Option (List ℕ)) (p : InstanceStep) → gone p.instance ≡ false
    → checkpoint_there gone checkpoint p ≡ checkpoint p
checkpoint-left gone checkpoint p there = ap (λ b. cond b None (checkpoint p)) there

reply-left : (gone : ℕ → Bool) (r : Rows) (row : ExecutionRow) (ready : Option WorkKey) → gone row.instance ≡ false
    → claim_reply (existing gone r) row ready ≡ claim_reply r row ready
reply-left gone r row None there = refl
reply-left gone r row (Some key) there =
    ap (λ (mark : Option (List ℕ)). Work record {
      work = r.last.work + 1;
      execution = row.execution;
      element = key.element;
      partition = partition_named key.partition (partitions_of_job (job_named r.catalogue row.job) key);
      task = work_task mark (runnable_of_job (job_named r.catalogue row.job) key);
    }) (checkpoint-left gone r.checkpoint record { instance = row.instance; step = key } there)

-- what it is answered
pub claim-reply-left : (gone : ℕ → Bool) (r : Rows) (row : ExecutionRow) → IsClaimed gone r row
    → claim_reply (existing gone r) row (first_ready (walk_in_rows (existing gone r) row)) ≡ claim_reply r row (first_ready (walk_in_rows r row))
claim-reply-left gone r row claimed =
    ap (λ value. claim_reply (existing gone r) row (first_ready value)) (walk-left gone r row claimed.there)
    ∙ reply-left gone r row (first_ready (walk_in_rows r row)) claimed.left
