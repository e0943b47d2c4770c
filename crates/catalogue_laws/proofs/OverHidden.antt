-- Rows over a catalogue with jobs that no call can name.
use Rattle.std.proofs.Common.{◌≡◌, ◌∙◌, ◌<◌, ℕ, ◌+◌, Bool, true, false, cond, Option, Some, None, is_some, Ok, Err, List, [], ◌∷◌, ◌++◌, find, filter_map, length, map, refl, ap, arith}
use Rattle.std.specs.List.{list_any}
use Rattle.std.specs.Str.{bytes_eq}
use Rattle.jsl_model.specs.Jobs.{JobTree}
use Rattle.batch_ids.specs.declared.refusal.Refusal.{Refusal}
use Rattle.batch_ids.specs.declared.refusal.Refusal.TheVariants.{JobStartException, JobExecutionNotMostRecentException}
use Rattle.batch_ids.specs.Parameters.{Pair}
use Rattle.batch_history.specs.declared.call.Call.{Call}
use Rattle.batch_history.specs.declared.call.Call.TheVariants.{Start, Restart, Stop, Abandon, Claim, Checkpoint, Finish, Lose, Purge}
use Rattle.batch_history.specs.declared.call.Entry.{Entry}
use Rattle.batch_history.specs.declared.call.Reply.{Reply}
use Rattle.batch_history.specs.declared.call.Reply.TheVariants.{Work, Execution as IsExecution}
use Rattle.batch_history.specs.declared.query.Query.{Query}
use Rattle.batch_history.specs.declared.query.Query.TheVariants.{JobNames, JobInstanceCount, JobInstances, RunningExecutions, Parameters, JobInstance as AskJobInstance, JobExecutions, JobExecution as AskJobExecution, StepExecutions, StatusCounts}
use Rattle.batch_history.specs.declared.query.Answer.TheVariants.{StepExecutions as AreStepExecutions}
use Rattle.batch_history.specs.declared.rows.ExecutionRow.{ExecutionRow}
use Rattle.batch_history.specs.declared.rows.WorkRow.{WorkRow}
use Rattle.batch_history.specs.Answers.{answer_by, if_execution_known}
use Rattle.batch_history.specs.Checkpoints.{checkpoint_after, is_same_step}
use Rattle.batch_history.specs.Lists.{Each, change_first}
use Rattle.batch_history.specs.NextRows.{again_row, effect_on, executions_after, fresh_row, instances_after, last_after, place_in, refreshed, refreshed_at, refreshed_by, rows_after, rows_with, without, works_after}
use Rattle.batch_history.specs.Operations.{purged_by}
use Rattle.batch_history.specs.Replies.{accepted, claim_reply, first_ready, has_something, has_something_by, is_execution, is_later_than, is_restartable, partition_named, partitions_of_job, refusal_by_status, reply_by, reply_to_claim, reply_to_restart, restart_plan, restart_refusal, row_status, runnable_of_job, unless, walk_in_rows, work_task, works_of_instance}
use Rattle.batch_history.specs.Restarts.{first_plan, plan_by, restart_point}
use Rattle.batch_history.specs.Rows.{Rows}
use Rattle.batch_history.specs.StepExecutions.{step_execution, step_executions, works_of}
use Rattle.batch_history.specs.Walks.{facts_by_work, job_named, walk_of}
use Rattle.batch_history.specs.Works.{execution_of_operation}
use Rattle.batch_history.proofs.WorkLists.{each-found}
use Rattle.catalogue_laws.specs.Leaving.{AreNamed, CanBeMade, hidden_bytes, hidden_name, job_hidden, over_hidden, with_hidden}
use Rattle.catalogue_laws.proofs.OtherNames.{IsNamed, each-of, find-same}
use Rattle.catalogue_laws.proofs.Leavers.{equal-lengths, found-front, hidden-length}
use Rattle.job_plans.specs.declared.plan.Plan.{Plan}
use Rattle.walk_rules.specs.declared.facts.Value.{Value}
use Rattle.walk_rules.specs.declared.work_key.WorkKey.{WorkKey}

change-same : {X : Type 0} (p : X → Bool) (f g : X → X) (xs : List X) → Each (λ x. f x ≡ g x) xs → change_first p f xs ≡ change_first p g xs
change-same p f g [] all = refl
change-same p f g (x ∷ xs) all = λ i. cond (p x) (all.0 i ∷ xs) (x ∷ change-same p f g xs all.1 i)

pub none-behind : {X : Type 0} (p : X → Bool) (xs more : List X) → Each (λ x. p x ≡ false) more → find p (xs ++ more) ≡ find p xs
none-behind p [] [] none = refl
none-behind p [] (x ∷ xs) none = ap (λ b. cond b (Some x) (find p xs)) none.0 ∙ none-behind p [] xs none.1
none-behind p (x ∷ xs) more none = ap (cond (p x) (Some x)) (none-behind p xs more none)

pub none-named : (name : List ℕ) (hidden : List JobTree) → length name < hidden_bytes → Each (λ (job : JobTree). bytes_eq job.id name ≡ false) (map job_hidden hidden)
none-named name [] short = tt
none-named name (job ∷ jobs) short =
    (equal-lengths (hidden_name job.id) name (bytes_eq (hidden_name job.id) name) refl (λ same. omega (arith, same, short, hidden-length job.id)), none-named name jobs short)

module _ (hidden : List JobTree) where
  abbrev over : Rows → Rows
  over r = over_hidden hidden r

  -- a name that a call can have
  same-short : (catalogue : List JobTree) (name : List ℕ) → length name < hidden_bytes → job_named (with_hidden catalogue hidden) name ≡ job_named catalogue name
  same-short catalogue name short = none-behind (λ (job : JobTree). bytes_eq job.id name) catalogue (map job_hidden hidden) (none-named name hidden short)

  -- the name of a row
  same-job : (catalogue : List JobTree) (name : List ℕ) → is_some (job_named catalogue name) ≡ true → job_named (with_hidden catalogue hidden) name ≡ job_named catalogue name
  same-job catalogue name some = found-front (λ (job : JobTree). bytes_eq job.id name) catalogue (map job_hidden hidden) some

  same-walk : (r : Rows) (row : ExecutionRow) → IsNamed r.catalogue row → walk_in_rows (over r) row ≡ walk_in_rows r row
  same-walk r row is = ap (walk_of row.plan (facts_by_work row.execution r.works)) (same-job r.catalogue row.job is)

  -- ---- Replies

  same-claim-of : (r : Rows) (row : ExecutionRow) (ready : Option WorkKey) → IsNamed r.catalogue row → claim_reply (over r) row ready ≡ claim_reply r row ready
  same-claim-of r row None is = refl
  same-claim-of r row (Some key) is =
      ap (λ (job : Option JobTree). Work record {
        work = r.last.work + 1;
        execution = row.execution;
        element = key.element;
        partition = partition_named key.partition (partitions_of_job job key);
        task = work_task (r.checkpoint record { instance = row.instance; step = key }) (runnable_of_job job key);
      }) (same-job r.catalogue row.job is)

  same-claim-by : (limit : ℕ) (r : Rows) (found : Option ExecutionRow) → AreNamed r → find (has_something r) r.executions ≡ found
      → reply_to_claim limit (over r) found ≡ reply_to_claim limit r found
  same-claim-by limit r None all is = refl
  same-claim-by limit r (Some row) all is =
      let named : IsNamed r.catalogue row = each-found (IsNamed r.catalogue) (has_something r) r.executions row all is in
      ap (accepted limit r.count) (ap (λ (v : Value). claim_reply (over r) row (first_ready v)) (same-walk r row named)
      ∙ same-claim-of r row (first_ready (walk_in_rows r row)) named)

  same-claim : (limit : ℕ) (r : Rows) → AreNamed r
      → reply_to_claim limit (over r) (find (has_something (over r)) r.executions) ≡ reply_to_claim limit r (find (has_something r) r.executions)
  same-claim limit r all =
      let each = each-of (IsNamed r.catalogue) (λ row. has_something (over r) row ≡ has_something r row) r.executions
      (λ row is. ap (has_something_by (row_status row)) (same-walk r row is)) all in
      ap (reply_to_claim limit (over r)) (find-same (has_something (over r)) (has_something r) r.executions each)
      ∙ same-claim-by limit r (find (has_something r) r.executions) all refl

  same-refusal : (r : Rows) (row : ExecutionRow) → IsNamed r.catalogue row → restart_refusal (over r) row ≡ restart_refusal r row
  same-refusal r row is =
      ap (λ (job : Option JobTree). cond (list_any (is_later_than row) r.executions) (Some JobExecutionNotMostRecentException) (refusal_by_status (is_restartable job) (row_status row)))
      (same-job r.catalogue row.job is)

  same-restart : (limit : ℕ) (r : Rows) (x : ℕ) (found : Option ExecutionRow) → AreNamed r → find (is_execution x) r.executions ≡ found
      → reply_to_restart limit (over r) found ≡ reply_to_restart limit r found
  same-restart limit r x None all is = refl
  same-restart limit r x (Some row) all is =
      ap (λ (refusal : Option Refusal). unless refusal (accepted limit r.count (IsExecution (r.last.execution + 1))))
      (same-refusal r row (each-found (IsNamed r.catalogue) (is_execution x) r.executions row all is))

-- each call has the same reply
pub same_reply : (limit : ℕ) (hidden : List JobTree) (r : Rows) (who : ℕ) (call : Call) → AreNamed r → CanBeMade call → reply_by limit (over_hidden hidden r) who call ≡ reply_by limit r who call
same_reply limit hidden r who (Start job parameters) all can =
    ap (λ (j : Option JobTree). cond (is_some j) (accepted limit r.count (IsExecution (r.last.execution + 1))) (Err JobStartException)) (same-short hidden r.catalogue job can)
same_reply limit hidden r who (Restart x parameters) all can = same-restart hidden limit r x (find (is_execution x) r.executions) all refl
same_reply limit hidden r who (Stop x) all can = refl
same_reply limit hidden r who (Abandon x) all can = refl
same_reply limit hidden r who Claim all can = same-claim hidden limit r all
same_reply limit hidden r who (Checkpoint w mark step) all can = refl
same_reply limit hidden r who (Finish w outcome exit step) all can = refl
same_reply limit hidden r who (Lose w) all can = refl
same_reply limit hidden r who (Purge i) all can = refl

-- ---- Answers

same-steps : (hidden : List JobTree) (r : Rows) (x : ℕ) (found : Option ExecutionRow) → AreNamed r → find (is_execution x) r.executions ≡ found
    → if_execution_known found (λ row. AreStepExecutions (step_executions (over_hidden hidden r) row)) ≡ if_execution_known found (λ row. AreStepExecutions (step_executions r row))
same-steps hidden r x None all is = refl
same-steps hidden r x (Some row) all is =
    ap (λ (job : Option JobTree). Ok (AreStepExecutions (filter_map (step_execution job row (works_of r row.execution)) (works_of r row.execution))))
    (same-job hidden r.catalogue row.job (each-found (IsNamed r.catalogue) (is_execution x) r.executions row all is))

-- each query has the same answer
pub same_answer : (hidden : List JobTree) (r : Rows) (query : Query) → AreNamed r → answer_by (over_hidden hidden r) query ≡ answer_by r query
same_answer hidden r JobNames all = refl
same_answer hidden r (JobInstanceCount name) all = refl
same_answer hidden r (JobInstances name start count) all = refl
same_answer hidden r (RunningExecutions name) all = refl
same_answer hidden r (Parameters x) all = refl
same_answer hidden r (AskJobInstance x) all = refl
same_answer hidden r (JobExecutions i) all = refl
same_answer hidden r (AskJobExecution x) all = refl
same_answer hidden r (StepExecutions x) all = same-steps hidden r x (find (is_execution x) r.executions) all refl
same_answer hidden r StatusCounts all = refl

-- ---- One operation more

module _ (hidden : List JobTree) where
  same-refreshed : (catalogue : List JobTree) (works : List WorkRow) (at : ℕ) (call : Call) (given : Reply) (x : Option ℕ) (executions : List ExecutionRow) → Each (IsNamed catalogue) executions
      → refreshed_at (with_hidden catalogue hidden) works at call given x executions ≡ refreshed_at catalogue works at call given x executions
  same-refreshed catalogue works at call given None executions all = refl
  same-refreshed catalogue works at call given (Some x) executions all =
      change-same (is_execution x) (refreshed_by (with_hidden catalogue hidden) works at call given) (refreshed_by catalogue works at call given) executions
      (each-of (IsNamed catalogue) (λ row. refreshed_by (with_hidden catalogue hidden) works at call given row ≡ refreshed_by catalogue works at call given row) executions
      (λ row is. ap (λ (v : Value). refreshed (effect_on row.execution call given) v at row) (ap (walk_of row.plan (facts_by_work row.execution works)) (same-job hidden catalogue row.job is))) all)

  same-plan : (r : Rows) (row : ExecutionRow) → IsNamed r.catalogue row → restart_plan (over_hidden hidden r) row ≡ restart_plan r row
  same-plan r row is = λ i. plan_by (restart_point (is_some row.start) (same-walk hidden r row is i) row.plan.from) (works_of_instance r row.instance) (same-job hidden r.catalogue row.job is i)

  same-again : (r : Rows) (x at y : ℕ) (parameters : List Pair) (found : Option ExecutionRow) → AreNamed r → find (is_execution y) r.executions ≡ found
      → again_row (over_hidden hidden r) x at parameters found ≡ again_row r x at parameters found
  same-again r x at y parameters None all is = refl
  same-again r x at y parameters (Some row) all is =
      ap (λ (plan : Plan). fresh_row x row.instance at row.job parameters plan) (same-plan r row (each-found (IsNamed r.catalogue) (is_execution y) r.executions row all is))

  same-executions : (r : Rows) (works : List WorkRow) (at : ℕ) (call : Call) (given : Reply) → AreNamed r → CanBeMade call
      → executions_after (over_hidden hidden r) works at call given ≡ executions_after r works at call given
  same-executions r works at (Start job parameters) given all can =
      ap (λ (j : Option JobTree). r.executions ++ fresh_row (r.last.execution + 1) (r.last.instance + 1) at job parameters (first_plan j) ∷ []) (same-short hidden r.catalogue job can)
  same-executions r works at (Restart y parameters) given all can =
      ap (λ (row : ExecutionRow). r.executions ++ row ∷ []) (same-again r (r.last.execution + 1) at y parameters (find (is_execution y) r.executions) all refl)
  same-executions r works at (Stop y) given all can = same-refreshed r.catalogue works at (Stop y) given (Some y) r.executions all
  same-executions r works at (Abandon y) given all can = same-refreshed r.catalogue works at (Abandon y) given (Some y) r.executions all
  same-executions r works at Claim given all can = same-refreshed r.catalogue works at Claim given (execution_of_operation r.works Claim given) r.executions all
  same-executions r works at (Checkpoint w mark step) given all can = same-refreshed r.catalogue works at (Checkpoint w mark step) given (execution_of_operation r.works (Checkpoint w mark step) given) r.executions all
  same-executions r works at (Finish w outcome exit step) given all can = same-refreshed r.catalogue works at (Finish w outcome exit step) given (execution_of_operation r.works (Finish w outcome exit step) given) r.executions all
  same-executions r works at (Lose w) given all can = same-refreshed r.catalogue works at (Lose w) given (execution_of_operation r.works (Lose w) given) r.executions all
  same-executions r works at (Purge i) given all can = refl

  same-without : (i : Option ℕ) (r : Rows) → without i (over_hidden hidden r) ≡ over_hidden hidden (without i r)
  same-without None r = refl
  same-without (Some i) r = refl

-- an operation leads to the same rows
pub same_rows : (limit : ℕ) (hidden : List JobTree) (r : Rows) (e : Entry) → AreNamed r → CanBeMade e.call → reply_by limit r e.who e.call ≡ Ok e.reply
    → rows_after (over_hidden hidden r) e ≡ over_hidden hidden (rows_after r e)
same_rows limit hidden r e all can ok =
    let works = works_after (r.count + 1) e.who e.at e.call e.reply r.works in
    ap (λ (executions : List ExecutionRow). without (purged_by e.call) record {
      catalogue = with_hidden r.catalogue hidden;
      count = r.count + 1;
      last = last_after e.call e.reply r.last;
      instances = instances_after (r.last.instance + 1) e.call r.instances;
      executions = executions;
      works = works;
      checkpoint = λ p. checkpoint_after (λ w. is_same_step p (place_in r w)) e.call (r.checkpoint p);
    }) (same-executions hidden r works e.at e.call e.reply all can)
    ∙ same-without hidden (purged_by e.call) (rows_with r e)
