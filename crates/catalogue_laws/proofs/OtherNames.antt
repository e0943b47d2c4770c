-- A catalogue in which the jobs have other names: a legal history says the same over it.
use Rattle.std.proofs.Common.{◌≡◌, ◌∙◌, ℕ, ◌+◌, ◌==◌, ◌||◌, not, Bool, true, false, cond, Option, Some, None, is_some, Result, Ok, Err, List, [], ◌∷◌, ◌++◌, find, filter, map, reverse, refl, sym, ap, subst}
use Rattle.std.specs.Option.{option_map}
use Rattle.std.proofs.lemmas.List.{map-append, reverse-append, reverse-reverse}
use Rattle.std.specs.List.{list_any}
use Rattle.jsl_model.specs.Jobs.{JobTree}
use Rattle.jsl_model.specs.declared.element.Element.{Element}
use Rattle.batch_ids.specs.declared.refusal.Refusal.{Refusal}
use Rattle.batch_ids.specs.declared.refusal.Refusal.TheVariants.{JobStartException, NoSuchJobInstanceException, JobExecutionIsRunningException, JobExecutionNotMostRecentException}
use Rattle.batch_ids.specs.Parameters.{Pair}
use Rattle.batch_ids.specs.declared.status.WorkOutcome.{WorkOutcome}
use Rattle.batch_history.specs.declared.call.Call.{Call}
use Rattle.batch_history.specs.declared.call.Call.TheVariants.{Start, Restart, Stop, Abandon, Claim, Checkpoint, Finish, Lose, Purge}
use Rattle.batch_history.specs.declared.call.Entry.{Entry}
use Rattle.batch_history.specs.declared.call.Reply.{Reply}
use Rattle.batch_history.specs.declared.call.Reply.TheVariants.{Work, Done, Execution as IsExecution}
use Rattle.batch_history.specs.declared.rows.ExecutionRow.{ExecutionRow}
use Rattle.batch_history.specs.declared.rows.JobInstance.{JobInstance}
use Rattle.batch_history.specs.declared.rows.LastNumbers.{LastNumbers}
use Rattle.batch_history.specs.declared.rows.WorkRow.{WorkRow}
use Rattle.batch_history.specs.Checkpoints.{InstanceStep, checkpoint_after, instance_step_by, is_same_step}
use Rattle.batch_history.specs.Legal.{IsLegal, grown}
use Rattle.batch_history.specs.Lists.{Each, change_first, is_at}
use Rattle.batch_history.specs.NextRows.{again_row, effect_on, executions_after, fresh_row, instances_after, last_after, place_in, refreshed, refreshed_at, refreshed_by, rows_after, rows_with, without, works_after}
use Rattle.batch_history.specs.Operations.{purged_by}
use Rattle.batch_history.specs.Replies.{accepted, claim_reply, first_ready, has_something, has_something_by, is_execution, is_instance_there, is_later_than, is_restartable, is_running_in, is_stop_requested, partition_named, partitions_of_job, refusal_by_status, reply, reply_by, reply_to_abandon, reply_to_checkpoint, reply_to_claim, reply_to_end, reply_to_finish, reply_to_kept_checkpoint, reply_to_purge, reply_to_restart, reply_to_stop, report_refusal, restart_plan, restart_refusal, row_status, runnable_of_job, stop_requested_of, unless, walk_in_rows, work_task, works_of_instance}
use Rattle.batch_history.specs.Restarts.{first_plan, plan_by, restart_point}
use Rattle.batch_history.specs.Rows.{Rows, checkpoint_there, history, instance_in, is_gone, rows}
use Rattle.batch_history.specs.Walks.{facts_by_work, job_named, walk_of}
use Rattle.batch_history.specs.Works.{execution_of_operation, is_work}
use Rattle.batch_history.proofs.Legal.{legal-beginning, legal-nothing, legal_grown}
use Rattle.batch_history.proofs.Legality.{rows_grown}
use Rattle.batch_history.proofs.WorkLists.{each-found}
use Rattle.catalogue_laws.specs.Renaming.{AreAlike, HasRenamed, call_renamed, entry_renamed, execution_renamed, instance_renamed, rows_renamed}
use Rattle.job_plans.specs.declared.plan.Plan.{Plan}
use Rattle.walk_rules.specs.declared.facts.Fact.{Fact}
use Rattle.walk_rules.specs.declared.facts.Value.{Value}
use Rattle.walk_rules.specs.declared.work_key.WorkKey.{WorkKey}

-- ---- Lists

pub each-of : {X : Type 0} (P Q : X → Type 0) (xs : List X) → ((x : X) → P x → Q x) → Each P xs → Each Q xs
each-of P Q [] f all = tt
each-of P Q (x ∷ xs) f all = (f x all.0, each-of P Q xs f all.1)

pub each-append : {X : Type 0} (P : X → Type 0) (xs : List X) (x : X) → Each P xs → P x → Each P (xs ++ x ∷ [])
each-append P [] x all one = (one, tt)
each-append P (y ∷ ys) x all one = (all.0, each-append P ys x all.1 one)

pub each-changed : {X : Type 0} (P : X → Type 0) (p : X → Bool) (f : X → X) (xs : List X) → ((x : X) → P x → P (f x)) → Each P xs → Each P (change_first p f xs)
each-changed P p f [] keeps all = tt
each-changed P p f (x ∷ xs) keeps all =
    elim (p x) as (λ b. Each P (cond b (f x ∷ xs) (x ∷ change_first p f xs))) [
      | true ↦ (keeps x all.0, all.1)
      | false ↦ (all.0, each-changed P p f xs keeps all.1)
    ]

pub each-filtered : {X : Type 0} (P : X → Type 0) (p : X → Bool) (xs : List X) → Each P xs → Each P (filter p xs)
each-filtered P p [] all = tt
each-filtered P p (x ∷ xs) all =
    elim (p x) as (λ b. Each P (cond b (x ∷ filter p xs) (filter p xs))) [
      | true ↦ (all.0, each-filtered P p xs all.1)
      | false ↦ each-filtered P p xs all.1
    ]

pub find-same : {X : Type 0} (p q : X → Bool) (xs : List X) → Each (λ x. p x ≡ q x) xs → find p xs ≡ find q xs
find-same p q [] all = refl
find-same p q (x ∷ xs) all = λ i. cond (all.0 i) (Some x) (find-same p q xs all.1 i)

pub find-mapped : {X Y : Type 0} (p : Y → Bool) (g : X → Y) (xs : List X) → find p (map g xs) ≡ option_map g (find (λ x. p (g x)) xs)
find-mapped p g [] = refl
find-mapped p g (x ∷ xs) =
    elim (p (g x)) as (λ b. cond b (Some (g x)) (find p (map g xs)) ≡ option_map g (cond b (Some x) (find (λ x. p (g x)) xs))) [
      | true ↦ refl
      | false ↦ find-mapped p g xs
    ]

any-mapped : {X Y : Type 0} (p : Y → Bool) (g : X → Y) (xs : List X) → list_any p (map g xs) ≡ list_any (λ x. p (g x)) xs
any-mapped p g [] = refl
any-mapped p g (x ∷ xs) = ap (λ b. p (g x) || b) (any-mapped p g xs)

filter-mapped : {X Y : Type 0} (p : Y → Bool) (g : X → Y) (xs : List X) → filter p (map g xs) ≡ map g (filter (λ x. p (g x)) xs)
filter-mapped p g [] = refl
filter-mapped p g (x ∷ xs) =
    elim (p (g x)) as (λ b. cond b (g x ∷ filter p (map g xs)) (filter p (map g xs)) ≡ map g (cond b (x ∷ filter (λ x. p (g x)) xs) (filter (λ x. p (g x)) xs))) [
      | true ↦ ap (λ ys. g x ∷ ys) (filter-mapped p g xs)
      | false ↦ filter-mapped p g xs
    ]

change-mapped : {X Y : Type 0} (p : Y → Bool) (g : X → Y) (k : Y → Y) (h : X → X) (xs : List X) → Each (λ x. k (g x) ≡ g (h x)) xs
    → change_first p k (map g xs) ≡ map g (change_first (λ x. p (g x)) h xs)
change-mapped p g k h [] all = refl
change-mapped p g k h (x ∷ xs) all =
    elim (p (g x)) as (λ b. cond b (k (g x) ∷ map g xs) (g x ∷ change_first p k (map g xs)) ≡ map g (cond b (h x ∷ xs) (x ∷ change_first (λ x. p (g x)) h xs))) [
      | true ↦ ap (λ y. y ∷ map g xs) all.0
      | false ↦ ap (λ ys. g x ∷ ys) (change-mapped p g k h xs all.1)
    ]

-- ---- Jobs that run alike

alike-there : (one other : Option JobTree) → AreAlike one other → is_some other ≡ is_some one
alike-there None None alike = refl
alike-there None (Some other) alike = absurd alike
alike-there (Some one) None alike = absurd alike
alike-there (Some one) (Some other) alike = refl

alike-restartable : (one other : Option JobTree) → AreAlike one other → is_restartable other ≡ is_restartable one
alike-restartable None None alike = refl
alike-restartable None (Some other) alike = absurd alike
alike-restartable (Some one) None alike = absurd alike
alike-restartable (Some one) (Some other) alike = alike.restartable

alike-walk : (plan : Plan) (worked : WorkKey → Fact) (one other : Option JobTree) → AreAlike one other → walk_of plan worked other ≡ walk_of plan worked one
alike-walk plan worked None None alike = refl
alike-walk plan worked None (Some other) alike = absurd alike
alike-walk plan worked (Some one) None alike = absurd alike
alike-walk plan worked (Some one) (Some other) alike = ap (λ (es : List Element). walk_of plan worked (Some record { id = []; restartable = true; elements = es })) alike.elements

alike-plan : (from : List ℕ) (works : List WorkRow) (one other : Option JobTree) → AreAlike one other → plan_by from works other ≡ plan_by from works one
alike-plan from works None None alike = refl
alike-plan from works None (Some other) alike = absurd alike
alike-plan from works (Some one) None alike = absurd alike
alike-plan from works (Some one) (Some other) alike = ap (λ (es : List Element). plan_by from works (Some record { id = []; restartable = true; elements = es })) alike.elements

alike-first : (one other : Option JobTree) → AreAlike one other → first_plan other ≡ first_plan one
alike-first None None alike = refl
alike-first None (Some other) alike = absurd alike
alike-first (Some one) None alike = absurd alike
alike-first (Some one) (Some other) alike = ap (λ (es : List Element). first_plan (Some record { id = []; restartable = true; elements = es })) alike.elements

alike-partitions : (key : WorkKey) (one other : Option JobTree) → AreAlike one other → partitions_of_job other key ≡ partitions_of_job one key
alike-partitions key None None alike = refl
alike-partitions key None (Some other) alike = absurd alike
alike-partitions key (Some one) None alike = absurd alike
alike-partitions key (Some one) (Some other) alike = ap (λ (es : List Element). partitions_of_job (Some record { id = []; restartable = true; elements = es }) key) alike.elements

alike-runnable : (key : WorkKey) (one other : Option JobTree) → AreAlike one other → runnable_of_job other key ≡ runnable_of_job one key
alike-runnable key None None alike = refl
alike-runnable key None (Some other) alike = absurd alike
alike-runnable key (Some one) None alike = absurd alike
alike-runnable key (Some one) (Some other) alike = ap (λ (es : List Element). runnable_of_job (Some record { id = []; restartable = true; elements = es }) key) alike.elements

-- ---- Rows of jobs of a catalogue

-- the job of a job execution is in the catalogue
abbrev pub IsNamed : List JobTree → ExecutionRow → Type 0
IsNamed catalogue row = is_some (job_named catalogue row.job) ≡ true

abbrev AreNamed : Rows → Type 0
AreNamed r = Each (IsNamed r.catalogue) r.executions

pub start-named : (known : Bool) (job : Option JobTree) (given : Reply) (due : Result Reply Refusal) → is_some job ≡ known → cond known due (Err JobStartException) ≡ Ok given → is_some job ≡ true
start-named true job given due is ok = is
start-named false job given due is ok = cc

-- the job of a start that was accepted
started : (limit : ℕ) (r : Rows) (who : ℕ) (job : List ℕ) (parameters : List Pair) (given : Reply) → reply_by limit r who (Start job parameters) ≡ Ok given → is_some (job_named r.catalogue job) ≡ true
started limit r who job parameters given ok = start-named (is_some (job_named r.catalogue job)) (job_named r.catalogue job) given _ refl ok

named-refreshed : (catalogue : List JobTree) (works : List WorkRow) (at : ℕ) (call : Call) (given : Reply) (x : Option ℕ) (executions : List ExecutionRow) → Each (IsNamed catalogue) executions
    → Each (IsNamed catalogue) (refreshed_at catalogue works at call given x executions)
named-refreshed catalogue works at call given None executions all = all
named-refreshed catalogue works at call given (Some x) executions all =
    each-changed (IsNamed catalogue) (is_execution x) (refreshed_by catalogue works at call given) executions (λ row is. is) all

named-again : (limit : ℕ) (r : Rows) (x at y : ℕ) (parameters : List Pair) (given : Reply) (found : Option ExecutionRow) → AreNamed r → find (is_execution y) r.executions ≡ found
    → reply_to_restart limit r found ≡ Ok given → IsNamed r.catalogue (again_row r x at parameters found)
named-again limit r x at y parameters given None all is ok = cc
named-again limit r x at y parameters given (Some row) all is ok = each-found (IsNamed r.catalogue) (is_execution y) r.executions row all is

named-executions : (limit : ℕ) (r : Rows) (works : List WorkRow) (who at : ℕ) (call : Call) (given : Reply) → AreNamed r → reply_by limit r who call ≡ Ok given
    → Each (IsNamed r.catalogue) (executions_after r works at call given)
named-executions limit r works who at (Start job parameters) given all ok =
    each-append (IsNamed r.catalogue) r.executions (fresh_row (r.last.execution + 1) (r.last.instance + 1) at job parameters (first_plan (job_named r.catalogue job))) all (started limit r who job parameters given ok)
named-executions limit r works who at (Restart y parameters) given all ok =
    each-append (IsNamed r.catalogue) r.executions (again_row r (r.last.execution + 1) at parameters (find (is_execution y) r.executions)) all
    (named-again limit r (r.last.execution + 1) at y parameters given (find (is_execution y) r.executions) all refl ok)
named-executions limit r works who at (Stop y) given all ok = named-refreshed r.catalogue works at (Stop y) given (Some y) r.executions all
named-executions limit r works who at (Abandon y) given all ok = named-refreshed r.catalogue works at (Abandon y) given (Some y) r.executions all
named-executions limit r works who at Claim given all ok = named-refreshed r.catalogue works at Claim given (execution_of_operation r.works Claim given) r.executions all
named-executions limit r works who at (Checkpoint w mark step) given all ok = named-refreshed r.catalogue works at (Checkpoint w mark step) given (execution_of_operation r.works (Checkpoint w mark step) given) r.executions all
named-executions limit r works who at (Finish w outcome exit step) given all ok = named-refreshed r.catalogue works at (Finish w outcome exit step) given (execution_of_operation r.works (Finish w outcome exit step) given) r.executions all
named-executions limit r works who at (Lose w) given all ok = named-refreshed r.catalogue works at (Lose w) given (execution_of_operation r.works (Lose w) given) r.executions all
named-executions limit r works who at (Purge i) given all ok = all

named-without : (i : Option ℕ) (r : Rows) → AreNamed r → AreNamed (without i r)
named-without None r all = all
named-without (Some i) r all = each-filtered (IsNamed r.catalogue) _ r.executions all

pub named-after : (limit : ℕ) (r : Rows) (e : Entry) → AreNamed r → reply_by limit r e.who e.call ≡ Ok e.reply → AreNamed (rows_after r e)
named-after limit r e all ok =
    named-without (purged_by e.call) (rows_with r e) (named-executions limit r (works_after (r.count + 1) e.who e.at e.call e.reply r.works) e.who e.at e.call e.reply all ok)

-- ---- One operation more

module _ (name_of : List ℕ → List ℕ) (other : List JobTree) where
  -- the rows with the other names
  abbrev over : Rows → Rows
  over r = rows_renamed name_of other r

  abbrev to : ExecutionRow → ExecutionRow
  to row = execution_renamed name_of row

  -- the rows' job executions are of jobs that run alike under the other names
  abbrev Has : Rows → Type 0
  Has r = HasRenamed name_of r.catalogue other

  found-same : (x : ℕ) (executions : List ExecutionRow) → find (is_execution x) (map to executions) ≡ option_map to (find (is_execution x) executions)
  found-same x executions = find-mapped (is_execution x) to executions

  instance-of : (found : Option ExecutionRow) → option_map (λ (row : ExecutionRow). row.instance) (option_map to found) ≡ option_map (λ (row : ExecutionRow). row.instance) found
  instance-of None = refl
  instance-of (Some row) = refl

  instance-same : (executions : List ExecutionRow) (x : ℕ) → instance_in (map to executions) x ≡ instance_in executions x
  instance-same executions x = ap (option_map (λ (row : ExecutionRow). row.instance)) (found-same x executions) ∙ instance-of (find (is_execution x) executions)

  same-walk : (r : Rows) (row : ExecutionRow) → Has r → IsNamed r.catalogue row → walk_in_rows (over r) (to row) ≡ walk_in_rows r row
  same-walk r row has is = alike-walk row.plan (facts_by_work row.execution r.works) (job_named r.catalogue row.job) (job_named other (name_of row.job)) (has row.job is)

  -- ---- Replies

  same-work : (r : Rows) (row : ExecutionRow) (ready : Option WorkKey) → Has r → IsNamed r.catalogue row → claim_reply (over r) (to row) ready ≡ claim_reply r row ready
  same-work r row None has is = refl
  same-work r row (Some key) has is =
      let alike = has row.job is in
      let partitions = alike-partitions key (job_named r.catalogue row.job) (job_named other (name_of row.job)) alike in
      let runnable = alike-runnable key (job_named r.catalogue row.job) (job_named other (name_of row.job)) alike in
      λ i. Work record {
        work = r.last.work + 1;
        execution = row.execution;
        element = key.element;
        partition = partition_named key.partition (partitions i);
        task = work_task (r.checkpoint record { instance = row.instance; step = key }) (runnable i);
      }

  same-claim-of : (limit : ℕ) (r : Rows) (found : Option ExecutionRow) → Has r → AreNamed r → find (has_something r) r.executions ≡ found
      → reply_to_claim limit (over r) (option_map to found) ≡ reply_to_claim limit r found
  same-claim-of limit r None has all is = refl
  same-claim-of limit r (Some row) has all is =
      let named : IsNamed r.catalogue row = each-found (IsNamed r.catalogue) (has_something r) r.executions row all is in
      ap (accepted limit r.count) (ap (λ (v : Value). claim_reply (over r) (to row) (first_ready v)) (same-walk r row has named)
      ∙ same-work r row (first_ready (walk_in_rows r row)) has named)

  same-claim : (limit : ℕ) (r : Rows) → Has r → AreNamed r
      → reply_to_claim limit (over r) (find (has_something (over r)) (map to r.executions)) ≡ reply_to_claim limit r (find (has_something r) r.executions)
  same-claim limit r has all =
      let each = each-of (IsNamed r.catalogue) (λ row. has_something (over r) (to row) ≡ has_something r row) r.executions
      (λ row is. ap (has_something_by (row_status row)) (same-walk r row has is)) all in
      ap (reply_to_claim limit (over r)) (find-mapped (has_something (over r)) to r.executions
      ∙ ap (option_map to) (find-same (λ row. has_something (over r) (to row)) (has_something r) r.executions each))
      ∙ same-claim-of limit r (find (has_something r) r.executions) has all refl

  same-refusal : (r : Rows) (row : ExecutionRow) → Has r → IsNamed r.catalogue row → restart_refusal (over r) (to row) ≡ restart_refusal r row
  same-refusal r row has is =
      let later : list_any (is_later_than (to row)) (map to r.executions) ≡ list_any (is_later_than row) r.executions = any-mapped (is_later_than (to row)) to r.executions in
      let restartable = alike-restartable (job_named r.catalogue row.job) (job_named other (name_of row.job)) (has row.job is) in
      λ i. cond (later i) (Some JobExecutionNotMostRecentException) (refusal_by_status (restartable i) (row_status row))

  same-restart : (limit : ℕ) (r : Rows) (x : ℕ) (found : Option ExecutionRow) → Has r → AreNamed r → find (is_execution x) r.executions ≡ found
      → reply_to_restart limit (over r) (option_map to found) ≡ reply_to_restart limit r found
  same-restart limit r x None has all is = refl
  same-restart limit r x (Some row) has all is =
      ap (λ (refusal : Option Refusal). unless refusal (accepted limit r.count (IsExecution (r.last.execution + 1))))
      (same-refusal r row has (each-found (IsNamed r.catalogue) (is_execution x) r.executions row all is))

  same-stop : (limit count : ℕ) (found : Option ExecutionRow) → reply_to_stop limit count (option_map to found) ≡ reply_to_stop limit count found
  same-stop limit count None = refl
  same-stop limit count (Some row) = refl

  same-abandon : (limit : ℕ) (r : Rows) (found : Option ExecutionRow) → reply_to_abandon limit (over r) (option_map to found) ≡ reply_to_abandon limit r found
  same-abandon limit r None = refl
  same-abandon limit r (Some row) =
      ap (λ (b : Bool). cond b (Err JobExecutionIsRunningException) (accepted limit r.count Done)) (any-mapped (is_running_in row.instance) to r.executions)

  asked-same : (found : Option ExecutionRow) → is_stop_requested (option_map to found) ≡ is_stop_requested found
  asked-same None = refl
  asked-same (Some row) = refl

  same-asked : (r : Rows) (x : ℕ) → stop_requested_of (over r) x ≡ stop_requested_of r x
  same-asked r x = ap is_stop_requested (found-same x r.executions) ∙ asked-same (find (is_execution x) r.executions)

  same-checkpoint : (limit : ℕ) (r : Rows) (who : ℕ) (found : Option WorkRow) → reply_to_checkpoint limit (over r) who found ≡ reply_to_checkpoint limit r who found
  same-checkpoint limit r who None = refl
  same-checkpoint limit r who (Some row) =
      ap (λ (stop : Bool). unless (report_refusal who row.claimer row.state) (reply_to_kept_checkpoint limit r.count stop row.kind)) (same-asked r row.execution)

  same-finish : (limit : ℕ) (r : Rows) (who : ℕ) (outcome : WorkOutcome) (found : Option WorkRow) → reply_to_finish limit (over r) who outcome found ≡ reply_to_finish limit r who outcome found
  same-finish limit r who outcome None = refl
  same-finish limit r who outcome (Some row) =
      ap (λ (stop : Bool). unless (report_refusal who row.claimer row.state) (reply_to_end limit r.count stop row.kind outcome)) (same-asked r row.execution)

  same-purge : (limit : ℕ) (r : Rows) (i : ℕ) → reply_to_purge limit (over r) i ≡ reply_to_purge limit r i
  same-purge limit r i =
      let there : is_instance_there i (over r) ≡ is_instance_there i r = any-mapped (λ (row : JobInstance). row.instance == i) (instance_renamed name_of) r.instances in
      let running : list_any (is_running_in i) (map to r.executions) ≡ list_any (is_running_in i) r.executions = any-mapped (is_running_in i) to r.executions in
      λ k. cond (there k) (cond (running k) (Err JobExecutionIsRunningException) (accepted limit r.count Done)) (Err NoSuchJobInstanceException)

  -- an accepted call has the same reply
  same-reply : (limit : ℕ) (r : Rows) (who : ℕ) (call : Call) (given : Reply) → Has r → AreNamed r → reply_by limit r who call ≡ Ok given
      → reply_by limit (over r) who (call_renamed name_of call) ≡ Ok given
  same-reply limit r who (Start job parameters) given has all ok =
      let there = alike-there (job_named r.catalogue job) (job_named other (name_of job)) (has job (started limit r who job parameters given ok)) in
      ap (λ (b : Bool). cond b (accepted limit r.count (IsExecution (r.last.execution + 1))) (Err JobStartException)) there ∙ ok
  same-reply limit r who (Restart x parameters) given has all ok =
      ap (reply_to_restart limit (over r)) (found-same x r.executions) ∙ (same-restart limit r x (find (is_execution x) r.executions) has all refl ∙ ok)
  same-reply limit r who (Stop x) given has all ok = ap (reply_to_stop limit r.count) (found-same x r.executions) ∙ (same-stop limit r.count (find (is_execution x) r.executions) ∙ ok)
  same-reply limit r who (Abandon x) given has all ok = ap (reply_to_abandon limit (over r)) (found-same x r.executions) ∙ (same-abandon limit r (find (is_execution x) r.executions) ∙ ok)
  same-reply limit r who Claim given has all ok = same-claim limit r has all ∙ ok
  same-reply limit r who (Checkpoint w mark step) given has all ok = same-checkpoint limit r who (find (is_work w) r.works) ∙ ok
  same-reply limit r who (Finish w outcome exit step) given has all ok = same-finish limit r who outcome (find (is_work w) r.works) ∙ ok
  same-reply limit r who (Lose w) given has all ok = ok
  same-reply limit r who (Purge i) given has all ok = same-purge limit r i ∙ ok

  -- ---- Rows

  last-same : (call : Call) (given : Reply) (last : LastNumbers) → last_after (call_renamed name_of call) given last ≡ last_after call given last
  last-same (Start job parameters) given last = refl
  last-same (Restart x parameters) given last = refl
  last-same (Stop x) given last = refl
  last-same (Abandon x) given last = refl
  last-same Claim given last = refl
  last-same (Checkpoint w mark step) given last = refl
  last-same (Finish w outcome exit step) given last = refl
  last-same (Lose w) given last = refl
  last-same (Purge i) given last = refl

  works-same : (n who at : ℕ) (call : Call) (given : Reply) (works : List WorkRow) → works_after n who at (call_renamed name_of call) given works ≡ works_after n who at call given works
  works-same n who at (Start job parameters) given works = refl
  works-same n who at (Restart x parameters) given works = refl
  works-same n who at (Stop x) given works = refl
  works-same n who at (Abandon x) given works = refl
  works-same n who at Claim given works = refl
  works-same n who at (Checkpoint w mark step) given works = refl
  works-same n who at (Finish w outcome exit step) given works = refl
  works-same n who at (Lose w) given works = refl
  works-same n who at (Purge i) given works = refl

  purged-same : (call : Call) → purged_by (call_renamed name_of call) ≡ purged_by call
  purged-same (Start job parameters) = refl
  purged-same (Restart x parameters) = refl
  purged-same (Stop x) = refl
  purged-same (Abandon x) = refl
  purged-same Claim = refl
  purged-same (Checkpoint w mark step) = refl
  purged-same (Finish w outcome exit step) = refl
  purged-same (Lose w) = refl
  purged-same (Purge i) = refl

  instances-same : (n : ℕ) (call : Call) (instances : List JobInstance)
      → instances_after n (call_renamed name_of call) (map (instance_renamed name_of) instances) ≡ map (instance_renamed name_of) (instances_after n call instances)
  instances-same n (Start job parameters) instances = sym (map-append (instance_renamed name_of) instances (record { instance = n; job = job } ∷ []))
  instances-same n (Restart x parameters) instances = refl
  instances-same n (Stop x) instances = refl
  instances-same n (Abandon x) instances = refl
  instances-same n Claim instances = refl
  instances-same n (Checkpoint w mark step) instances = refl
  instances-same n (Finish w outcome exit step) instances = refl
  instances-same n (Lose w) instances = refl
  instances-same n (Purge i) instances = refl

  place-same : (r : Rows) (w : ℕ) → place_in (over r) w ≡ place_in r w
  place-same r w = ap (λ (instance_of : ℕ → Option ℕ). instance_step_by instance_of (find (is_work w) r.works)) (λ i x. instance-same r.executions x i)

  marks-same : (call : Call) (r : Rows) (p : InstanceStep)
      → checkpoint_after (λ w. is_same_step p (place_in (over r) w)) (call_renamed name_of call) (r.checkpoint p) ≡ checkpoint_after (λ w. is_same_step p (place_in r w)) call (r.checkpoint p)
  marks-same (Start job parameters) r p = refl
  marks-same (Restart x parameters) r p = refl
  marks-same (Stop x) r p = refl
  marks-same (Abandon x) r p = refl
  marks-same Claim r p = refl
  marks-same (Checkpoint w mark step) r p = λ i. checkpoint_after (λ w. is_same_step p (place-same r w i)) (Checkpoint w mark step) (r.checkpoint p)
  marks-same (Finish w outcome exit step) r p = λ i. checkpoint_after (λ w. is_same_step p (place-same r w i)) (Finish w outcome exit step) (r.checkpoint p)
  marks-same (Lose w) r p = λ i. checkpoint_after (λ w. is_same_step p (place-same r w i)) (Lose w) (r.checkpoint p)
  marks-same (Purge i) r p = refl

  same-refreshed : (r : Rows) (works : List WorkRow) (at : ℕ) (call : Call) (given : Reply) (x : Option ℕ) → Has r → AreNamed r
      → refreshed_at other works at call given x (map to r.executions) ≡ map to (refreshed_at r.catalogue works at call given x r.executions)
  same-refreshed r works at call given None has all = refl
  same-refreshed r works at call given (Some x) has all =
      change-mapped (is_execution x) to (refreshed_by other works at call given) (refreshed_by r.catalogue works at call given) r.executions
      (each-of (IsNamed r.catalogue) (λ row. refreshed_by other works at call given (to row) ≡ to (refreshed_by r.catalogue works at call given row)) r.executions
      (λ row is. ap (λ (v : Value). refreshed (effect_on row.execution call given) v at (to row))
      (alike-walk row.plan (facts_by_work row.execution works) (job_named r.catalogue row.job) (job_named other (name_of row.job)) (has row.job is))) all)

  works-of-same : (r : Rows) (i : ℕ) → works_of_instance (over r) i ≡ works_of_instance r i
  works-of-same r i =
      ap (λ (instance_of : ℕ → Option ℕ). filter (λ (work : WorkRow). is_at i (instance_of work.execution)) r.works) (λ k x. instance-same r.executions x k)

  same-plan : (r : Rows) (row : ExecutionRow) → Has r → IsNamed r.catalogue row → restart_plan (over r) (to row) ≡ restart_plan r row
  same-plan r row has is =
      (λ i. plan_by (restart_point (is_some row.start) (same-walk r row has is i) row.plan.from) (works-of-same r row.instance i) (job_named other (name_of row.job)))
      ∙ alike-plan (restart_point (is_some row.start) (walk_in_rows r row) row.plan.from) (works_of_instance r row.instance) (job_named r.catalogue row.job) (job_named other (name_of row.job)) (has row.job is)

  same-again : (limit : ℕ) (r : Rows) (x at y : ℕ) (parameters : List Pair) (given : Reply) (found : Option ExecutionRow) → Has r → AreNamed r → find (is_execution y) r.executions ≡ found
      → reply_to_restart limit r found ≡ Ok given → again_row (over r) x at parameters (option_map to found) ≡ to (again_row r x at parameters found)
  same-again limit r x at y parameters given None has all is ok = cc
  same-again limit r x at y parameters given (Some row) has all is ok =
      ap (λ (plan : Plan). fresh_row x row.instance at (name_of row.job) parameters plan)
      (same-plan r row has (each-found (IsNamed r.catalogue) (is_execution y) r.executions row all is))

  same-executions : (limit : ℕ) (r : Rows) (works : List WorkRow) (who at : ℕ) (call : Call) (given : Reply) → Has r → AreNamed r → reply_by limit r who call ≡ Ok given
      → executions_after (over r) works at (call_renamed name_of call) given ≡ map to (executions_after r works at call given)
  same-executions limit r works who at (Start job parameters) given has all ok =
      let first = alike-first (job_named r.catalogue job) (job_named other (name_of job)) (has job (started limit r who job parameters given ok)) in
      ap (λ (plan : Plan). map to r.executions ++ fresh_row (r.last.execution + 1) (r.last.instance + 1) at (name_of job) parameters plan ∷ []) first
      ∙ sym (map-append to r.executions (fresh_row (r.last.execution + 1) (r.last.instance + 1) at job parameters (first_plan (job_named r.catalogue job)) ∷ []))
  same-executions limit r works who at (Restart y parameters) given has all ok =
      ap (λ (row : ExecutionRow). map to r.executions ++ row ∷ [])
      (ap (again_row (over r) (r.last.execution + 1) at parameters) (found-same y r.executions)
      ∙ same-again limit r (r.last.execution + 1) at y parameters given (find (is_execution y) r.executions) has all refl ok)
      ∙ sym (map-append to r.executions (again_row r (r.last.execution + 1) at parameters (find (is_execution y) r.executions) ∷ []))
  same-executions limit r works who at (Stop y) given has all ok = same-refreshed r works at (Stop y) given (Some y) has all
  same-executions limit r works who at (Abandon y) given has all ok = same-refreshed r works at (Abandon y) given (Some y) has all
  same-executions limit r works who at Claim given has all ok = same-refreshed r works at Claim given (execution_of_operation r.works Claim given) has all
  same-executions limit r works who at (Checkpoint w mark step) given has all ok = same-refreshed r works at (Checkpoint w mark step) given (execution_of_operation r.works (Checkpoint w mark step) given) has all
  same-executions limit r works who at (Finish w outcome exit step) given has all ok = same-refreshed r works at (Finish w outcome exit step) given (execution_of_operation r.works (Finish w outcome exit step) given) has all
  same-executions limit r works who at (Lose w) given has all ok = same-refreshed r works at (Lose w) given (execution_of_operation r.works (Lose w) given) has all
  same-executions limit r works who at (Purge i) given has all ok = refl

  same-with : (limit : ℕ) (r : Rows) (e : Entry) → Has r → AreNamed r → reply_by limit r e.who e.call ≡ Ok e.reply → rows_with (over r) (entry_renamed name_of e) ≡ over (rows_with r e)
  same-with limit r e has all ok =
      let works = works-same (r.count + 1) e.who e.at e.call e.reply r.works in
      let executions : executions_after (over r) (works_after (r.count + 1) e.who e.at (call_renamed name_of e.call) e.reply r.works) e.at (call_renamed name_of e.call) e.reply
      ≡ map to (executions_after r (works_after (r.count + 1) e.who e.at e.call e.reply r.works) e.at e.call e.reply)
      = ap (λ (ws : List WorkRow). executions_after (over r) ws e.at (call_renamed name_of e.call) e.reply) works
      ∙ same-executions limit r (works_after (r.count + 1) e.who e.at e.call e.reply r.works) e.who e.at e.call e.reply has all ok in
      let last = last-same e.call e.reply r.last in
      let instances = instances-same (r.last.instance + 1) e.call r.instances in
      λ i. record {
        catalogue = other;
        count = r.count + 1;
        last = last i;
        instances = instances i;
        executions = executions i;
        works = works i;
        checkpoint = λ p. marks-same e.call r p i;
      }

  same-without : (gone : Option ℕ) (r : Rows) → without gone (over r) ≡ over (without gone r)
  same-without None r = refl
  same-without (Some n) r =
      let instances = filter-mapped (λ (row : JobInstance). not (row.instance == n)) (instance_renamed name_of) r.instances in
      let executions = filter-mapped (λ (row : ExecutionRow). not (row.instance == n)) to r.executions in
      λ i. record {
        catalogue = other;
        count = r.count;
        last = r.last;
        instances = instances i;
        executions = executions i;
        works = filter (λ (row : WorkRow). not (is_gone (λ j. j == n) (instance-same r.executions row.execution i))) r.works;
        checkpoint = checkpoint_there (λ j. j == n) r.checkpoint;
      }

  same-rows : (limit : ℕ) (r : Rows) (e : Entry) → Has r → AreNamed r → reply_by limit r e.who e.call ≡ Ok e.reply → rows_after (over r) (entry_renamed name_of e) ≡ over (rows_after r e)
  same-rows limit r e has all ok =
      (λ i. without (purged-same e.call i) (same-with limit r e has all ok i)) ∙ same-without (purged_by e.call) (rows_with r e)

  -- ---- Whole histories

  abbrev Log : Type 0
  Log = List Entry

  abbrev again : Log → Log
  again log = map (entry_renamed name_of) log

  -- what a history comes to under the other names
  record Renamed (limit : ℕ) (catalogue : List JobTree) (log : Log) : Type 0 where
    rows_are : rows (history other (again log)) ≡ over (rows (history catalogue log))
    legal : IsLegal limit (history other (again log))
    named : AreNamed (rows (history catalogue log))

  renamed-grown : (limit : ℕ) (catalogue : List JobTree) (before : Log) (e : Entry) → HasRenamed name_of catalogue other → IsLegal limit (history catalogue (before ++ e ∷ [])) → Renamed limit catalogue before
      → Renamed limit catalogue (before ++ e ∷ [])
  renamed-grown limit catalogue before e has legal R =
      let h = history catalogue before in
      let now = history other (again before) in
      let now_e = entry_renamed name_of e in
      let due = legal.due before e [] refl in
      let ok : reply_by limit (rows h) e.who e.call ≡ Ok e.reply = due.0 in
      let due_now : reply limit now e.who (call_renamed name_of e.call) ≡ Ok e.reply
      = ap (λ (r : Rows). reply_by limit r e.who (call_renamed name_of e.call)) R.rows_are ∙ same-reply limit (rows h) e.who e.call e.reply has R.named ok in
      let legal_now : IsLegal limit (grown now now_e) = legal_grown limit now now_e R.legal due_now due.1 in
      let next : rows (grown h e) ≡ rows_after (rows h) e = rows_grown limit h e legal in
      let split : again (before ++ e ∷ []) ≡ again before ++ now_e ∷ [] = map-append (entry_renamed name_of) before (e ∷ []) in
      record {
        rows_are = ap (λ (log : Log). rows (history other log)) split
            ∙ (rows_grown limit now now_e legal_now ∙ (ap (λ (r : Rows). rows_after r now_e) R.rows_are ∙ (same-rows limit (rows h) e has R.named ok ∙ sym (ap over next))));
        legal = subst (λ (log : Log). IsLegal limit (history other log)) (sym split) legal_now;
        named = subst AreNamed (sym next) (named-after limit (rows h) e R.named ok);
      }

  renamed-past : (limit : ℕ) (catalogue : List JobTree) (past : Log) → HasRenamed name_of catalogue other → IsLegal limit (history catalogue (reverse past)) → Renamed limit catalogue (reverse past)
  renamed-past limit catalogue [] has legal = record { rows_are = refl; legal = legal-nothing limit other; named = tt }
  renamed-past limit catalogue (e ∷ older) has legal =
      let split : reverse (e ∷ older) ≡ reverse older ++ e ∷ [] = reverse-append (e ∷ []) older in
      let before = legal-beginning limit (history catalogue (reverse (e ∷ older))) legal (reverse older) (e ∷ []) split in
      subst (Renamed limit catalogue) (sym split)
      (renamed-grown limit catalogue (reverse older) e has (subst (λ (log : Log). IsLegal limit (history catalogue log)) split legal) (renamed-past limit catalogue older has before))

  renamed : (limit : ℕ) (catalogue : List JobTree) (log : Log) → HasRenamed name_of catalogue other → IsLegal limit (history catalogue log) → Renamed limit catalogue log
  renamed limit catalogue log has legal =
      let twice : reverse (reverse log) ≡ log = reverse-reverse log in
      subst (Renamed limit catalogue) twice (renamed-past limit catalogue (reverse log) has (subst (λ (l : Log). IsLegal limit (history catalogue l)) (sym twice) legal))

pub legal_renamed : (limit : ℕ) (name_of : List ℕ → List ℕ) (catalogue other : List JobTree) (log : List Entry) → HasRenamed name_of catalogue other → IsLegal limit (history catalogue log)
    → IsLegal limit (history other (map (entry_renamed name_of) log))
legal_renamed limit name_of catalogue other log has legal = (renamed name_of other limit catalogue log has legal).legal

pub rows_are_renamed : (limit : ℕ) (name_of : List ℕ → List ℕ) (catalogue other : List JobTree) (log : List Entry) → HasRenamed name_of catalogue other → IsLegal limit (history catalogue log)
    → rows (history other (map (entry_renamed name_of) log)) ≡ rows_renamed name_of other (rows (history catalogue log))
rows_are_renamed limit name_of catalogue other log has legal = (renamed name_of other limit catalogue log has legal).rows_are
