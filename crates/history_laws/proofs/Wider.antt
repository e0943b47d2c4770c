-- A catalogue with more jobs behind its own: a legal history says the same over it.
use Rattle.std.proofs.Common.{◌≡◌, ◌∙◌, ℕ, ◌+◌, Bool, true, false, cond, Option, Some, None, is_some, Result, Ok, Err, List, [], ◌∷◌, ◌++◌, find, filter, reverse, refl, sym, ap, subst}
use Rattle.std.proofs.lemmas.List.{reverse-append, reverse-reverse}
use Rattle.std.specs.List.{list_any}
use Rattle.std.specs.Str.{bytes_eq}
use Rattle.jsl_model.specs.Jobs.{JobTree}
use Rattle.batch_ids.specs.declared.refusal.Refusal.{Refusal}
use Rattle.batch_ids.specs.declared.refusal.Refusal.TheVariants.{JobStartException, JobExecutionNotMostRecentException}
use Rattle.batch_ids.specs.Parameters.{Pair}
use Rattle.batch_history.specs.declared.call.Call.{Call}
use Rattle.batch_history.specs.declared.call.Call.TheVariants.{Start, Restart, Stop, Abandon, Claim, Checkpoint, Finish, Lose, Purge}
use Rattle.batch_history.specs.declared.call.Entry.{Entry}
use Rattle.batch_history.specs.declared.call.Reply.{Reply}
use Rattle.batch_history.specs.declared.call.Reply.TheVariants.{Work, Execution as IsExecution}
use Rattle.batch_history.specs.declared.rows.ExecutionRow.{ExecutionRow}
use Rattle.batch_history.specs.declared.rows.WorkRow.{WorkRow}
use Rattle.batch_history.specs.Checkpoints.{checkpoint_after, is_same_step}
use Rattle.batch_history.specs.Legal.{IsLegal, grown}
use Rattle.batch_history.specs.Lists.{Each, change_first}
use Rattle.batch_history.specs.NextRows.{again_row, effect_on, executions_after, fresh_row, instances_after, last_after, place_in, refreshed, refreshed_at, refreshed_by, rows_after, rows_with, without, works_after}
use Rattle.batch_history.specs.Operations.{purged_by}
use Rattle.batch_history.specs.Replies.{accepted, claim_reply, first_ready, has_something, has_something_by, is_execution, is_later_than, is_restartable, partition_named, partitions_of_job, refusal_by_status, reply, reply_by, reply_to_claim, reply_to_restart, restart_plan, restart_refusal, row_status, runnable_of_job, unless, walk_in_rows, work_task, works_of_instance}
use Rattle.batch_history.specs.Restarts.{first_plan, plan_by, restart_point}
use Rattle.batch_history.specs.Rows.{Rows, history, rows}
use Rattle.batch_history.specs.Walks.{facts_by_work, job_named, walk_of}
use Rattle.batch_history.specs.Works.{execution_of_operation}
use Rattle.batch_history.proofs.Legal.{legal-beginning, legal-nothing, legal_grown}
use Rattle.batch_history.proofs.Legality.{rows_grown}
use Rattle.batch_history.proofs.WorkLists.{each-found}
use Rattle.job_plans.specs.declared.plan.Plan.{Plan}
use Rattle.walk_rules.specs.declared.facts.Value.{Value}
use Rattle.walk_rules.specs.declared.work_key.WorkKey.{WorkKey}

-- ---- Lists

each-of : {X : Type 0} (P Q : X → Type 0) (xs : List X) → ((x : X) → P x → Q x) → Each P xs → Each Q xs
each-of P Q [] f all = tt
each-of P Q (x ∷ xs) f all = (f x all.0, each-of P Q xs f all.1)

each-append : {X : Type 0} (P : X → Type 0) (xs : List X) (x : X) → Each P xs → P x → Each P (xs ++ x ∷ [])
each-append P [] x all one = (one, tt)
each-append P (y ∷ ys) x all one = (all.0, each-append P ys x all.1 one)

each-changed : {X : Type 0} (P : X → Type 0) (p : X → Bool) (f : X → X) (xs : List X) → ((x : X) → P x → P (f x)) → Each P xs → Each P (change_first p f xs)
each-changed P p f [] keeps all = tt
each-changed P p f (x ∷ xs) keeps all =
    elim (p x) as (λ b. Each P (cond b (f x ∷ xs) (x ∷ change_first p f xs))) [
      | true ↦ (keeps x all.0, all.1)
      | false ↦ (all.0, each-changed P p f xs keeps all.1)
    ]

each-filtered : {X : Type 0} (P : X → Type 0) (p : X → Bool) (xs : List X) → Each P xs → Each P (filter p xs)
each-filtered P p [] all = tt
each-filtered P p (x ∷ xs) all =
    elim (p x) as (λ b. Each P (cond b (x ∷ filter p xs) (filter p xs))) [
      | true ↦ (all.0, each-filtered P p xs all.1)
      | false ↦ each-filtered P p xs all.1
    ]

find-same : {X : Type 0} (p q : X → Bool) (xs : List X) → Each (λ x. p x ≡ q x) xs → find p xs ≡ find q xs
find-same p q [] all = refl
find-same p q (x ∷ xs) all = λ i. cond (all.0 i) (Some x) (find-same p q xs all.1 i)

change-same : {X : Type 0} (p : X → Bool) (f g : X → X) (xs : List X) → Each (λ x. f x ≡ g x) xs → change_first p f xs ≡ change_first p g xs
change-same p f g [] all = refl
change-same p f g (x ∷ xs) all = λ i. cond (p x) (all.0 i ∷ xs) (x ∷ change-same p f g xs all.1 i)

found-front : {X : Type 0} (p : X → Bool) (xs more : List X) → is_some (find p xs) ≡ true → find p (xs ++ more) ≡ find p xs
found-front p [] more some = cc
found-front p (x ∷ xs) more some =
    elim (p x) as (λ b. is_some (cond b (Some x) (find p xs)) ≡ true → cond b (Some x) (find p (xs ++ more)) ≡ cond b (Some x) (find p xs)) [
      | true ↦ λ here. refl
      | false ↦ λ later. found-front p xs more later
    ] some

-- ---- Rows over more jobs

-- the rows with more jobs in their catalogue
abbrev pub over_more : List JobTree → Rows → Rows
over_more more r = record r { catalogue = r.catalogue ++ more }

-- the job of a job execution is in the catalogue
abbrev IsNamed : List JobTree → ExecutionRow → Type 0
IsNamed catalogue row = is_some (job_named catalogue row.job) ≡ true

abbrev AreNamed : Rows → Type 0
AreNamed r = Each (IsNamed r.catalogue) r.executions

same-job : (catalogue more : List JobTree) (name : List ℕ) → is_some (job_named catalogue name) ≡ true → job_named (catalogue ++ more) name ≡ job_named catalogue name
same-job catalogue more name some = found-front (λ (job : JobTree). bytes_eq job.id name) catalogue more some

same-walk : (more : List JobTree) (r : Rows) (row : ExecutionRow) → IsNamed r.catalogue row → walk_in_rows (over_more more r) row ≡ walk_in_rows r row
same-walk more r row is = ap (walk_of row.plan (facts_by_work row.execution r.works)) (same-job r.catalogue more row.job is)

-- ---- Replies

same-claim-of : (more : List JobTree) (r : Rows) (row : ExecutionRow) (ready : Option WorkKey) → IsNamed r.catalogue row → claim_reply (over_more more r) row ready ≡ claim_reply r row ready
same-claim-of more r row None is = refl
same-claim-of more r row (Some key) is =
    ap (λ (job : Option JobTree). Work record {
      work = r.last.work + 1;
      execution = row.execution;
      element = key.element;
      partition = partition_named key.partition (partitions_of_job job key);
      task = work_task (r.checkpoint record { instance = row.instance; step = key }) (runnable_of_job job key);
    }) (same-job r.catalogue more row.job is)

same-claim-by : (limit : ℕ) (more : List JobTree) (r : Rows) (found : Option ExecutionRow) → AreNamed r → find (has_something r) r.executions ≡ found
    → reply_to_claim limit (over_more more r) found ≡ reply_to_claim limit r found
same-claim-by limit more r None all is = refl
same-claim-by limit more r (Some row) all is =
    let named : IsNamed r.catalogue row = each-found (IsNamed r.catalogue) (has_something r) r.executions row all is in
    ap (accepted limit r.count) (ap (λ (v : Value). claim_reply (over_more more r) row (first_ready v)) (same-walk more r row named)
    ∙ same-claim-of more r row (first_ready (walk_in_rows r row)) named)

same-claim : (limit : ℕ) (more : List JobTree) (r : Rows) → AreNamed r
    → reply_to_claim limit (over_more more r) (find (has_something (over_more more r)) r.executions) ≡ reply_to_claim limit r (find (has_something r) r.executions)
same-claim limit more r all =
    let each = each-of (IsNamed r.catalogue) (λ row. has_something (over_more more r) row ≡ has_something r row) r.executions
    (λ row is. ap (has_something_by (row_status row)) (same-walk more r row is)) all in
    ap (reply_to_claim limit (over_more more r)) (find-same (has_something (over_more more r)) (has_something r) r.executions each)
    ∙ same-claim-by limit more r (find (has_something r) r.executions) all refl

same-refusal : (more : List JobTree) (r : Rows) (row : ExecutionRow) → IsNamed r.catalogue row → restart_refusal (over_more more r) row ≡ restart_refusal r row
same-refusal more r row is =
    ap (λ (job : Option JobTree). cond (list_any (is_later_than row) r.executions) (Some JobExecutionNotMostRecentException) (refusal_by_status (is_restartable job) (row_status row)))
    (same-job r.catalogue more row.job is)

same-restart : (limit : ℕ) (more : List JobTree) (r : Rows) (x : ℕ) (found : Option ExecutionRow) → AreNamed r → find (is_execution x) r.executions ≡ found
    → reply_to_restart limit (over_more more r) found ≡ reply_to_restart limit r found
same-restart limit more r x None all is = refl
same-restart limit more r x (Some row) all is =
    ap (λ (refusal : Option Refusal). unless refusal (accepted limit r.count (IsExecution (r.last.execution + 1))))
    (same-refusal more r row (each-found (IsNamed r.catalogue) (is_execution x) r.executions row all is))

start-named : (known : Bool) (job : Option JobTree) (given : Reply) (due : Result Reply Refusal) → is_some job ≡ known → cond known due (Err JobStartException) ≡ Ok given → is_some job ≡ true
start-named true job given due is ok = is
start-named false job given due is ok = cc

-- the job of a start that was accepted
started : (limit : ℕ) (r : Rows) (who : ℕ) (job : List ℕ) (parameters : List Pair) (given : Reply) → reply_by limit r who (Start job parameters) ≡ Ok given → is_some (job_named r.catalogue job) ≡ true
started limit r who job parameters given ok = start-named (is_some (job_named r.catalogue job)) (job_named r.catalogue job) given _ refl ok

-- an accepted call has the same reply
same-reply : (limit : ℕ) (more : List JobTree) (r : Rows) (who : ℕ) (call : Call) (given : Reply) → AreNamed r → reply_by limit r who call ≡ Ok given → reply_by limit (over_more more r) who call ≡ Ok given
same-reply limit more r who (Start job parameters) given all ok =
    ap (λ (j : Option JobTree). cond (is_some j) (accepted limit r.count (IsExecution (r.last.execution + 1))) (Err JobStartException))
    (same-job r.catalogue more job (started limit r who job parameters given ok)) ∙ ok
same-reply limit more r who (Restart x parameters) given all ok = same-restart limit more r x (find (is_execution x) r.executions) all refl ∙ ok
same-reply limit more r who (Stop x) given all ok = ok
same-reply limit more r who (Abandon x) given all ok = ok
same-reply limit more r who Claim given all ok = same-claim limit more r all ∙ ok
same-reply limit more r who (Checkpoint w mark step) given all ok = ok
same-reply limit more r who (Finish w outcome exit step) given all ok = ok
same-reply limit more r who (Lose w) given all ok = ok
same-reply limit more r who (Purge i) given all ok = ok

-- ---- One operation more

same-refreshed : (catalogue more : List JobTree) (works : List WorkRow) (at : ℕ) (call : Call) (given : Reply) (x : Option ℕ) (executions : List ExecutionRow) → Each (IsNamed catalogue) executions
    → refreshed_at (catalogue ++ more) works at call given x executions ≡ refreshed_at catalogue works at call given x executions
same-refreshed catalogue more works at call given None executions all = refl
same-refreshed catalogue more works at call given (Some x) executions all =
    change-same (is_execution x) (refreshed_by (catalogue ++ more) works at call given) (refreshed_by catalogue works at call given) executions
    (each-of (IsNamed catalogue) (λ row. refreshed_by (catalogue ++ more) works at call given row ≡ refreshed_by catalogue works at call given row) executions
    (λ row is. ap (λ (v : Value). refreshed (effect_on row.execution call given) v at row) (ap (walk_of row.plan (facts_by_work row.execution works)) (same-job catalogue more row.job is))) all)

same-plan : (more : List JobTree) (r : Rows) (row : ExecutionRow) → IsNamed r.catalogue row → restart_plan (over_more more r) row ≡ restart_plan r row
same-plan more r row is = λ i. plan_by (restart_point (is_some row.start) (same-walk more r row is i) row.plan.from) (works_of_instance r row.instance) (same-job r.catalogue more row.job is i)

same-again : (more : List JobTree) (r : Rows) (x at y : ℕ) (parameters : List Pair) (found : Option ExecutionRow) → AreNamed r → find (is_execution y) r.executions ≡ found
    → again_row (over_more more r) x at parameters found ≡ again_row r x at parameters found
same-again more r x at y parameters None all is = refl
same-again more r x at y parameters (Some row) all is =
    ap (λ (plan : Plan). fresh_row x row.instance at row.job parameters plan) (same-plan more r row (each-found (IsNamed r.catalogue) (is_execution y) r.executions row all is))

same-executions : (limit : ℕ) (more : List JobTree) (r : Rows) (works : List WorkRow) (who at : ℕ) (call : Call) (given : Reply) → AreNamed r → reply_by limit r who call ≡ Ok given
    → executions_after (over_more more r) works at call given ≡ executions_after r works at call given
same-executions limit more r works who at (Start job parameters) given all ok =
    ap (λ (j : Option JobTree). r.executions ++ fresh_row (r.last.execution + 1) (r.last.instance + 1) at job parameters (first_plan j) ∷ [])
    (same-job r.catalogue more job (started limit r who job parameters given ok))
same-executions limit more r works who at (Restart y parameters) given all ok =
    ap (λ (row : ExecutionRow). r.executions ++ row ∷ []) (same-again more r (r.last.execution + 1) at y parameters (find (is_execution y) r.executions) all refl)
same-executions limit more r works who at (Stop y) given all ok = same-refreshed r.catalogue more works at (Stop y) given (Some y) r.executions all
same-executions limit more r works who at (Abandon y) given all ok = same-refreshed r.catalogue more works at (Abandon y) given (Some y) r.executions all
same-executions limit more r works who at Claim given all ok = same-refreshed r.catalogue more works at Claim given (execution_of_operation r.works Claim given) r.executions all
same-executions limit more r works who at (Checkpoint w mark step) given all ok = same-refreshed r.catalogue more works at (Checkpoint w mark step) given (execution_of_operation r.works (Checkpoint w mark step) given) r.executions all
same-executions limit more r works who at (Finish w outcome exit step) given all ok = same-refreshed r.catalogue more works at (Finish w outcome exit step) given (execution_of_operation r.works (Finish w outcome exit step) given) r.executions all
same-executions limit more r works who at (Lose w) given all ok = same-refreshed r.catalogue more works at (Lose w) given (execution_of_operation r.works (Lose w) given) r.executions all
same-executions limit more r works who at (Purge i) given all ok = refl

same-without : (more : List JobTree) (i : Option ℕ) (r : Rows) → without i (over_more more r) ≡ over_more more (without i r)
same-without more None r = refl
same-without more (Some i) r = refl

same-rows : (limit : ℕ) (more : List JobTree) (r : Rows) (e : Entry) → AreNamed r → reply_by limit r e.who e.call ≡ Ok e.reply → rows_after (over_more more r) e ≡ over_more more (rows_after r e)
same-rows limit more r e all ok =
    let works = works_after (r.count + 1) e.who e.at e.call e.reply r.works in
    ap (λ (executions : List ExecutionRow). without (purged_by e.call) record {
      catalogue = r.catalogue ++ more;
      count = r.count + 1;
      last = last_after e.call e.reply r.last;
      instances = instances_after (r.last.instance + 1) e.call r.instances;
      executions = executions;
      works = works;
      checkpoint = λ p. checkpoint_after (λ w. is_same_step p (place_in r w)) e.call (r.checkpoint p);
    }) (same-executions limit more r works e.who e.at e.call e.reply all ok)
    ∙ same-without more (purged_by e.call) (rows_with r e)

-- ---- Each job execution is of a job of the catalogue

named-refreshed : (catalogue : List JobTree) (works : List WorkRow) (at : ℕ) (call : Call) (given : Reply) (x : Option ℕ) (executions : List ExecutionRow) → Each (IsNamed catalogue) executions
    → Each (IsNamed catalogue) (refreshed_at catalogue works at call given x executions)
named-refreshed catalogue works at call given None executions all = all
named-refreshed catalogue works at call given (Some x) executions all =
    each-changed (IsNamed catalogue) (is_execution x) (refreshed_by catalogue works at call given) executions (λ row is. is) all

named-again : (limit : ℕ) (r : Rows) (x at y : ℕ) (parameters : List Pair) (given : Reply) (found : Option ExecutionRow) → AreNamed r → find (is_execution y) r.executions ≡ found
    → reply_to_restart limit r found ≡ Ok given → IsNamed r.catalogue (again_row r x at parameters found)
named-again limit r x at y parameters given None all is ok = cc
named-again limit r x at y parameters given (Some row) all is ok = each-found (IsNamed r.catalogue) (is_execution y) r.executions row all is

named-executions : (limit : ℕ) (r : Rows) (works : List WorkRow) (who at : ℕ) (call : Call) (given : Reply) → AreNamed r → reply_by limit r who call ≡ Ok given
    → Each (IsNamed r.catalogue) (executions_after r works at call given)
named-executions limit r works who at (Start job parameters) given all ok =
    each-append (IsNamed r.catalogue) r.executions (fresh_row (r.last.execution + 1) (r.last.instance + 1) at job parameters (first_plan (job_named r.catalogue job))) all (started limit r who job parameters given ok)
named-executions limit r works who at (Restart y parameters) given all ok =
    each-append (IsNamed r.catalogue) r.executions (again_row r (r.last.execution + 1) at parameters (find (is_execution y) r.executions)) all
    (named-again limit r (r.last.execution + 1) at y parameters given (find (is_execution y) r.executions) all refl ok)
named-executions limit r works who at (Stop y) given all ok = named-refreshed r.catalogue works at (Stop y) given (Some y) r.executions all
named-executions limit r works who at (Abandon y) given all ok = named-refreshed r.catalogue works at (Abandon y) given (Some y) r.executions all
named-executions limit r works who at Claim given all ok = named-refreshed r.catalogue works at Claim given (execution_of_operation r.works Claim given) r.executions all
named-executions limit r works who at (Checkpoint w mark step) given all ok = named-refreshed r.catalogue works at (Checkpoint w mark step) given (execution_of_operation r.works (Checkpoint w mark step) given) r.executions all
named-executions limit r works who at (Finish w outcome exit step) given all ok = named-refreshed r.catalogue works at (Finish w outcome exit step) given (execution_of_operation r.works (Finish w outcome exit step) given) r.executions all
named-executions limit r works who at (Lose w) given all ok = named-refreshed r.catalogue works at (Lose w) given (execution_of_operation r.works (Lose w) given) r.executions all
named-executions limit r works who at (Purge i) given all ok = all

named-without : (i : Option ℕ) (r : Rows) → AreNamed r → AreNamed (without i r)
named-without None r all = all
named-without (Some i) r all = each-filtered (IsNamed r.catalogue) _ r.executions all

named-after : (limit : ℕ) (r : Rows) (e : Entry) → AreNamed r → reply_by limit r e.who e.call ≡ Ok e.reply → AreNamed (rows_after r e)
named-after limit r e all ok =
    named-without (purged_by e.call) (rows_with r e) (named-executions limit r (works_after (r.count + 1) e.who e.at e.call e.reply r.works) e.who e.at e.call e.reply all ok)

-- ---- Whole histories

-- what a history comes to over more jobs
record Wider (limit : ℕ) (catalogue more : List JobTree) (log : List Entry) : Type 0 where
  rows_are : rows (history (catalogue ++ more) log) ≡ over_more more (rows (history catalogue log))
  legal : IsLegal limit (history (catalogue ++ more) log)
  named : AreNamed (rows (history catalogue log))

wider-grown : (limit : ℕ) (catalogue more : List JobTree) (before : List Entry) (e : Entry) → IsLegal limit (history catalogue (before ++ e ∷ [])) → Wider limit catalogue more before
    → Wider limit catalogue more (before ++ e ∷ [])
wider-grown limit catalogue more before e legal W =
    let h = history catalogue before in
    let wide = history (catalogue ++ more) before in
    let due = legal.due before e [] refl in
    let ok : reply_by limit (rows h) e.who e.call ≡ Ok e.reply = due.0 in
    let due_wide : reply limit wide e.who e.call ≡ Ok e.reply = ap (λ (r : Rows). reply_by limit r e.who e.call) W.rows_are ∙ same-reply limit more (rows h) e.who e.call e.reply W.named ok in
    let legal_wide : IsLegal limit (grown wide e) = legal_grown limit wide e W.legal due_wide due.1 in
    let next : rows (grown h e) ≡ rows_after (rows h) e = rows_grown limit h e legal in
    record {
      rows_are = rows_grown limit wide e legal_wide ∙ (ap (λ (r : Rows). rows_after r e) W.rows_are ∙ (same-rows limit more (rows h) e W.named ok ∙ sym (ap (over_more more) next)));
      legal = legal_wide;
      named = subst AreNamed (sym next) (named-after limit (rows h) e W.named ok);
    }

wider-past : (limit : ℕ) (catalogue more : List JobTree) (past : List Entry) → IsLegal limit (history catalogue (reverse past)) → Wider limit catalogue more (reverse past)
wider-past limit catalogue more [] legal = record { rows_are = refl; legal = legal-nothing limit (catalogue ++ more); named = tt }
wider-past limit catalogue more (e ∷ older) legal =
    let split : reverse (e ∷ older) ≡ reverse older ++ e ∷ [] = reverse-append (e ∷ []) older in
    let before = legal-beginning limit (history catalogue (reverse (e ∷ older))) legal (reverse older) (e ∷ []) split in
    subst (Wider limit catalogue more) (sym split)
    (wider-grown limit catalogue more (reverse older) e (subst (λ (log : List Entry). IsLegal limit (history catalogue log)) split legal) (wider-past limit catalogue more older before))

wider : (limit : ℕ) (catalogue more : List JobTree) (log : List Entry) → IsLegal limit (history catalogue log) → Wider limit catalogue more log
wider limit catalogue more log legal =
    let twice : reverse (reverse log) ≡ log = reverse-reverse log in
    subst (Wider limit catalogue more) twice (wider-past limit catalogue more (reverse log) (subst (λ (l : List Entry). IsLegal limit (history catalogue l)) (sym twice) legal))

pub legal_wider : (limit : ℕ) (catalogue more : List JobTree) (log : List Entry) → IsLegal limit (history catalogue log) → IsLegal limit (history (catalogue ++ more) log)
legal_wider limit catalogue more log legal = (wider limit catalogue more log legal).legal

pub rows_wider : (limit : ℕ) (catalogue more : List JobTree) (log : List Entry) → IsLegal limit (history catalogue log)
    → rows (history (catalogue ++ more) log) ≡ record (rows (history catalogue log)) { catalogue = catalogue ++ more }
rows_wider limit catalogue more log legal = (wider limit catalogue more log legal).rows_are
