-- What the reply of an entry that is due tells of it.
use Rattle.std.proofs.Common.{subst, ◌≡◌, ℕ, ◌+◌, ◌<◌, ◌≤◌, Bool, true, false, cond, Option, None, Some, is_some, Result, Ok, Err, List, [], ◌∷◌, ◌++◌, length, map, find, reverse, refl, sym, ◌∙◌, ap, arith}
use Rattle.std.specs.List.{list_any}
use Rattle.std.proofs.lemmas.List.{reverse-reverse, append-nil}
use Rattle.job_plans.proofs.Following.{find-map}
use Rattle.batch_ids.specs.declared.refusal.Refusal.{Refusal}
use Rattle.batch_ids.specs.declared.refusal.Refusal.TheVariants.{JobStartException, JobExecutionNotRunningException, JobExecutionIsRunningException, NoSuchJobInstanceException}
use Rattle.batch_ids.specs.declared.status.WorkOutcome.{WorkOutcome}
use Rattle.batch_ids.specs.declared.status.WorkOutcome.TheVariants.{Completed, Failed, Stopped}
use Rattle.jsl_model.specs.Jobs.{JobTree}
use Rattle.walk_rules.specs.declared.work_key.WorkKey.{WorkKey}
use Rattle.batch_history.specs.declared.call.Call.{Call}
use Rattle.batch_history.specs.declared.call.Call.TheVariants.{Start, Restart, Stop, Abandon, Claim, Checkpoint, Finish, Lose, Purge}
use Rattle.batch_history.specs.declared.call.Reply.{Reply}
use Rattle.batch_history.specs.declared.call.Reply.TheVariants.{Execution as IsExecution, Work, Closed, Nothing, Done, Go, StopAsked}
use Rattle.batch_history.specs.declared.call.WorkKind.{WorkKind}
use Rattle.batch_history.specs.declared.call.WorkKind.TheVariants.{Batchlet, Chunk, Decision}
use Rattle.batch_history.specs.declared.call.Entry.{Entry}
use Rattle.batch_history.specs.declared.rows.ExecutionRow.{ExecutionRow}
use Rattle.batch_history.specs.declared.rows.WorkRow.{WorkRow}
use Rattle.batch_history.proofs.Folds.{made, is_made, works_of, folded_rows, execution_row}
use Rattle.batch_history.specs.Executions.{Made}
use Rattle.batch_history.specs.Operations.{taken_up_by}
use Rattle.batch_history.specs.Replies.{reply_by, row_status, is_running_in, accepted, reply_to_claim, claim_reply, reply_to_stop, reply_to_abandon, go_or_stop, reply_to_kept_checkpoint, reply_to_checkpoint, reply_to_stopped_step, reply_to_stopped_work, reply_to_finish, reply_to_end, reply_to_loss, loss_refusal, reply_to_restart, restart_refusal, report_refusal, unless, stop_requested_of, first_ready, walk_in_rows, has_something, is_execution, reply_to_purge, is_instance_there}
use Rattle.batch_history.specs.Rows.{Rows}
use Rattle.batch_history.specs.Statuses.{is_finished}
use Rattle.batch_history.specs.Walks.{job_named}
use Rattle.batch_history.specs.Works.{is_work}
use Rattle.batch_history.proofs.Legal.{entered-is}
use Rattle.batch_history.proofs.Stepping.{AreNumbered, numbered}
use Rattle.batch_history.proofs.Adding.{some-map}

-- what the due reply of a claim tells, after so many work items and job executions
abbrev pub FitsClaim : ℕ → ℕ → Reply → Type 0
FitsClaim works executions (Work item) = (item.work ≡ works + 1) × (item.execution ≤ executions)
FitsClaim works executions (Closed x) = x ≤ executions
FitsClaim works executions Nothing = Unit {0}
FitsClaim works executions (IsExecution x) = ⊥
FitsClaim works executions Done = ⊥
FitsClaim works executions Go = ⊥
FitsClaim works executions StopAsked = ⊥

-- no job execution is taken up, and this one was made before
abbrev pub IsMadeBefore : List Entry → ℕ → Reply → Type 0
IsMadeBefore older y given = (taken_up_by given ≡ None) × (is_some (find (is_made y) (made older)) ≡ true)

-- no job execution is taken up, and this work item was handed out before
abbrev pub IsHandedBefore : List Entry → ℕ → Reply → Type 0
IsHandedBefore older w given = (taken_up_by given ≡ None) × (is_some (find (is_work w) (works_of older)) ≡ true)

-- what the due reply of a call tells, after an older past
abbrev pub Fits : List Entry → Call → Reply → Type 0
Fits older (Start job parameters) given = taken_up_by given ≡ None
Fits older (Restart y parameters) given = IsMadeBefore older y given
Fits older (Stop y) given = IsMadeBefore older y given
Fits older (Abandon y) given = IsMadeBefore older y given
Fits older Claim given = FitsClaim (length (works_of older)) (length (made older)) given
Fits older (Checkpoint w mark step) given = IsHandedBefore older w given
Fits older (Finish w outcome exit step) given = IsHandedBefore older w given
Fits older (Lose w) given = IsHandedBefore older w given
Fits older (Purge i) given = taken_up_by given ≡ None

-- a past each entry of which fits what is older
abbrev pub AllFit : List Entry → Type 0
AllFit [] = Unit {0}
AllFit (e ∷ older) = Fits older e.call e.reply × AllFit older

-- What a reply that is due tells

-- a reply that takes nobody up, where it is entered
entered-none : (limit count : ℕ) (reply given : Reply) → taken_up_by reply ≡ None → accepted limit count reply ≡ Ok given → taken_up_by given ≡ None
entered-none limit count reply given none e = ap taken_up_by (entered-is limit count reply given e) ∙ none

-- the same behind a test
tested-none : (b : Bool) (refusal : Refusal) (reply : Result Reply Refusal) (given : Reply) → (reply ≡ Ok given → taken_up_by given ≡ None)
    → cond b (Err refusal) reply ≡ Ok given → taken_up_by given ≡ None
tested-none true refusal reply given none e = cc
tested-none false refusal reply given none e = none e

unless-none : (refusal : Option Refusal) (reply : Result Reply Refusal) (given : Reply) → (reply ≡ Ok given → taken_up_by given ≡ None)
    → unless refusal reply ≡ Ok given → taken_up_by given ≡ None
unless-none None reply given none e = none e
unless-none (Some refusal) reply given none e = cc

found-within : (f : Made → ExecutionRow) (p : ExecutionRow → Bool) (k : ℕ) (ms : List Made) (row : ExecutionRow) → AreNumbered k ms
    → ((m : Made) → (f m).execution ≡ m.execution) → find p (map f ms) ≡ Some row → row.execution < length ms + k
found-within f p k [] row h named e = cc
found-within f p k (m ∷ ms) row h named e =
    (elim (p (f m)) as (λ b. cond b (Some (f m)) (find p (map f ms)) ≡ Some row → row.execution < length (m ∷ ms) + k) [
      | true ↦ λ s. let is : row.execution ≡ (f m).execution = cc in omega (arith, h.0, named m, is)
      | false ↦ λ s. omega (arith, found-within f p (k + 1) ms row h.1 named s)
    ]) e

claim-fits : (r : Rows) (executions : ℕ) (row : ExecutionRow) (ready : Option WorkKey) → row.execution ≤ executions
    → FitsClaim r.last.work executions (claim_reply r row ready)
claim-fits r executions row None le = le
claim-fits r executions row (Some key) le = (refl, le)

claimed-fits : (limit : ℕ) (r : Rows) (executions : ℕ) (found : Option ExecutionRow) (given : Reply) → reply_to_claim limit r found ≡ Ok given
    → ((row : ExecutionRow) → found ≡ Some row → row.execution ≤ executions) → FitsClaim r.last.work executions given
claimed-fits limit r executions None given e below = let is : Nothing ≡ given = cc in subst (FitsClaim r.last.work executions) is tt
claimed-fits limit r executions (Some row) given e below =
    let reply : Reply = claim_reply r row (first_ready (walk_in_rows r row)) in
    subst (FitsClaim r.last.work executions) (sym (entered-is limit r.count reply given e))
    (claim-fits r executions row (first_ready (walk_in_rows r row)) (below row refl))

stopped-fits : (limit count : ℕ) (found : Option ExecutionRow) (given : Reply) → reply_to_stop limit count found ≡ Ok given
    → (taken_up_by given ≡ None) × (is_some found ≡ true)
stopped-fits limit count None given e = cc
stopped-fits limit count (Some row) given e =
    (tested-none (is_finished (row_status row)) JobExecutionNotRunningException _ given (entered-none limit count Done given refl) e, refl)

abandoned-fits : (limit : ℕ) (r : Rows) (found : Option ExecutionRow) (given : Reply) → reply_to_abandon limit r found ≡ Ok given
    → (taken_up_by given ≡ None) × (is_some found ≡ true)
abandoned-fits limit r None given e = cc
abandoned-fits limit r (Some row) given e =
    (tested-none (list_any (is_running_in row.instance) r.executions) JobExecutionIsRunningException _ given (entered-none limit r.count Done given refl) e, refl)

going-none : (stop : Bool) → taken_up_by (go_or_stop stop) ≡ None
going-none true = refl
going-none false = refl

marked-none : (limit count : ℕ) (stop : Bool) (kind : WorkKind) (given : Reply) → reply_to_kept_checkpoint limit count stop kind ≡ Ok given → taken_up_by given ≡ None
marked-none limit count stop Chunk given e = entered-none limit count (go_or_stop stop) given (going-none stop) e
marked-none limit count stop Batchlet given e = cc
marked-none limit count stop Decision given e = cc

checkpointed-fits : (limit : ℕ) (r : Rows) (who : ℕ) (found : Option WorkRow) (given : Reply) → reply_to_checkpoint limit r who found ≡ Ok given
    → (taken_up_by given ≡ None) × (is_some found ≡ true)
checkpointed-fits limit r who None given e = cc
checkpointed-fits limit r who (Some row) given e =
    (unless-none (report_refusal who row.claimer row.state) _ given (marked-none limit r.count (stop_requested_of r row.execution) row.kind given) e, refl)

stop-none : (limit count : ℕ) (stop : Bool) (given : Reply) → reply_to_stopped_step limit count stop ≡ Ok given → taken_up_by given ≡ None
stop-none limit count true given e = entered-none limit count Done given refl e
stop-none limit count false given e = cc

ending-none : (limit count : ℕ) (stop : Bool) (kind : WorkKind) (given : Reply) → reply_to_stopped_work limit count stop kind ≡ Ok given → taken_up_by given ≡ None
ending-none limit count stop Decision given e = cc
ending-none limit count stop Batchlet given e = stop-none limit count stop given e
ending-none limit count stop Chunk given e = stop-none limit count stop given e

as-none : (limit count : ℕ) (stop : Bool) (kind : WorkKind) (o : WorkOutcome) (given : Reply) → reply_to_end limit count stop kind o ≡ Ok given → taken_up_by given ≡ None
as-none limit count stop kind Stopped given e = ending-none limit count stop kind given e
as-none limit count stop kind Completed given e = entered-none limit count Done given refl e
as-none limit count stop kind Failed given e = entered-none limit count Done given refl e

finished-fits : (limit : ℕ) (r : Rows) (who : ℕ) (o : WorkOutcome) (found : Option WorkRow) (given : Reply) → reply_to_finish limit r who o found ≡ Ok given
    → (taken_up_by given ≡ None) × (is_some found ≡ true)
finished-fits limit r who o None given e = cc
finished-fits limit r who o (Some row) given e =
    (unless-none (report_refusal who row.claimer row.state) _ given (as-none limit r.count (stop_requested_of r row.execution) row.kind o given) e, refl)

lost-fits : (limit count : ℕ) (found : Option WorkRow) (given : Reply) → reply_to_loss limit count found ≡ Ok given
    → (taken_up_by given ≡ None) × (is_some found ≡ true)
lost-fits limit count None given e = cc
lost-fits limit count (Some row) given e = (unless-none (loss_refusal row.state) _ given (entered-none limit count Done given refl) e, refl)

restarted-fits : (limit : ℕ) (r : Rows) (found : Option ExecutionRow) (given : Reply) → reply_to_restart limit r found ≡ Ok given
    → (taken_up_by given ≡ None) × (is_some found ≡ true)
restarted-fits limit r None given e = cc
restarted-fits limit r (Some row) given e =
    (unless-none (restart_refusal r row) _ given (entered-none limit r.count (IsExecution (r.last.execution + 1)) given refl) e, refl)

purged-fits : (limit : ℕ) (r : Rows) (i : ℕ) (given : Reply) → reply_to_purge limit r i ≡ Ok given → taken_up_by given ≡ None
purged-fits limit r i given e =
    (elim (is_instance_there i r) as (λ b. cond b (cond (list_any (is_running_in i) r.executions) (Err JobExecutionIsRunningException) (accepted limit r.count Done)) (Err NoSuchJobInstanceException) ≡ Ok given
    → taken_up_by given ≡ None) [
      | true ↦ λ s. tested-none (list_any (is_running_in i) r.executions) JobExecutionIsRunningException _ given (entered-none limit r.count Done given refl) s
      | false ↦ λ s. cc
    ]) e

-- a job execution has a row where it was made
there : (catalogue : List JobTree) (older : List Entry) (y : ℕ)
    → is_some (find (is_execution y) (map (execution_row catalogue older) (made older))) ≡ is_some (find (is_made y) (made older))
there catalogue older y =
    ap is_some (find-map (execution_row catalogue older) (is_execution y) (is_made y) (λ x. refl) (made older))
    ∙ some-map (execution_row catalogue older) (find (is_made y) (made older))

-- an entry whose reply is due fits what is older
pub due-fits : (limit : ℕ) (catalogue : List JobTree) (older : List Entry) (who : ℕ) (call : Call) (given : Reply)
    → reply_by limit (folded_rows catalogue older) who call ≡ Ok given → Fits older call given
due-fits limit catalogue older who (Start job parameters) given e =
    let r : Rows = folded_rows catalogue older in
    let n : ℕ = r.last.execution + 1 in
    (elim (is_some (job_named catalogue job)) as (λ b. cond b (accepted limit r.count (IsExecution n)) (Err JobStartException) ≡ Ok given → taken_up_by given ≡ None) [
      | true ↦ λ s. entered-none limit r.count (IsExecution n) given refl s
      | false ↦ λ s. cc
    ]) e
due-fits limit catalogue older who (Restart y parameters) given e =
    let fits = restarted-fits limit (folded_rows catalogue older) (find (is_execution y) (map (execution_row catalogue older) (made older))) given e in
    (fits.0, sym (there catalogue older y) ∙ fits.1)
due-fits limit catalogue older who (Stop y) given e =
    let fits = stopped-fits limit (length older) (find (is_execution y) (map (execution_row catalogue older) (made older))) given e in
    (fits.0, sym (there catalogue older y) ∙ fits.1)
due-fits limit catalogue older who (Abandon y) given e =
    let fits = abandoned-fits limit (folded_rows catalogue older) (find (is_execution y) (map (execution_row catalogue older) (made older))) given e in
    (fits.0, sym (there catalogue older y) ∙ fits.1)
due-fits limit catalogue older who Claim given e =
    let r : Rows = folded_rows catalogue older in
    claimed-fits limit r (length (made older)) (find (has_something r) r.executions) given e
    (λ row is. omega (arith, found-within (execution_row catalogue older) (has_something r) 1 (made older) row (numbered older) (λ m. refl) is))
due-fits limit catalogue older who (Checkpoint w mark step) given e =
    checkpointed-fits limit (folded_rows catalogue older) who (find (is_work w) (works_of older)) given e
due-fits limit catalogue older who (Finish w o exit step) given e =
    finished-fits limit (folded_rows catalogue older) who o (find (is_work w) (works_of older)) given e
due-fits limit catalogue older who (Lose w) given e = lost-fits limit (length older) (find (is_work w) (works_of older)) given e
due-fits limit catalogue older who (Purge i) given e = purged-fits limit (folded_rows catalogue older) i given e

-- a past is the whole history, the newest first
pub whole-past : (log : List Entry) → log ≡ reverse (reverse log) ++ []
whole-past log = sym (append-nil (reverse (reverse log)) ∙ reverse-reverse log)
