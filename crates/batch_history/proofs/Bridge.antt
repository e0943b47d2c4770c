-- What a call is answered by what exists, it is answered by all that was made: a purge takes away nothing that an accepted call
-- needs.
use Rattle.std.proofs.Common.{◌≡◌, ℕ, ◌+◌, ◌==◌, Bool, true, false, cond, not, Option, None, Some, Result, Ok, Err, List, find, refl, sym, ◌∙◌, ap}
use Rattle.std.specs.List.{list_any}
use Rattle.std.proofs.lemmas.Bool.{eqb-true}
use Rattle.batch_ids.specs.declared.refusal.Refusal.{Refusal}
use Rattle.batch_ids.specs.declared.refusal.Refusal.TheVariants.{NoSuchJobInstanceException, JobExecutionIsRunningException}
use Rattle.batch_ids.specs.declared.status.WorkOutcome.{WorkOutcome}
use Rattle.batch_history.specs.declared.call.Call.{Call}
use Rattle.batch_history.specs.declared.call.Call.TheVariants.{Start, Restart, Stop, Abandon, Claim, Checkpoint, Finish, Lose, Purge}
use Rattle.batch_history.specs.declared.call.Reply.{Reply}
use Rattle.batch_history.specs.declared.call.Reply.TheVariants.{Execution as IsExecution, Done}
use Rattle.batch_history.specs.declared.rows.ExecutionRow.{ExecutionRow}
use Rattle.batch_history.specs.declared.rows.JobInstance.{JobInstance}
use Rattle.batch_history.specs.declared.rows.WorkRow.{WorkRow}
use Rattle.batch_history.proofs.Existing.{AreWhole, IsLeft, IsClaimed, not-true, is_left, is_work_left, execution-left, work-left, stop-left, running-left, refusal-left, claim-left, claimed-left, claim-reply-left}
use Rattle.batch_history.proofs.Leaving.{any-there, any-whole}
use Rattle.batch_history.specs.Replies.{reply_by, accepted, unless, has_something, is_running_in, is_instance_there, reply_to_restart, reply_to_stop, reply_to_abandon, reply_to_claim, reply_to_checkpoint, reply_to_kept_checkpoint, reply_to_finish, reply_to_end, reply_to_loss, reply_to_purge, report_refusal}
use Rattle.batch_history.specs.Rows.{Rows, is_execution, instance_in, is_gone, instances_there, executions_there, works_there, existing}
use Rattle.batch_history.specs.Works.{is_work}

-- ---- Job executions

restarted-by-all : (gone : ℕ → Bool) (r : Rows) (limit x : ℕ) (given : Reply) (found : Option ExecutionRow) → AreWhole gone r
    → find (is_execution x) (executions_there gone r.executions) ≡ found → reply_to_restart limit (existing gone r) found ≡ Ok given
    → reply_to_restart limit r (find (is_execution x) r.executions) ≡ Ok given
restarted-by-all gone r limit x given None whole is e = cc
restarted-by-all gone r limit x given (Some row) whole is e =
    let left : IsLeft (is_left gone) (find (is_execution x) r.executions) row = execution-left gone r x row whole is in
    ap (reply_to_restart limit r) left.found
    ∙ (sym (ap (λ refusal. unless refusal (accepted limit r.count (IsExecution (r.last.execution + 1)))) (refusal-left gone r row (not-true _ left.left))) ∙ e)

stopped-by-all : (gone : ℕ → Bool) (r : Rows) (limit x : ℕ) (given : Reply) (found : Option ExecutionRow) → AreWhole gone r
    → find (is_execution x) (executions_there gone r.executions) ≡ found → reply_to_stop limit r.count found ≡ Ok given
    → reply_to_stop limit r.count (find (is_execution x) r.executions) ≡ Ok given
stopped-by-all gone r limit x given None whole is e = cc
stopped-by-all gone r limit x given (Some row) whole is e = ap (reply_to_stop limit r.count) (execution-left gone r x row whole is).found ∙ e

abandoned-by-all : (gone : ℕ → Bool) (r : Rows) (limit x : ℕ) (given : Reply) (found : Option ExecutionRow) → AreWhole gone r
    → find (is_execution x) (executions_there gone r.executions) ≡ found → reply_to_abandon limit (existing gone r) found ≡ Ok given
    → reply_to_abandon limit r (find (is_execution x) r.executions) ≡ Ok given
abandoned-by-all gone r limit x given None whole is e = cc
abandoned-by-all gone r limit x given (Some row) whole is e =
    let left : IsLeft (is_left gone) (find (is_execution x) r.executions) row = execution-left gone r x row whole is in
    ap (reply_to_abandon limit r) left.found
    ∙ (sym (ap (λ b. cond b (Err JobExecutionIsRunningException) (accepted limit r.count Done)) (running-left gone row.instance r.executions (not-true _ left.left))) ∙ e)

claimed-by-all : (gone : ℕ → Bool) (r : Rows) (limit : ℕ) (given : Reply) (found : Option ExecutionRow) → AreWhole gone r
    → find (has_something (existing gone r)) (executions_there gone r.executions) ≡ found → reply_to_claim limit (existing gone r) found ≡ Ok given
    → reply_to_claim limit r (find (has_something r) r.executions) ≡ Ok given
claimed-by-all gone r limit given None whole is e = ap (reply_to_claim limit r) (sym (claim-left gone r whole) ∙ is) ∙ e
claimed-by-all gone r limit given (Some row) whole is e =
    ap (reply_to_claim limit r) (sym (claim-left gone r whole) ∙ is)
    ∙ (sym (ap (accepted limit r.count) (claim-reply-left gone r row (claimed-left gone r row whole is))) ∙ e)

-- ---- Work items

checkpoint-by-all : (gone : ℕ → Bool) (r : Rows) (limit who w : ℕ) (given : Reply) (found : Option WorkRow) → AreWhole gone r
    → find (is_work w) (works_there gone r.executions r.works) ≡ found → reply_to_checkpoint limit (existing gone r) who found ≡ Ok given
    → reply_to_checkpoint limit r who (find (is_work w) r.works) ≡ Ok given
checkpoint-by-all gone r limit who w given None whole is e = cc
checkpoint-by-all gone r limit who w given (Some row) whole is e =
    let left : IsLeft (is_work_left gone r.executions) (find (is_work w) r.works) row = work-left gone r w row whole is in
    ap (reply_to_checkpoint limit r who) left.found
    ∙ (sym (ap (λ stop. unless (report_refusal who row.claimer row.state) (reply_to_kept_checkpoint limit r.count stop row.kind)) (stop-left gone r row.execution whole (not-true _ left.left))) ∙ e)

finished-by-all : (gone : ℕ → Bool) (r : Rows) (limit who w : ℕ) (o : WorkOutcome) (given : Reply) (found : Option WorkRow) → AreWhole gone r
    → find (is_work w) (works_there gone r.executions r.works) ≡ found → reply_to_finish limit (existing gone r) who o found ≡ Ok given
    → reply_to_finish limit r who o (find (is_work w) r.works) ≡ Ok given
finished-by-all gone r limit who w o given None whole is e = cc
finished-by-all gone r limit who w o given (Some row) whole is e =
    let left : IsLeft (is_work_left gone r.executions) (find (is_work w) r.works) row = work-left gone r w row whole is in
    ap (reply_to_finish limit r who o) left.found
    ∙ (sym (ap (λ stop. unless (report_refusal who row.claimer row.state) (reply_to_end limit r.count stop row.kind o)) (stop-left gone r row.execution whole (not-true _ left.left))) ∙ e)

lost-by-all : (gone : ℕ → Bool) (r : Rows) (limit w : ℕ) (given : Reply) (found : Option WorkRow) → AreWhole gone r
    → find (is_work w) (works_there gone r.executions r.works) ≡ found → reply_to_loss limit r.count found ≡ Ok given
    → reply_to_loss limit r.count (find (is_work w) r.works) ≡ Ok given
lost-by-all gone r limit w given None whole is e = cc
lost-by-all gone r limit w given (Some row) whole is e = ap (reply_to_loss limit r.count) (work-left gone r w row whole is).found ∙ e

-- ---- Purges

-- the reply to a purge, by whether the job instance is there and runs
abbrev pub purged_if : ℕ → ℕ → Bool → Bool → Result Reply Refusal
purged_if limit count there running =
    cond there (cond running (Err JobExecutionIsRunningException) (accepted limit count Done)) (Err NoSuchJobInstanceException)

pub purge-there : (limit count : ℕ) (there running : Bool) (given : Reply) → purged_if limit count there running ≡ Ok given → there ≡ true
purge-there limit count true running given e = refl
purge-there limit count false running given e = cc

pub purge-idle : (limit count : ℕ) (there running : Bool) (given : Reply) → purged_if limit count there running ≡ Ok given → running ≡ false
purge-idle limit count true true given e = cc
purge-idle limit count true false given e = refl
purge-idle limit count false running given e = cc

-- a job instance that is there is not gone
pub instance-left : (gone : ℕ → Bool) (r : Rows) (i : ℕ) → is_instance_there i (existing gone r) ≡ true → gone i ≡ false
instance-left gone r i there =
    any-there (λ (row : JobInstance). row.instance == i) (λ (row : JobInstance). not (gone row.instance)) r.instances there
    (λ row here left. ap gone (sym (eqb-true row.instance i here)) ∙ not-true (gone row.instance) left)

purged-by-all : (gone : ℕ → Bool) (r : Rows) (limit i : ℕ) (given : Reply) → reply_to_purge limit (existing gone r) i ≡ Ok given → reply_to_purge limit r i ≡ Ok given
purged-by-all gone r limit i given e =
    let there : is_instance_there i (existing gone r) ≡ true =
    purge-there limit r.count (is_instance_there i (existing gone r)) (list_any (is_running_in i) (executions_there gone r.executions)) given e in
    let whole : is_instance_there i r ≡ true = any-whole (λ (row : JobInstance). row.instance == i) (λ (row : JobInstance). not (gone row.instance)) r.instances there in
    ap (λ b. purged_if limit r.count b (list_any (is_running_in i) r.executions)) (whole ∙ sym there)
    ∙ (sym (ap (purged_if limit r.count (is_instance_there i (existing gone r))) (running-left gone i r.executions (instance-left gone r i there))) ∙ e)

-- ---- Every call

-- an accepted call is answered alike by all that was made
pub accepted-by-all : (gone : ℕ → Bool) (r : Rows) (limit who : ℕ) (call : Call) (given : Reply) → AreWhole gone r
    → reply_by limit (existing gone r) who call ≡ Ok given → reply_by limit r who call ≡ Ok given
accepted-by-all gone r limit who (Start job parameters) given whole e = e
accepted-by-all gone r limit who (Restart x parameters) given whole e = restarted-by-all gone r limit x given _ whole refl e
accepted-by-all gone r limit who (Stop x) given whole e = stopped-by-all gone r limit x given _ whole refl e
accepted-by-all gone r limit who (Abandon x) given whole e = abandoned-by-all gone r limit x given _ whole refl e
accepted-by-all gone r limit who Claim given whole e = claimed-by-all gone r limit given _ whole refl e
accepted-by-all gone r limit who (Checkpoint w mark step) given whole e = checkpoint-by-all gone r limit who w given _ whole refl e
accepted-by-all gone r limit who (Finish w o exit step) given whole e = finished-by-all gone r limit who w o given _ whole refl e
accepted-by-all gone r limit who (Lose w) given whole e = lost-by-all gone r limit w given _ whole refl e
accepted-by-all gone r limit who (Purge i) given whole e = purged-by-all gone r limit i given e
