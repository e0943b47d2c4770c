-- A reply depends on the bound of a history only by whether there is room, so what is legal under a smaller bound is legal
-- under a greater one.
use Rattle.std.proofs.Common.{◌≡◌, ℕ, ◌<◌, ◌≤◌, ◌++◌, Bool, true, false, nat_lt, if◌then◌else◌, Option, None, Some, Result, Ok, Err, List, ◌∷◌, is_some, length, find, reverse, refl, sym, ◌∙◌, ap, arith}
use Rattle.std.specs.List.{list_any}
use Rattle.std.proofs.lemmas.List.{length-append, length-reverse}
use Rattle.std.proofs.lemmas.Bool.Decides.{nat_tests}
use Rattle.batch_ids.specs.declared.refusal.Refusal.{Refusal}
use Rattle.batch_ids.specs.declared.refusal.Refusal.TheVariants.{JobStartException, NoSuchJobInstanceException, JobExecutionNotRunningException, JobExecutionIsRunningException, RepositoryFull}
use Rattle.batch_ids.specs.declared.status.WorkOutcome.{WorkOutcome}
use Rattle.batch_ids.specs.declared.status.WorkOutcome.TheVariants.{Completed, Failed, Stopped}
use Rattle.batch_history.specs.Legal.{IsLegal}
use Rattle.batch_history.specs.Replies.{accepted, go_or_stop, has_something, is_execution, is_instance_there, is_running_in, loss_refusal, reply_by, reply_to_abandon, reply_to_checkpoint, reply_to_claim, reply_to_end, reply_to_finish, reply_to_kept_checkpoint, reply_to_loss, reply_to_purge, reply_to_restart, reply_to_stop, reply_to_stopped_step, reply_to_stopped_work, report_refusal, restart_refusal, row_status, stop_requested_of, unless}
use Rattle.batch_history.specs.Rows.{Rows, rows, history}
use Rattle.batch_history.specs.Statuses.{is_finished}
use Rattle.batch_history.specs.Walks.{job_named}
use Rattle.batch_history.specs.Works.{is_work}
use Rattle.batch_history.specs.declared.call.Call.{Call}
use Rattle.batch_history.specs.declared.call.Call.TheVariants.{Start, Restart, Stop, Abandon, Claim, Checkpoint, Finish, Lose, Purge}
use Rattle.batch_history.specs.declared.call.Entry.{Entry}
use Rattle.batch_history.specs.declared.call.Reply.{Reply}
use Rattle.batch_history.specs.declared.call.Reply.TheVariants.{Done}
use Rattle.batch_history.specs.declared.call.WorkKind.{WorkKind}
use Rattle.batch_history.specs.declared.call.WorkKind.TheVariants.{Batchlet, Chunk, Decision}
use Rattle.batch_history.specs.declared.rows.ExecutionRow.{ExecutionRow}
use Rattle.batch_history.specs.declared.rows.WorkRow.{WorkRow}
use Rattle.jsl_model.specs.Jobs.{JobTree}
use Rattle.seat_rules.specs.Places.{IsLegalLog}

-- ---- The same reply where there is room under both bounds, or under neither

module _ (l m : ℕ) where
  same_accepted : (count : ℕ) (given : Reply) → nat_lt count l ≡ nat_lt count m → accepted l count given ≡ accepted m count given
  same_accepted count given e = ap (λ (b : Bool). if b then Ok given else Err RepositoryFull) e

  same_unless : (refusal : Option Refusal) (x y : Result Reply Refusal) → x ≡ y → unless refusal x ≡ unless refusal y
  same_unless refusal x y e = ap (unless refusal) e

  same_claim : (r : Rows) (found : Option ExecutionRow) → nat_lt r.count l ≡ nat_lt r.count m → reply_to_claim l r found ≡ reply_to_claim m r found
  same_claim r None e = refl
  same_claim r (Some row) e = same_accepted r.count _ e

  same_restart : (r : Rows) (found : Option ExecutionRow) → nat_lt r.count l ≡ nat_lt r.count m → reply_to_restart l r found ≡ reply_to_restart m r found
  same_restart r None e = refl
  same_restart r (Some row) e = same_unless (restart_refusal r row) _ _ (same_accepted r.count _ e)

  same_stop : (count : ℕ) (found : Option ExecutionRow) → nat_lt count l ≡ nat_lt count m → reply_to_stop l count found ≡ reply_to_stop m count found
  same_stop count None e = refl
  same_stop count (Some row) e =
      ap (λ (x : Result Reply Refusal). if is_finished (row_status row) then Err JobExecutionNotRunningException else x) (same_accepted count Done e)

  same_abandon : (r : Rows) (found : Option ExecutionRow) → nat_lt r.count l ≡ nat_lt r.count m → reply_to_abandon l r found ≡ reply_to_abandon m r found
  same_abandon r None e = refl
  same_abandon r (Some row) e =
      ap (λ (x : Result Reply Refusal). if list_any (is_running_in row.instance) r.executions then Err JobExecutionIsRunningException else x)
      (same_accepted r.count Done e)

  same_kept_checkpoint : (count : ℕ) (stop : Bool) (kind : WorkKind) → nat_lt count l ≡ nat_lt count m
      → reply_to_kept_checkpoint l count stop kind ≡ reply_to_kept_checkpoint m count stop kind
  same_kept_checkpoint count stop Chunk e = same_accepted count (go_or_stop stop) e
  same_kept_checkpoint count stop Batchlet e = refl
  same_kept_checkpoint count stop Decision e = refl

  same_checkpoint : (r : Rows) (who : ℕ) (found : Option WorkRow) → nat_lt r.count l ≡ nat_lt r.count m
      → reply_to_checkpoint l r who found ≡ reply_to_checkpoint m r who found
  same_checkpoint r who None e = refl
  same_checkpoint r who (Some row) e =
      same_unless (report_refusal who row.claimer row.state) _ _ (same_kept_checkpoint r.count (stop_requested_of r row.execution) row.kind e)

  same_stopped_step : (count : ℕ) (stop : Bool) → nat_lt count l ≡ nat_lt count m → reply_to_stopped_step l count stop ≡ reply_to_stopped_step m count stop
  same_stopped_step count true e = same_accepted count Done e
  same_stopped_step count false e = refl

  same_stopped_work : (count : ℕ) (stop : Bool) (kind : WorkKind) → nat_lt count l ≡ nat_lt count m
      → reply_to_stopped_work l count stop kind ≡ reply_to_stopped_work m count stop kind
  same_stopped_work count stop Decision e = refl
  same_stopped_work count stop Batchlet e = same_stopped_step count stop e
  same_stopped_work count stop Chunk e = same_stopped_step count stop e

  same_end : (count : ℕ) (stop : Bool) (kind : WorkKind) (outcome : WorkOutcome) → nat_lt count l ≡ nat_lt count m
      → reply_to_end l count stop kind outcome ≡ reply_to_end m count stop kind outcome
  same_end count stop kind Stopped e = same_stopped_work count stop kind e
  same_end count stop kind Completed e = same_accepted count Done e
  same_end count stop kind Failed e = same_accepted count Done e

  same_finish : (r : Rows) (who : ℕ) (outcome : WorkOutcome) (found : Option WorkRow) → nat_lt r.count l ≡ nat_lt r.count m
      → reply_to_finish l r who outcome found ≡ reply_to_finish m r who outcome found
  same_finish r who outcome None e = refl
  same_finish r who outcome (Some row) e =
      same_unless (report_refusal who row.claimer row.state) _ _ (same_end r.count (stop_requested_of r row.execution) row.kind outcome e)

  same_loss : (count : ℕ) (found : Option WorkRow) → nat_lt count l ≡ nat_lt count m → reply_to_loss l count found ≡ reply_to_loss m count found
  same_loss count None e = refl
  same_loss count (Some row) e = same_unless (loss_refusal row.state) _ _ (same_accepted count Done e)

  same_purge : (r : Rows) (i : ℕ) → nat_lt r.count l ≡ nat_lt r.count m → reply_to_purge l r i ≡ reply_to_purge m r i
  same_purge r i e =
      ap (λ (x : Result Reply Refusal). if is_instance_there i r
      then (if list_any (is_running_in i) r.executions then Err JobExecutionIsRunningException else x)
      else Err NoSuchJobInstanceException) (same_accepted r.count Done e)

  same_reply : (r : Rows) (who : ℕ) (call : Call) → nat_lt r.count l ≡ nat_lt r.count m → reply_by l r who call ≡ reply_by m r who call
  same_reply r who (Start job parameters) e =
      ap (λ (x : Result Reply Refusal). if is_some (job_named r.catalogue job) then x else Err JobStartException) (same_accepted r.count _ e)
  same_reply r who (Restart x parameters) e = same_restart r (find (is_execution x) r.executions) e
  same_reply r who (Stop x) e = same_stop r.count (find (is_execution x) r.executions) e
  same_reply r who (Abandon x) e = same_abandon r (find (is_execution x) r.executions) e
  same_reply r who Claim e = same_claim r (find (has_something r) r.executions) e
  same_reply r who (Checkpoint w mark step) e = same_checkpoint r who (find (is_work w) r.works) e
  same_reply r who (Finish w outcome exit step) e = same_finish r who outcome (find (is_work w) r.works) e
  same_reply r who (Lose w) e = same_loss r.count (find (is_work w) r.works) e
  same_reply r who (Purge i) e = same_purge r i e

-- ---- Legal logs

has_room : (n l : ℕ) → n < l → nat_lt n l ≡ true
has_room n l less = grind (arith, nat_tests)

-- what is legal under a bound is legal under the greatest
pub legal_within : (l : ℕ) (catalogue : List JobTree) (log : List Entry) → l ≤ 1000000 → IsLegal l (history catalogue log) → IsLegalLog catalogue log
legal_within l catalogue log few legal = record {
  within = omega (arith, legal.within);
  due = λ before e after cut.
      let long : length log ≡ length (before ++ e ∷ after) = ap length cut in
      let short : length (reverse before) < l = omega (arith, legal.within, long, length-append before (e ∷ after), length-reverse before) in
      let room : nat_lt (length (reverse before)) l ≡ nat_lt (length (reverse before)) 1000000 =
      has_room _ l short ∙ sym (has_room _ 1000000 (omega arith)) in
      let now = legal.due before e after cut in
      (sym (same_reply l 1000000 (rows (history catalogue before)) e.who e.call room) ∙ now.0, now.1);
}
