-- Legal histories: without an operation, their beginnings, and with one operation more.
use Rattle.std.proofs.Common.{subst, ◌≡◌, ℕ, ◌+◌, ◌<◌, Bool, true, false, cond, nat_lt, Option, None, Some, Result, Ok, Err, is_some, List, [], ◌∷◌, ◌++◌, length, find, reverse, ◌⊎◌, inl, inr, refl, ◌∙◌, ap, arith}
use Rattle.std.specs.List.{list_any}
use Rattle.std.proofs.lemmas.List.{length-append, length-reverse, append_assoc, reverse-append}
use Rattle.std.proofs.lemmas.Bool.{ltb-true}
use Rattle.jsl_model.specs.Jobs.{JobTree}
use Rattle.batch_ids.specs.declared.refusal.Refusal.{Refusal}
use Rattle.batch_ids.specs.declared.refusal.Refusal.TheVariants.{JobStartException, JobExecutionNotRunningException, JobExecutionIsRunningException, RepositoryFull, NoSuchJobInstanceException}
use Rattle.batch_ids.specs.declared.status.WorkOutcome.{WorkOutcome}
use Rattle.batch_ids.specs.declared.status.WorkOutcome.TheVariants.{Completed, Failed, Stopped}
use Rattle.batch_history.specs.declared.call.Call.{Call}
use Rattle.batch_history.specs.declared.call.Call.TheVariants.{Start, Restart, Stop, Abandon, Claim, Checkpoint, Finish, Lose, Purge}
use Rattle.batch_history.specs.declared.call.Reply.{Reply}
use Rattle.batch_history.specs.declared.call.Reply.TheVariants.{Execution as IsExecution, Done}
use Rattle.batch_history.specs.declared.call.WorkKind.{WorkKind}
use Rattle.batch_history.specs.declared.call.WorkKind.TheVariants.{Batchlet, Chunk, Decision}
use Rattle.batch_history.specs.declared.call.Entry.{Entry}
use Rattle.batch_history.specs.declared.rows.ExecutionRow.{ExecutionRow}
use Rattle.batch_history.specs.declared.rows.WorkRow.{WorkRow}
use Rattle.batch_history.specs.Legal.{grown, IsLegal}
use Rattle.batch_history.specs.Replies.{is_nothing, reply, reply_by, row_status, is_running_in, accepted, reply_to_claim, reply_to_stop, reply_to_abandon, go_or_stop, reply_to_kept_checkpoint, reply_to_checkpoint, reply_to_stopped_step, reply_to_stopped_work, reply_to_finish, reply_to_end, reply_to_loss, loss_refusal, reply_to_restart, restart_refusal, report_refusal, unless, stop_requested_of, has_something, is_execution, reply_to_purge, is_instance_there}
use Rattle.batch_history.specs.Rows.{History, history, Rows, rows}
use Rattle.batch_history.specs.Statuses.{is_finished}
use Rattle.batch_history.specs.Walks.{job_named}
use Rattle.batch_history.specs.Works.{is_work}

-- What is entered has room

entered-room : (limit count : ℕ) (given r : Reply) → accepted limit count given ≡ Ok r → count < limit
entered-room limit count given r e =
    ltb-true count limit ((elim (nat_lt count limit) as (λ b. cond b (Ok given) (Err RepositoryFull) ≡ Ok r → b ≡ true) [
      | true ↦ λ s. refl
      | false ↦ λ s. cc
    ]) e)

-- and is what it was to be
pub entered-is : (limit count : ℕ) (given r : Reply) → accepted limit count given ≡ Ok r → r ≡ given
entered-is limit count given r e =
    (elim (nat_lt count limit) as (λ b. cond b (Ok given) (Err RepositoryFull) ≡ Ok r → r ≡ given) [
      | true ↦ λ s. cc
      | false ↦ λ s. cc
    ]) e

claimed-room : (limit : ℕ) (r : Rows) (found : Option ExecutionRow) (given : Reply) → reply_to_claim limit r found ≡ Ok given → is_nothing given ≡ false → r.count < limit
claimed-room limit r None given e n = cc
claimed-room limit r (Some row) given e n = entered-room limit r.count _ given e

-- a reply behind a test has room if the reply has
tested-room : (limit count : ℕ) (b : Bool) (refusal : Refusal) (reply : Result Reply Refusal) (given : Reply) → (reply ≡ Ok given → count < limit)
    → cond b (Err refusal) reply ≡ Ok given → count < limit
tested-room limit count true refusal reply given room e = cc
tested-room limit count false refusal reply given room e = room e

stopped-room : (limit count : ℕ) (found : Option ExecutionRow) (given : Reply) → reply_to_stop limit count found ≡ Ok given → count < limit
stopped-room limit count None given e = cc
stopped-room limit count (Some row) given e =
    tested-room limit count (is_finished (row_status row)) JobExecutionNotRunningException _ given (entered-room limit count Done given) e

abandoned-room : (limit : ℕ) (r : Rows) (found : Option ExecutionRow) (given : Reply) → reply_to_abandon limit r found ≡ Ok given → r.count < limit
abandoned-room limit r None given e = cc
abandoned-room limit r (Some row) given e =
    tested-room limit r.count (list_any (is_running_in row.instance) r.executions) JobExecutionIsRunningException _ given
    (entered-room limit r.count Done given) e

unless-room : (limit count : ℕ) (refusal : Option Refusal) (reply : Result Reply Refusal) (given : Reply) → (reply ≡ Ok given → count < limit)
    → unless refusal reply ≡ Ok given → count < limit
unless-room limit count None reply given room e = room e
unless-room limit count (Some refusal) reply given room e = cc

marked-room : (limit count : ℕ) (stop : Bool) (kind : WorkKind) (given : Reply) → reply_to_kept_checkpoint limit count stop kind ≡ Ok given → count < limit
marked-room limit count stop Chunk given e = entered-room limit count (go_or_stop stop) given e
marked-room limit count stop Batchlet given e = cc
marked-room limit count stop Decision given e = cc

checkpointed-room : (limit : ℕ) (r : Rows) (who : ℕ) (found : Option WorkRow) (given : Reply) → reply_to_checkpoint limit r who found ≡ Ok given → r.count < limit
checkpointed-room limit r who None given e = cc
checkpointed-room limit r who (Some row) given e =
    unless-room limit r.count (report_refusal who row.claimer row.state) _ given (marked-room limit r.count (stop_requested_of r row.execution) row.kind given) e

stop-room : (limit count : ℕ) (stop : Bool) (given : Reply) → reply_to_stopped_step limit count stop ≡ Ok given → count < limit
stop-room limit count true given e = entered-room limit count Done given e
stop-room limit count false given e = cc

end-room : (limit count : ℕ) (stop : Bool) (kind : WorkKind) (given : Reply) → reply_to_stopped_work limit count stop kind ≡ Ok given → count < limit
end-room limit count stop Decision given e = cc
end-room limit count stop Batchlet given e = stop-room limit count stop given e
end-room limit count stop Chunk given e = stop-room limit count stop given e

as-room : (limit count : ℕ) (stop : Bool) (kind : WorkKind) (o : WorkOutcome) (given : Reply) → reply_to_end limit count stop kind o ≡ Ok given → count < limit
as-room limit count stop kind Stopped given e = end-room limit count stop kind given e
as-room limit count stop kind Completed given e = entered-room limit count Done given e
as-room limit count stop kind Failed given e = entered-room limit count Done given e

finished-room : (limit : ℕ) (r : Rows) (who : ℕ) (o : WorkOutcome) (found : Option WorkRow) (given : Reply) → reply_to_finish limit r who o found ≡ Ok given → r.count < limit
finished-room limit r who o None given e = cc
finished-room limit r who o (Some row) given e =
    unless-room limit r.count (report_refusal who row.claimer row.state) _ given (as-room limit r.count (stop_requested_of r row.execution) row.kind o given) e

lost-room : (limit count : ℕ) (found : Option WorkRow) (given : Reply) → reply_to_loss limit count found ≡ Ok given → count < limit
lost-room limit count None given e = cc
lost-room limit count (Some row) given e = unless-room limit count (loss_refusal row.state) _ given (entered-room limit count Done given) e

restarted-room : (limit : ℕ) (r : Rows) (found : Option ExecutionRow) (given : Reply) → reply_to_restart limit r found ≡ Ok given → r.count < limit
restarted-room limit r None given e = cc
restarted-room limit r (Some row) given e =
    unless-room limit r.count (restart_refusal r row) _ given (entered-room limit r.count (IsExecution (r.last.execution + 1)) given) e

purged-room : (limit : ℕ) (r : Rows) (i : ℕ) (given : Reply) → reply_to_purge limit r i ≡ Ok given → r.count < limit
purged-room limit r i given e =
    (elim (is_instance_there i r) as (λ b. cond b (cond (list_any (is_running_in i) r.executions) (Err JobExecutionIsRunningException) (accepted limit r.count Done)) (Err NoSuchJobInstanceException) ≡ Ok given
    → r.count < limit) [
      | true ↦ λ s. tested-room limit r.count (list_any (is_running_in i) r.executions) JobExecutionIsRunningException _ given (entered-room limit r.count Done given) s
      | false ↦ λ s. cc
    ]) e

-- a reply that is entered has room
pub reply_room : (limit : ℕ) (r : Rows) (who : ℕ) (call : Call) (given : Reply) → reply_by limit r who call ≡ Ok given → is_nothing given ≡ false → r.count < limit
reply_room limit r who (Start job parameters) given e n =
    (elim (is_some (job_named r.catalogue job)) as (λ b. cond b (accepted limit r.count (IsExecution (r.last.execution + 1))) (Err JobStartException) ≡ Ok given → r.count < limit) [
      | true ↦ λ s. entered-room limit r.count _ given s
      | false ↦ λ s. cc
    ]) e
reply_room limit r who (Restart x parameters) given e n =
    restarted-room limit r (find (is_execution x) r.executions) given e
reply_room limit r who (Stop x) given e n = stopped-room limit r.count (find (is_execution x) r.executions) given e
reply_room limit r who (Abandon x) given e n = abandoned-room limit r (find (is_execution x) r.executions) given e
reply_room limit r who Claim given e n = claimed-room limit r (find (has_something r) r.executions) given e n
reply_room limit r who (Checkpoint w mark step) given e n = checkpointed-room limit r who (find (is_work w) r.works) given e
reply_room limit r who (Finish w o exit step) given e n = finished-room limit r who o (find (is_work w) r.works) given e
reply_room limit r who (Lose w) given e n = lost-room limit r.count (find (is_work w) r.works) given e
reply_room limit r who (Purge i) given e n = purged-room limit r i given e

-- Where a list with one element more is cut

record AtEnd {A : Type 0} (xs ys : List A) (x y : A) (zs : List A) : Type 0 where
  rest : zs ≡ []
  front : xs ≡ ys
  last : x ≡ y

record Within {A : Type 0} (xs ys : List A) (x y : A) (zs : List A) : Type 0 where
  ws : List A
  front : xs ≡ ys ++ y ∷ ws

cut-last : {A : Type 0} (xs ys : List A) (x y : A) (zs : List A) → xs ++ x ∷ [] ≡ ys ++ y ∷ zs → AtEnd xs ys x y zs ⊎ Within xs ys x y zs
cut-last [] [] x y zs e = inl (record { rest = cc; front = refl; last = cc })
cut-last [] (b ∷ ys) x y zs e =
    let long : 1 ≡ length (b ∷ (ys ++ y ∷ zs)) = ap length e in
    absurd (omega (arith, long, length-append ys (y ∷ zs)))
cut-last (a ∷ xs) [] x y zs e = inr (record { ws = xs; front = cc })
cut-last (a ∷ xs) (b ∷ ys) x y zs e =
    let head : a ≡ b = cc in
    let more : xs ++ x ∷ [] ≡ ys ++ y ∷ zs = cc in
    elim (cut-last xs ys x y zs more) [
      | inl w ↦ inl (record { rest = w.rest; front = ap (λ l. a ∷ l) w.front ∙ ap (λ h. h ∷ ys) head; last = w.last })
      | inr w ↦ inr (record { ws = w.ws; front = ap (λ l. a ∷ l) w.front ∙ ap (λ h. h ∷ (ys ++ y ∷ w.ws)) head })
    ]

-- where a history is cut before an entry of its past
pub cut-before : (log older rest : List Entry) (e : Entry) → log ≡ reverse (e ∷ older) ++ rest → log ≡ reverse older ++ e ∷ rest
cut-before log older rest e is =
    is ∙ (ap (λ l. l ++ rest) (reverse-append (e ∷ []) older) ∙ append_assoc (reverse older) (e ∷ []) rest)

abbrev IsDueAt : ℕ → History → List Entry → Entry → Type 0
IsDueAt limit h before e = (reply limit (history h.catalogue before) e.who e.call ≡ Ok e.reply) × (is_nothing e.reply ≡ false)

-- a legal history grows by an operation with the reply that is due
pub legal_grown : (limit : ℕ) (h : History) (e : Entry) → IsLegal limit h → reply limit h e.who e.call ≡ Ok e.reply → is_nothing e.reply ≡ false → IsLegal limit (grown h e)
legal_grown limit h e legal due accepted =
    let room : length (reverse h.log) < limit = reply_room limit (rows h) e.who e.call e.reply due accepted in
    record {
      within = omega (arith, room, length-reverse h.log, length-append h.log (e ∷ []));
      due = λ before f after is. elim (cut-last h.log before e f after is) as (λ _. IsDueAt limit h before f) [
        | inl w ↦ subst (IsDueAt limit h before) w.last (subst (λ (l : List Entry). IsDueAt limit h l e) w.front (due, accepted))
        | inr w ↦ legal.due before f w.ws w.front
      ];
    }

-- a history without an operation is legal
pub legal-nothing : (limit : ℕ) (catalogue : List JobTree) → IsLegal limit (history catalogue [])
legal-nothing limit catalogue = record { within = omega arith; due = λ before e after cut. cut-empty before e after cut }
  where
    cut-empty : (before : List Entry) (e : Entry) (after : List Entry) → [] ≡ before ++ e ∷ after → IsDueAt limit (history catalogue []) before e
    cut-empty before e after cut = absurd (omega (arith, ap length cut, length-append before (e ∷ after)))

-- a beginning of a legal history is legal
pub legal-beginning : (limit : ℕ) (h : History) → IsLegal limit h → (before after : List Entry) → h.log ≡ before ++ after
    → IsLegal limit (history h.catalogue before)
legal-beginning limit h legal before after cut = record {
  within = omega (arith, legal.within, ap length cut, length-append before after);
  due = λ b e a is. legal.due b e (a ++ after) (cut ∙ (ap (λ l. l ++ after) is ∙ append_assoc b (e ∷ a) after));
}
