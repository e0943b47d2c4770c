-- What an accepted reply says.
use Rattle.std.proofs.Common.{◌≡◌, ℕ, ◌+◌, ◌<◌, true, false, cond, Option, None, Some, Result, Ok, Err, is_some, List, [], find, refl, sym, ◌∙◌, ap}
use Rattle.batch_ids.specs.Parameters.{Pair}
use Rattle.batch_ids.specs.declared.refusal.Refusal.{Refusal}
use Rattle.batch_ids.specs.declared.refusal.Refusal.TheVariants.{JobStartException}
use Rattle.batch_ids.specs.declared.status.WorkOutcome.{WorkOutcome}
use Rattle.batch_history.specs.declared.call.Reply.{Reply}
use Rattle.batch_history.specs.declared.call.Call.TheVariants.{Start, Restart}
use Rattle.batch_history.specs.declared.call.Reply.TheVariants.{Work, Execution as IsExecution}
use Rattle.batch_history.specs.declared.call.Entry.{Entry}
use Rattle.batch_history.specs.declared.call.WorkItem.{WorkItem}
use Rattle.batch_history.specs.declared.rows.ExecutionRow.{ExecutionRow}
use Rattle.batch_history.specs.declared.rows.WorkRow.{WorkRow}
use Rattle.batch_history.specs.Due.{IsDue}
use Rattle.batch_history.specs.Walks.{job_named}
use Rattle.batch_history.specs.Replies.{reply_by, accepted, is_execution, reply_to_claim, claim_reply, reply_to_checkpoint, reply_to_finish, first_ready, walk_in_rows, has_something, is_nothing, reply_to_loss, reply_to_restart}
use Rattle.batch_history.specs.Rows.{History, Rows}
use Rattle.seq_repository.specs.Kept.{Kept, rows_in, IsNext}
use Rattle.batch_history.specs.declared.call.Call.{Call}
use Rattle.walk_rules.specs.declared.work_key.WorkKey.{WorkKey}
use Rattle.batch_history.proofs.Legal.{entered-is, reply_room}
use Rattle.reply_rules.proofs.Restarted.{is_due}

item-next : (r : Rows) (row : ExecutionRow) (key : Option WorkKey) (item : WorkItem) → claim_reply r row key ≡ Work item → item.work ≡ r.last.work + 1
item-next r row None item e = cc
item-next r row (Some key) item e = cc

-- a claim hands out the next work item
pub claimed_next : (limit : ℕ) (r : Rows) (found : Option ExecutionRow) (item : WorkItem) → reply_to_claim limit r found ≡ Ok (Work item) → item.work ≡ r.last.work + 1
claimed_next limit r None item e = cc
claimed_next limit r (Some row) item e = item-next r row (first_ready (walk_in_rows r row)) item (sym (entered-is limit r.count _ (Work item) e))

-- the reply to a claim that finds a job execution is due
pub claim_due : (limit : ℕ) (r : Rows) (row : ExecutionRow) (key : Option WorkKey) (given : Reply) (result : Result Reply Refusal)
    → Some row ≡ find (has_something r) r.executions → key ≡ first_ready (walk_in_rows r row) → given ≡ claim_reply r row key
    → result ≡ accepted limit r.count given → IsDue result (reply_to_claim limit r (find (has_something r) r.executions))
claim_due limit r row key given result found first made is =
    is_due result _ (is ∙ (ap (accepted limit r.count) (made ∙ ap (claim_reply r row) first) ∙ ap (reply_to_claim limit r) found))

-- what is reported of, is there
pub checkpointed_there : (limit : ℕ) (r : Rows) (who : ℕ) (found : Option WorkRow) (given : Reply) → reply_to_checkpoint limit r who found ≡ Ok given → is_some found ≡ true
checkpointed_there limit r who None given e = cc
checkpointed_there limit r who (Some row) given e = refl

pub finished_there : (limit : ℕ) (r : Rows) (who : ℕ) (outcome : WorkOutcome) (found : Option WorkRow) (given : Reply) → reply_to_finish limit r who outcome found ≡ Ok given → is_some found ≡ true
finished_there limit r who outcome None given e = cc
finished_there limit r who outcome (Some row) given e = refl

-- there is room for what is accepted
pub accepted_room : (limit : ℕ) (kept : Kept) (who : ℕ) (call : Call) (given : Reply) → reply_by limit (rows_in kept) who call ≡ Ok given → is_nothing given ≡ false
    → kept.count < limit
accepted_room limit kept who call given due accepted = reply_room limit (rows_in kept) who call given due accepted

-- The next entry

-- its reply is due by the rows, and is not Nothing
next-parts : (limit : ℕ) (kept : Kept) (e : Entry) → IsNext limit kept e → (reply_by limit (rows_in kept) e.who e.call ≡ Ok e.reply) × (is_nothing e.reply ≡ false)
next-parts limit kept e next =
    let h : History = next.history in
    let parts = next.legal.due h.log e [] refl in
    (ap (λ (rs : Rows). reply_by limit rs e.who e.call) next.stands ∙ parts.0, parts.1)

pub next_due : (limit : ℕ) (kept : Kept) (e : Entry) → IsNext limit kept e → reply_by limit (rows_in kept) e.who e.call ≡ Ok e.reply
next_due limit kept e next = (next-parts limit kept e next).0

pub next_entered : (limit : ℕ) (kept : Kept) (e : Entry) → IsNext limit kept e → is_nothing e.reply ≡ false
next_entered limit kept e next = (next-parts limit kept e next).1

pub next_room : (limit : ℕ) (kept : Kept) (e : Entry) → IsNext limit kept e → kept.count < limit
next_room limit kept e next = accepted_room limit kept e.who e.call e.reply (next_due limit kept e next) (next_entered limit kept e next)

restarted-some : (limit : ℕ) (r : Rows) (found : Option ExecutionRow) (given : Reply) → reply_to_restart limit r found ≡ Ok given → is_some found ≡ true
restarted-some limit r None given e = cc
restarted-some limit r (Some row) given e = refl

-- what is lost, is there
pub lost_there : (limit count : ℕ) (found : Option WorkRow) (given : Reply) → reply_to_loss limit count found ≡ Ok given → is_some found ≡ true
lost_there limit count None given e = cc
lost_there limit count (Some row) given e = refl

-- what is restarted, is there
pub restarted_there : (limit : ℕ) (r : Rows) (who y : ℕ) (parameters : List Pair) (given : Reply) → reply_by limit r who (Restart y parameters) ≡ Ok given
    → is_some (find (is_execution y) r.executions) ≡ true
restarted_there limit r who y parameters given e =
    restarted-some limit r (find (is_execution y) r.executions) given e

-- what is started, is in the catalogue
pub started_there : (limit : ℕ) (r : Rows) (who : ℕ) (job : List ℕ) (parameters : List Pair) (given : Reply) → reply_by limit r who (Start job parameters) ≡ Ok given
    → is_some (job_named r.catalogue job) ≡ true
started_there limit r who job parameters given e =
    (elim (is_some (job_named r.catalogue job)) as (λ b. cond b (accepted limit r.count (IsExecution (r.last.execution + 1))) (Err JobStartException) ≡ Ok given → b ≡ true) [
      | true ↦ λ s. refl
      | false ↦ λ s. cc
    ]) e
