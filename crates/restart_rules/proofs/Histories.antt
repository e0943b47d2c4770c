-- The rows of legal histories, by which restarts are decided.
use Rattle.std.proofs.Common.{◌≡◌, ℕ, ◌+◌, ◌==◌, not, Bool, true, false, cond, Option, None, Some, Result, Ok, Err, is_some, List, [], ◌∷◌, ◌++◌, find, filter, filter_map, reverse, refl, sym, ◌∙◌, ap, subst}
use Rattle.std.specs.List.{cons_option}
use Rattle.std.specs.Option.{option_map}
use Rattle.std.proofs.lemmas.List.{append-nil, reverse-reverse}
use Rattle.batch_ids.specs.Parameters.{Pair}
use Rattle.batch_ids.specs.declared.refusal.Refusal.{Refusal}
use Rattle.batch_ids.specs.declared.refusal.Refusal.TheVariants.{JobStartException}
use Rattle.jsl_model.specs.Catalogues.{AreJobs}
use Rattle.jsl_model.specs.Jobs.{JobTree}
use Rattle.job_plans.specs.declared.plan.Plan.{Plan}
use Rattle.batch_history.specs.Executions.{Origin, origin_of}
use Rattle.batch_history.specs.Legal.{IsLegal, grown}
use Rattle.batch_history.specs.Lists.{change_first}
use Rattle.batch_history.specs.NextRows.{again_row, executions_after, fresh_row, refreshed_at, refreshed_by, rows_after, rows_with, without}
use Rattle.batch_history.specs.Operations.{purged_by}
use Rattle.batch_history.specs.Purges.{is_purged}
use Rattle.batch_history.specs.Replies.{accepted, is_execution, is_nothing, reply, reply_by, reply_to_restart, restart_plan, restart_refusal}
use Rattle.batch_history.specs.Restarts.{first_plan, plan_of}
use Rattle.batch_history.specs.Rows.{History, Rows, history, rows, job_execution, job_executions, numbers_from, row_of_origin}
use Rattle.batch_history.specs.Walks.{job_named}
use Rattle.batch_history.specs.Works.{execution_of_operation}
use Rattle.batch_history.specs.declared.call.Call.{Call}
use Rattle.batch_history.specs.declared.call.Call.TheVariants.{Start, Restart, Stop, Abandon, Claim, Checkpoint, Finish, Lose, Purge}
use Rattle.batch_history.specs.declared.call.Entry.{Entry}
use Rattle.batch_history.specs.declared.call.Reply.{Reply}
use Rattle.batch_history.specs.declared.call.Reply.TheVariants.{Execution as IsExecution}
use Rattle.batch_history.specs.declared.rows.ExecutionRow.{ExecutionRow}
use Rattle.batch_history.specs.declared.rows.WorkRow.{WorkRow}
use Rattle.batch_history.proofs.Legal.{cut-before, legal-beginning}
use Rattle.batch_history.proofs.Legality.{rows_grown}
use Rattle.batch_history.proofs.Told.{restart-told, ToldRestart}
use Rattle.restart_rules.specs.Histories.{plan_in, restarted}
use Rattle.restart_rules.specs.Placed.{is_placed, IsPlaced, ArePlaced}
use Rattle.restart_rules.specs.Restarting.{plan_due, plan_due_for, plan_unless}
use Rattle.restart_rules.proofs.Placing.{placed_found, placed_at, placed_pushed, placed_filtered, placed_changed, first_placed, again_placed}
use Rattle.restart_rules.proofs.Replying.{Accepted, accepted_restart, planned_reply, refused_reply}

-- ---- Each operation leaves the walks of job executions where they begin

refreshed-placed : (jobs : List JobTree) (works : List WorkRow) (at : ℕ) (call : Call) (reply : Reply) (t : Option ℕ) (rows : List ExecutionRow)
    → ArePlaced jobs rows → ArePlaced jobs (refreshed_at jobs works at call reply t rows)
refreshed-placed jobs works at call reply None rows h = h
refreshed-placed jobs works at call reply (Some x) rows h = placed_changed jobs (is_execution x) (refreshed_by jobs works at call reply) rows (λ row. refl) h

accepted-test : (b : Bool) (refusal : Refusal) (due : Result Reply Refusal) (given : Reply) → cond b due (Err refusal) ≡ Ok given → b ≡ true
accepted-test true refusal due given e = refl
accepted-test false refusal due given e = cc

executions-placed : (limit : ℕ) (r : Rows) (works : List WorkRow) (who at : ℕ) (call : Call) (given : Reply) → AreJobs r.catalogue → reply_by limit r who call ≡ Ok given
    → ArePlaced r.catalogue r.executions → ArePlaced r.catalogue (executions_after r works at call given)
executions-placed limit r works who at (Start job parameters) given jobs due h =
    let there : is_some (job_named r.catalogue job) ≡ true =
    accepted-test (is_some (job_named r.catalogue job)) JobStartException (accepted limit r.count (IsExecution (r.last.execution + 1))) given due in
    placed_pushed r.catalogue r.executions (fresh_row (r.last.execution + 1) (r.last.instance + 1) at job parameters (first_plan (job_named r.catalogue job))) h
    (first_placed r.catalogue job jobs (job_named r.catalogue job) refl there)
executions-placed limit r works who at (Restart y parameters) given jobs due h =
    let told : ToldRestart r y = restart-told limit r y given due in
    let x : ℕ = r.last.execution + 1 in
    subst (λ o. ArePlaced r.catalogue (r.executions ++ again_row r x at parameters o ∷ [])) (sym told.found)
    (placed_pushed r.catalogue r.executions (again_row r x at parameters (Some told.row)) h
    (again_placed r told.row jobs (placed_found r.catalogue (is_execution y) r.executions told.row told.found h)))
executions-placed limit r works who at (Stop y) given jobs due h = refreshed-placed r.catalogue works at (Stop y) given (Some y) r.executions h
executions-placed limit r works who at (Abandon y) given jobs due h = refreshed-placed r.catalogue works at (Abandon y) given (Some y) r.executions h
executions-placed limit r works who at Claim given jobs due h =
    refreshed-placed r.catalogue works at Claim given (execution_of_operation r.works Claim given) r.executions h
executions-placed limit r works who at (Checkpoint w mark step) given jobs due h =
    refreshed-placed r.catalogue works at (Checkpoint w mark step) given (execution_of_operation r.works (Checkpoint w mark step) given) r.executions h
executions-placed limit r works who at (Finish w outcome exit step) given jobs due h =
    refreshed-placed r.catalogue works at (Finish w outcome exit step) given (execution_of_operation r.works (Finish w outcome exit step) given) r.executions h
executions-placed limit r works who at (Lose w) given jobs due h =
    refreshed-placed r.catalogue works at (Lose w) given (execution_of_operation r.works (Lose w) given) r.executions h
executions-placed limit r works who at (Purge i) given jobs due h = h

without-placed : (jobs : List JobTree) (gone : Option ℕ) (r : Rows) → ArePlaced jobs r.executions → ArePlaced jobs (without gone r).executions
without-placed jobs None r h = h
without-placed jobs (Some i) r h = placed_filtered jobs (λ row. not (row.instance == i)) r.executions h

-- ---- So they are in every legal history

log-placed : (limit : ℕ) (jobs : List JobTree) (past : List Entry) → AreJobs jobs → IsLegal limit (history jobs (reverse past))
    → ArePlaced jobs (rows (history jobs (reverse past))).executions
log-placed limit jobs [] checked legal = tt
log-placed limit jobs (e ∷ older) checked legal =
    let before : History = history jobs (reverse older) in
    let cut : reverse (e ∷ older) ≡ reverse older ++ e ∷ [] = cut-before (reverse (e ∷ older)) older [] e (sym (append-nil (reverse (e ∷ older)))) in
    let more : IsLegal limit (grown before e) = subst (λ (log : List Entry). IsLegal limit (history jobs log)) cut legal in
    let begun : IsLegal limit before = legal-beginning limit (grown before e) more (reverse older) (e ∷ []) refl in
    let h : ArePlaced jobs (rows before).executions = log-placed limit jobs older checked begun in
    let due : reply_by limit (rows before) e.who e.call ≡ Ok e.reply = (more.due (reverse older) e [] refl).0 in
    let r : Rows = rows before in
    subst (λ (log : List Entry). ArePlaced jobs (rows (history jobs log)).executions) (sym cut)
    (subst (λ (z : Rows). ArePlaced jobs z.executions) (sym (rows_grown limit before e more))
    (without-placed jobs (purged_by e.call) (rows_with r e) (executions-placed limit r _ e.who e.at e.call e.reply checked due h)))

pub all_placed : (limit : ℕ) (h : History) → AreJobs h.catalogue → IsLegal limit h → ArePlaced h.catalogue (rows h).executions
all_placed limit h checked legal =
    subst (λ (log : List Entry). ArePlaced h.catalogue (rows (history h.catalogue log)).executions) (reverse-reverse h.log)
    (log-placed limit h.catalogue (reverse h.log) checked
    (subst (λ (log : List Entry). IsLegal limit (history h.catalogue log)) (sym (reverse-reverse h.log)) (legal-beginning limit h legal h.log [] (sym (append-nil h.log)))))

pub each_placed : (limit : ℕ) (h : History) → AreJobs h.catalogue → IsLegal limit h → (x : ℕ) → IsPlaced h.catalogue (rows h).executions x
each_placed limit h checked legal x = placed_at h.catalogue (rows h).executions x (all_placed limit h checked legal)

-- ---- What a restart is answered

pub refused_alike : (limit : ℕ) (h : History) (who x : ℕ) (parameters : List Pair) (refusal : Refusal) → plan_due (rows h) x ≡ Err refusal
    → reply limit h who (Restart x parameters) ≡ Err refusal
refused_alike limit h who x parameters refusal due = refused_reply limit (rows h) (find (is_execution x) (rows h).executions) refusal due

pub accepted_alike : (limit : ℕ) (h : History) (who x : ℕ) (parameters : List Pair) (plan : Plan) → plan_due (rows h) x ≡ Ok plan
    → reply limit h who (Restart x parameters) ≡ accepted limit (rows h).count (IsExecution ((rows h).last.execution + 1))
accepted_alike limit h who x parameters plan due = planned_reply limit (rows h) (find (is_execution x) (rows h).executions) plan due

-- ---- The plan that it gives

-- job executions that go by the plans that the searches in a past find
abbrev HavePlans : List JobTree → List Entry → List ExecutionRow → Type 0
HavePlans catalogue past [] = Unit {0}
HavePlans catalogue past (row ∷ rest) = (row.plan ≡ plan_of catalogue past row.execution) × HavePlans catalogue past rest

plans-found : (catalogue : List JobTree) (past : List Entry) (numbers : List ℕ) → HavePlans catalogue past (filter_map (job_execution catalogue past) numbers)
plans-found catalogue past [] = tt
plans-found catalogue past (x ∷ rest) =
    elim (origin_of past x) as (λ (o : Option Origin). HavePlans catalogue past (cons_option (option_map (row_of_origin catalogue past x) o) (filter_map (job_execution catalogue past) rest))) [
      | None ↦ plans-found catalogue past rest
      | Some o ↦ (refl, plans-found catalogue past rest)
    ]

plans-filtered : (catalogue : List JobTree) (past : List Entry) (p : ExecutionRow → Bool) (rows : List ExecutionRow) → HavePlans catalogue past rows → HavePlans catalogue past (filter p rows)
plans-filtered catalogue past p [] h = tt
plans-filtered catalogue past p (row ∷ rest) h =
    elim (p row) as (λ b. HavePlans catalogue past (cond b (row ∷ filter p rest) (filter p rest))) [
      | true ↦ (h.0, plans-filtered catalogue past p rest h.1)
      | false ↦ plans-filtered catalogue past p rest h.1
    ]

last-plan : (catalogue : List JobTree) (past : List Entry) (rows : List ExecutionRow) (new : ExecutionRow) → HavePlans catalogue past (rows ++ new ∷ [])
    → new.plan ≡ plan_of catalogue past new.execution
last-plan catalogue past [] new h = h.0
last-plan catalogue past (row ∷ rest) new h = last-plan catalogue past rest new h.1

-- the rows of a history go by them
rows-planned : (h : History) → HavePlans h.catalogue (reverse h.log) (rows h).executions
rows-planned h =
    plans-filtered h.catalogue (reverse h.log) _ (job_executions h.catalogue (reverse h.log)) (plans-found h.catalogue (reverse h.log) _)

pub plan_given : (limit : ℕ) (h : History) (who at x y : ℕ) (parameters : List Pair) → IsLegal limit (restarted h who at x parameters y)
    → plan_due (rows h) x ≡ Ok (plan_in (restarted h who at x parameters y) y)
plan_given limit h who at x y parameters legal =
    let e : Entry = record { who = who; call = Restart x parameters; at = at; reply = IsExecution y } in
    let r : Rows = rows h in
    let after : History = restarted h who at x parameters y in
    let due : reply_to_restart limit r (find (is_execution x) r.executions) ≡ Ok (IsExecution y) = (legal.due h.log e [] refl).0 in
    let told : Accepted r (find (is_execution x) r.executions) y = accepted_restart limit r (find (is_execution x) r.executions) y due in
    let new : ExecutionRow = again_row r (r.last.execution + 1) at parameters (Some told.row) in
    let more : (rows after).executions ≡ r.executions ++ new ∷ [] =
    ap (λ (z : Rows). z.executions) (rows_grown limit h e legal) ∙ ap (λ o. r.executions ++ again_row r (r.last.execution + 1) at parameters o ∷ []) told.is in
    let planned : restart_plan r told.row ≡ plan_of h.catalogue (reverse after.log) (r.last.execution + 1) =
    last-plan h.catalogue (reverse after.log) r.executions new (subst (HavePlans h.catalogue (reverse after.log)) more (rows-planned after)) in
    ap (plan_due_for r) told.is
    ∙ (ap (λ o. plan_unless o (restart_plan r told.row)) told.none
    ∙ ap Ok (planned ∙ ap (plan_of h.catalogue (reverse after.log)) (sym told.number)))
