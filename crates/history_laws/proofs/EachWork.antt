-- What each work item of a legal history keeps, by what it is when it is handed out and by what is reported of it.
use Rattle.std.proofs.Common.{◌≡◌, ℕ, ◌+◌, ◌≤◌, Bool, true, false, Option, None, Some, List, [], ◌∷◌, length, find, sym, ◌∙◌, ap, subst, arith}
use Rattle.batch_ids.specs.Metrics.{zero_step}
use Rattle.batch_ids.specs.declared.metric_step.MetricStep.{MetricStep}
use Rattle.batch_ids.specs.declared.status.WorkOutcome.{WorkOutcome}
use Rattle.batch_ids.specs.declared.status.WorkOutcome.TheVariants.{Failed}
use Rattle.jsl_model.specs.Jobs.{JobTree}
use Rattle.jsl_model.specs.Names.{is_among}
use Rattle.jsl_model.specs.declared.element.Task.{Task}
use Rattle.jsl_model.specs.declared.element.Task.TheVariants.{Batchlet as BatchletStep, Chunk as ChunkStep}
use Rattle.job_plans.specs.Plans.{carried_exit, is_kept}
use Rattle.job_plans.specs.declared.plan.Plan.{Plan}
use Rattle.job_plans.specs.declared.runnable.Runnable.{Runnable}
use Rattle.job_plans.specs.declared.runnable.Runnable.TheVariants.{Step as RunsStep}
use Rattle.walk_rules.specs.declared.facts.Fact.{Fact}
use Rattle.walk_rules.specs.declared.work_key.WorkKey.{WorkKey}
use Rattle.batch_history.specs.Executions.{Made}
use Rattle.batch_history.specs.Replies.{has_something, runnable_of_job, partitions_of_job, work_task}
use Rattle.batch_history.specs.Rows.{Rows}
use Rattle.batch_history.specs.Walks.{job_named, facts_by_work}
use Rattle.batch_history.specs.Works.{is_work, busy_work, work_key, work_kind, item_key}
use Rattle.batch_history.specs.declared.call.Call.{Call}
use Rattle.batch_history.specs.declared.call.Call.TheVariants.{Start, Restart, Stop, Abandon, Claim, Checkpoint, Finish, Lose, Purge}
use Rattle.batch_history.specs.declared.call.Entry.{Entry}
use Rattle.batch_history.specs.declared.call.Reply.{Reply}
use Rattle.batch_history.specs.declared.call.Reply.TheVariants.{Execution, Work, Closed, Nothing, Done, Go, StopAsked}
use Rattle.batch_history.specs.declared.call.WorkItem.{WorkItem}
use Rattle.batch_history.specs.declared.call.WorkKind.{WorkKind}
use Rattle.batch_history.specs.declared.call.WorkKind.TheVariants.{Batchlet, Chunk, Decision}
use Rattle.batch_history.specs.declared.call.WorkTask.{WorkTask}
use Rattle.batch_history.specs.declared.rows.ExecutionRow.{ExecutionRow}
use Rattle.batch_history.specs.declared.rows.WorkRow.{WorkRow}
use Rattle.batch_history.proofs.Folds.{made, is_made, works_of, plan_kept, folded_rows}
use Rattle.batch_history.proofs.Kept.{IsUnknown}
use Rattle.batch_history.proofs.Stepping.{planned-by}
use Rattle.batch_history.proofs.Told.{AllDue, IsRowOf, row-of, made-more, made-once, ToldClaim, claim-told}
use Rattle.batch_history.specs.NextRows.{over, reported}
use Rattle.batch_history.specs.Lists.{Each}
use Rattle.batch_history.proofs.WorkLists.{each-map, each-append, each-change}
use Rattle.history_laws.specs.Laws.{IsOpen}
use Rattle.history_laws.proofs.Claims.{IsHandedOf, handed-of}
use Rattle.history_laws.proofs.Handing.{unknown-open}

abbrev pub entry : ℕ → ℕ → Call → Reply → Entry
entry who at call reply = record { who = who; call = call; at = at; reply = reply }

-- ---- Whatever work items keep

-- what holds of a work item when it is handed out, and stays by operations and reports
pub record IsKeptBy (limit : ℕ) (catalogue : List JobTree) (P : List Entry → WorkRow → Type 0) : Type 0 where
  pub stays : (older : List Entry) (e : Entry) (row : WorkRow) → P older row → P (e ∷ older) row
  pub counts : (past : List Entry) (step : MetricStep) (row : WorkRow) → P past row → P past (reported step row)
  pub ends : (older : List Entry) (e : Entry) (o : WorkOutcome) (t : Option (List ℕ)) (step : MetricStep) (row : WorkRow)
      → P (e ∷ older) row → P (e ∷ older) (over o t step e.at (length older + 1) row)
  pub begins : (older : List Entry) (who at : ℕ) (item : WorkItem) → AllDue limit catalogue older → ToldClaim (folded_rows catalogue older) (Work item)
      → P (entry who at Claim (Work item) ∷ older) (busy_work who at item)

kept-on : (limit : ℕ) (catalogue : List JobTree) (P : List Entry → WorkRow → Type 0) → IsKeptBy limit catalogue P → (older : List Entry) (e : Entry) (rows : List WorkRow)
    → Each (P older) rows → Each (P (e ∷ older)) rows
kept-on limit catalogue P by older e rows h = each-map (P older) (P (e ∷ older)) rows (λ row p. by.stays older e row p) h

claimed-each : (limit : ℕ) (catalogue : List JobTree) (P : List Entry → WorkRow → Type 0) → IsKeptBy limit catalogue P → (older : List Entry) (who at : ℕ) (reply : Reply)
    → AllDue limit catalogue older → ToldClaim (folded_rows catalogue older) reply → Each (P older) (works_of older)
    → Each (P (entry who at Claim reply ∷ older)) (works_of (entry who at Claim reply ∷ older))
claimed-each limit catalogue P by older who at (Work item) due told h =
    each-append (P (entry who at Claim (Work item) ∷ older)) (works_of older) (busy_work who at item)
    (kept-on limit catalogue P by older (entry who at Claim (Work item)) (works_of older) h) (by.begins older who at item due told)
claimed-each limit catalogue P by older who at (Execution x) due told h = kept-on limit catalogue P by older (entry who at Claim (Execution x)) (works_of older) h
claimed-each limit catalogue P by older who at (Closed x) due told h = kept-on limit catalogue P by older (entry who at Claim (Closed x)) (works_of older) h
claimed-each limit catalogue P by older who at Nothing due told h = kept-on limit catalogue P by older (entry who at Claim Nothing) (works_of older) h
claimed-each limit catalogue P by older who at Done due told h = kept-on limit catalogue P by older (entry who at Claim Done) (works_of older) h
claimed-each limit catalogue P by older who at Go due told h = kept-on limit catalogue P by older (entry who at Claim Go) (works_of older) h
claimed-each limit catalogue P by older who at StopAsked due told h = kept-on limit catalogue P by older (entry who at Claim StopAsked) (works_of older) h

each-call : (limit : ℕ) (catalogue : List JobTree) (P : List Entry → WorkRow → Type 0) → IsKeptBy limit catalogue P → (older : List Entry) (who at : ℕ) (call : Call) (reply : Reply)
    → AllDue limit catalogue (entry who at call reply ∷ older) → Each (P older) (works_of older)
    → Each (P (entry who at call reply ∷ older)) (works_of (entry who at call reply ∷ older))
each-call limit catalogue P by older who at (Start job parameters) reply due h = kept-on limit catalogue P by older (entry who at (Start job parameters) reply) (works_of older) h
each-call limit catalogue P by older who at (Restart y parameters) reply due h = kept-on limit catalogue P by older (entry who at (Restart y parameters) reply) (works_of older) h
each-call limit catalogue P by older who at (Stop y) reply due h = kept-on limit catalogue P by older (entry who at (Stop y) reply) (works_of older) h
each-call limit catalogue P by older who at (Abandon y) reply due h = kept-on limit catalogue P by older (entry who at (Abandon y) reply) (works_of older) h
each-call limit catalogue P by older who at Claim reply due h =
    claimed-each limit catalogue P by older who at reply due.1 (claim-told limit (folded_rows catalogue older) reply due.0.0 due.0.1) h
each-call limit catalogue P by older who at (Checkpoint w mark step) reply due h =
    let e : Entry = entry who at (Checkpoint w mark step) reply in
    each-change (P (e ∷ older)) (is_work w) (reported step) (works_of older) (by.counts (e ∷ older) step) (kept-on limit catalogue P by older e (works_of older) h)
each-call limit catalogue P by older who at (Finish w o t step) reply due h =
    let e : Entry = entry who at (Finish w o t step) reply in
    each-change (P (e ∷ older)) (is_work w) (over o t step at (length older + 1)) (works_of older) (by.ends older e o t step) (kept-on limit catalogue P by older e (works_of older) h)
each-call limit catalogue P by older who at (Lose w) reply due h =
    let e : Entry = entry who at (Lose w) reply in
    each-change (P (e ∷ older)) (is_work w) (over Failed None zero_step at (length older + 1)) (works_of older) (by.ends older e Failed None zero_step)
    (kept-on limit catalogue P by older e (works_of older) h)
each-call limit catalogue P by older who at (Purge i) reply due h = kept-on limit catalogue P by older (entry who at (Purge i) reply) (works_of older) h

-- it holds of each work item of a legal history
pub each-work : (limit : ℕ) (catalogue : List JobTree) (P : List Entry → WorkRow → Type 0) → IsKeptBy limit catalogue P → (past : List Entry) → AllDue limit catalogue past
    → Each (P past) (works_of past)
each-work limit catalogue P by [] due = tt
each-work limit catalogue P by (e ∷ older) due =
    each-call limit catalogue P by older e.who e.at e.call e.reply due (each-work limit catalogue P by older due.1)

-- ---- By which operation it ended

-- a work item ended by one of the operations so far
abbrev pub IsEndedBy : List Entry → WorkRow → Type 0
IsEndedBy past row = (k : ℕ) → row.ended ≡ Some k → k ≤ length past

pub each-ended : (limit : ℕ) (catalogue : List JobTree) (past : List Entry) → AllDue limit catalogue past → Each (IsEndedBy past) (works_of past)
each-ended limit catalogue =
    each-work limit catalogue IsEndedBy record {
      stays = λ older e row h k is. let le = h k is in omega (arith, le);
      counts = λ past step row h k is. h k is;
      ends = λ older e o t step row h k is. let same : length older + 1 ≡ k = cc in omega (arith, same);
      begins = λ older who at item due told k is. cc;
    }

-- ---- Work items of steps

-- whether this is no decision
abbrev pub is_step_kind : WorkKind → Bool
is_step_kind Batchlet = true
is_step_kind Chunk = true
is_step_kind Decision = false

-- a work item of a step that a plan neither carries nor bars, and of no partition that it keeps
pub record IsOfStep (plan : Plan) (row : WorkRow) : Type 0 where
  pub uncarried : carried_exit plan.carried row.element ≡ None
  pub unkept : is_kept plan (work_key row) ≡ false
  pub unbarred : is_among plan.barred row.element ≡ false
  pub kind : is_step_kind row.kind ≡ true

-- a work item, where it is of a partitioned step
pub record IsStepWork (catalogue : List JobTree) (past : List Entry) (row : WorkRow) : Type 0 where
  pub one : Made
  pub found : find (is_made row.execution) (made past) ≡ Some one
  pub step : (task : Task) (n : ℕ) → runnable_of_job (job_named catalogue one.job) (work_key row) ≡ Some (RunsStep task)
      → partitions_of_job (job_named catalogue one.job) (work_key row) ≡ Some n → IsOfStep (plan_kept catalogue past row.execution) row

kind-of : (mark : Option (List ℕ)) (task : Task) (runs : Option Runnable) → runs ≡ Some (RunsStep task) → is_step_kind (work_kind (work_task mark runs)) ≡ true
kind-of mark (BatchletStep artifact) runs is = ap (λ r. is_step_kind (work_kind (work_task mark r))) is
kind-of mark (ChunkStep reader processor writer count) runs is = ap (λ r. is_step_kind (work_kind (work_task mark r))) is

-- a work key of a partitioned step of which nothing is known: the step is neither carried nor barred, its partition is not kept
pub partition-open : (plan : Plan) (worked : WorkKey → Fact) (job : Option JobTree) (key : WorkKey) (task : Task) (n : ℕ) → IsUnknown plan worked job key
    → runnable_of_job job key ≡ Some (RunsStep task) → partitions_of_job job key ≡ Some n → IsOpen plan key
partition-open plan worked job key task n unknown runs partitions =
    unknown-open plan worked job key task unknown runs (λ none. absurd (let bad : None ≡ Some n = sym none ∙ partitions in cc))

begun-step : (limit : ℕ) (catalogue : List JobTree) (older : List Entry) (who at : ℕ) (item : WorkItem) → AllDue limit catalogue older
    → ToldClaim (folded_rows catalogue older) (Work item) → IsStepWork catalogue (entry who at Claim (Work item) ∷ older) (busy_work who at item)
begun-step limit catalogue older who at item due told =
    let r : Rows = folded_rows catalogue older in
    let e : Entry = entry who at Claim (Work item) in
    let out : IsHandedOf r told.row item = handed-of r told.row item told.answered in
    let from : IsRowOf catalogue older told.row = row-of catalogue older (has_something r) told.row told.found in
    let m : Made = from.one in
    let number : m.execution ≡ item.execution = sym (ap (λ (row : ExecutionRow). row.execution) from.is_row) ∙ sym (ap (λ (i : WorkItem). i.execution) out.is) in
    let job : job_named catalogue m.job ≡ job_named catalogue told.row.job = sym (ap (λ (row : ExecutionRow). job_named catalogue row.job) from.is_row) in
    let plan : told.row.plan ≡ plan_kept catalogue older item.execution = ap (λ (row : ExecutionRow). row.plan) from.is_row ∙ ap (plan_kept catalogue older) number in
    record {
      one = m;
      found = ap (λ x. find (is_made x) (made (e ∷ older))) (sym number) ∙ made-more older e m.execution m from.found;
      step = λ task n runs partitions.
          let here : runnable_of_job (job_named catalogue told.row.job) (item_key item) ≡ Some (RunsStep task) = ap (λ j. runnable_of_job j (item_key item)) (sym job) ∙ runs in
          let count : partitions_of_job (job_named catalogue told.row.job) (item_key item) ≡ Some n = ap (λ j. partitions_of_job j (item_key item)) (sym job) ∙ partitions in
          let free : IsOpen told.row.plan (item_key item) =
          partition-open told.row.plan (facts_by_work told.row.execution r.works) (job_named catalogue told.row.job) (item_key item) task n out.unknown here count in
          record {
            uncarried = ap (λ (p : Plan). carried_exit p.carried item.element) (sym plan) ∙ free.uncarried;
            unkept = ap (λ (p : Plan). is_kept p (item_key item)) (sym plan) ∙ free.unkept;
            unbarred = ap (λ (p : Plan). is_among p.barred item.element) (sym plan) ∙ free.unbarred;
            kind = ap (λ (t : WorkTask). is_step_kind (work_kind t)) (ap (λ (i : WorkItem). i.task) out.is)
                ∙ kind-of _ task (runnable_of_job (job_named catalogue told.row.job) (item_key item)) here;
          };
    }

pub each-step-work : (limit : ℕ) (catalogue : List JobTree) (past : List Entry) → AllDue limit catalogue past → Each (IsStepWork catalogue past) (works_of past)
each-step-work limit catalogue =
    each-work limit catalogue (IsStepWork catalogue) record {
      stays = λ older e row h.
          let same : plan_kept catalogue (e ∷ older) row.execution ≡ plan_kept catalogue older row.execution =
          planned-by catalogue older e row.execution (made-once older row.execution h.one e.call h.found) in
          record {
            one = h.one;
            found = made-more older e row.execution h.one h.found;
            step = λ task n runs partitions. subst (λ (p : Plan). IsOfStep p row) (sym same) (h.step task n runs partitions);
          };
      counts = λ past step row h. record {
        one = h.one;
        found = h.found;
        step = λ task n runs partitions.
            let s = h.step task n runs partitions in record { uncarried = s.uncarried; unkept = s.unkept; unbarred = s.unbarred; kind = s.kind };
      };
      ends = λ older e o t step row h. record {
        one = h.one;
        found = h.found;
        step = λ task n runs partitions.
            let s = h.step task n runs partitions in record { uncarried = s.uncarried; unkept = s.unkept; unbarred = s.unbarred; kind = s.kind };
      };
      begins = λ older who at item due told. begun-step limit catalogue older who at item due told;
    }
