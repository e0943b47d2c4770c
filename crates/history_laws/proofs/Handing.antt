-- What is handed out.
use Rattle.std.proofs.Common.{◌≡◌, ℕ, ◌<◌, Bool, true, false, Option, None, Some, Ok, List, ◌∷◌, ◌++◌, find, reverse, refl, sym, ◌∙◌, ap, subst}
use Rattle.jsl_model.specs.Jobs.{JobTree}
use Rattle.batch_history.specs.declared.call.Entry.{Entry}
use Rattle.batch_history.specs.declared.call.WorkItem.{WorkItem}
use Rattle.batch_history.specs.declared.call.Reply.TheVariants.{Work}
use Rattle.batch_history.proofs.Folds.{folded_rows, execution_row, plan_kept}
use Rattle.batch_history.specs.Executions.{Made}
use Rattle.batch_history.specs.Legal.{IsLegal}
use Rattle.batch_history.specs.Replies.{reply, partitions_of_job, runnable_of_job, has_something, work_task}
use Rattle.batch_history.specs.Rows.{History, Rows}
use Rattle.batch_history.specs.Walks.{job_named, facts_by_work, runnable_fact}
use Rattle.batch_history.specs.declared.rows.ExecutionRow.{ExecutionRow}
use Rattle.history_laws.specs.Laws.{beginning, row_in, WasReady, IsOpen, IsOfOpenStep, GoesOnFrom, checkpoint_in}
use Rattle.batch_history.specs.Works.{item_key}
use Rattle.batch_history.proofs.Legal.{legal-beginning}
use Rattle.batch_history.proofs.Finding.{found-passes}
use Rattle.batch_history.proofs.Legality.{past-due, all_rows_folded, least_found}
use Rattle.batch_history.proofs.Told.{IsRowOf, row-of, ToldClaim, work-told}
use Rattle.batch_history.proofs.Kept.{IsUnknown}
use Rattle.jsl_model.specs.Names.{is_among}
use Rattle.jsl_model.specs.declared.element.Task.{Task}
use Rattle.jsl_model.specs.declared.element.Task.TheVariants.{Batchlet as BatchletStep, Chunk as ChunkStep}
use Rattle.job_plans.specs.Runnables.{all_leaves, partitions_with, runnable_with}
use Rattle.job_plans.specs.Plans.{bars_kept, carried_exit, is_kept, keeps_partition, unless_barred, step_fact}
use Rattle.walk_rules.specs.declared.work_key.WorkKey.{WorkKey}
use Rattle.walk_rules.specs.declared.facts.Fact.{Fact}
use Rattle.walk_rules.specs.declared.facts.Fact.TheVariants.{Nothing as FactNothing, Busy as FactBusy, Over as FactOver, Carried as FactCarried, Barred as FactBarred}
use Rattle.job_plans.specs.declared.plan.Plan.{Plan}
use Rattle.job_plans.specs.declared.runnable.Runnable.{Runnable}
use Rattle.job_plans.specs.declared.runnable.Runnable.TheVariants.{Step as RunsStep, Decision as RunsDecision}
use Rattle.batch_history.specs.Restarts.{plan_of}
use Rattle.batch_history.specs.declared.call.WorkTask.TheVariants.{Chunk}
use Rattle.batch_history.proofs.Plans.{plan-law}
use Rattle.history_laws.proofs.Beginnings.{all_of, answered-by-all, row-folded, row-there}
use Rattle.history_laws.proofs.Claims.{IsHandedOf, handed-of, handed-runs}
use Rattle.history_laws.proofs.Unkept.{keeps-none, unpartitioned-unkept}

-- ---- What is handed out

-- the job execution of a claim, by the rows of its past
record IsOwner (h : History) (row : ExecutionRow) : Type 0 where
  found : row_in h row.execution ≡ Some row
  plan : row.plan ≡ plan_of h.catalogue (reverse h.log) row.execution
  unkept : (key : WorkKey) → partitions_of_job (job_named h.catalogue row.job) key ≡ None → is_kept row.plan key ≡ false

is-owner : (limit : ℕ) (h : History) → IsLegal limit h → (row : ExecutionRow) → find (has_something (all_of h)) (all_of h).executions ≡ Some row → IsOwner h row
is-owner limit h legal row found =
    let past : List Entry = reverse h.log in
    let folded : find (has_something (folded_rows h.catalogue past)) (folded_rows h.catalogue past).executions ≡ Some row =
    sym (ap (λ (r : Rows). find (has_something r) r.executions) (all_rows_folded limit h legal)) ∙ found in
    let from : IsRowOf h.catalogue past row = row-of h.catalogue past (has_something (folded_rows h.catalogue past)) row folded in
    let m : Made = from.one in
    let there : row_in h m.execution ≡ Some (execution_row h.catalogue past m) =
    row-folded limit h legal m.execution ∙ row-there h.catalogue past m.execution m from.found in
    let plan : plan_of h.catalogue past m.execution ≡ plan_kept h.catalogue past m.execution = plan-law limit h.catalogue past m.execution m (past-due limit h legal) from.found in
    subst (IsOwner h) (sym from.is_row) (record {
      found = there;
      plan = sym plan;
      unkept = λ key none. ap (λ (p : Plan). is_kept p key) (sym plan) ∙ unpartitioned-unkept limit h.catalogue past (past-due limit h legal) m from.found key none;
    })

-- what a claim hands out, and of which job execution
record HandedOut (h : History) (item : WorkItem) : Type 0 where
  row : ExecutionRow
  least : find (has_something (all_of h)) (all_of h).executions ≡ Some row
  by : IsHandedOf (all_of h) row item
  owner : IsOwner h row

was-handed : (limit : ℕ) (h : History) → IsLegal limit h → (item : WorkItem) → ToldClaim (all_of h) (Work item) → HandedOut h item
was-handed limit h legal item told =
    record {
      row = told.row;
      least = told.found;
      by = handed-of (all_of h) told.row item told.answered;
      owner = is-owner limit h legal told.row told.found;
    }

handed : (limit : ℕ) (h : History) → IsLegal limit h → (before : List Entry) (e : Entry) (after : List Entry) → h.log ≡ before ++ e ∷ after
    → (item : WorkItem) → e.reply ≡ Work item → HandedOut (beginning h before) item
handed limit h legal before e after cut item is =
    let due = legal.due before e after cut in
    let there : reply limit (beginning h before) e.who e.call ≡ Ok (Work item) = due.0 ∙ ap Ok is in
    was-handed limit (beginning h before) (legal-beginning limit h legal before (e ∷ after) cut) item
    (work-told limit (all_of (beginning h before)) e.who e.call item
    (answered-by-all limit (beginning h before) (legal-beginning limit h legal before (e ∷ after) cut) e.who e.call (Work item) there))

-- its job execution, by the number that it has
owner-found : (h : History) (item : WorkItem) (out : HandedOut h item) → row_in h item.execution ≡ Some out.row
owner-found h item out = ap (λ (i : WorkItem). row_in h i.execution) out.by.is ∙ out.owner.found

was-ready : (limit : ℕ) (h : History) → IsLegal limit h → (item : WorkItem) → HandedOut h item → WasReady h item
was-ready limit h legal item out =
    let number : item.execution ≡ out.row.execution = ap (λ (i : WorkItem). i.execution) out.by.is in
    record {
      owner = out.row;
      found = owner-found h item out;
      something = found-passes (has_something (all_of h)) (all_of h).executions out.row out.least;
      least = λ x other there lt. least_found limit h legal (has_something (all_of h)) out.row out.least x other there (subst (λ n. x < n) number lt);
      plan = out.owner.plan ∙ ap (plan_of h.catalogue (reverse h.log)) (sym number);
      ready = out.by.ready;
      runs = handed-runs (all_of h) out.row item out.by;
      task = ap (λ (i : WorkItem). i.task) out.by.is;
      partition = ap (λ (i : WorkItem). i.partition) out.by.is;
      number = ap (λ (i : WorkItem). i.work) out.by.is;
    }

-- what a claim hands out was ready
pub handed_ready : (limit : ℕ) (h : History) → IsLegal limit h → (before : List Entry) (e : Entry) (after : List Entry) → h.log ≡ before ++ e ∷ after
    → (item : WorkItem) → e.reply ≡ Work item → WasReady (beginning h before) item
handed_ready limit h legal before e after cut item is =
    was-ready limit (beginning h before) (legal-beginning limit h legal before (e ∷ after) cut) item (handed limit h legal before e after cut item is)

-- ---- What is carried, kept and barred

not-barred : (worked : Fact) (barred : Bool) → unless_barred worked barred ≡ FactNothing → barred ≡ false
not-barred FactNothing true h = cc
not-barred FactNothing false h = refl
not-barred FactBusy barred h = cc
not-barred (FactOver outcome exit) barred h = cc
not-barred (FactCarried exit) barred h = cc
not-barred FactBarred barred h = cc

step-open : (carried : Option (List ℕ)) (all kept : Bool) (worked : Fact) (barred : Bool) → step_fact carried all kept worked barred ≡ FactNothing
    → (carried ≡ None) × (kept ≡ false) × (barred ≡ false)
step-open (Some exit) all kept worked barred h = cc
step-open None true kept worked barred h = cc
step-open None false true worked barred h = cc
step-open None false false worked barred h = (refl, refl, not-barred worked barred h)

-- a work key of a step of which nothing is known: the step is neither carried nor barred, its partition is not kept
pub unknown-open : (plan : Plan) (worked : WorkKey → Fact) (job : Option JobTree) (key : WorkKey) (task : Task) → IsUnknown plan worked job key
    → runnable_of_job job key ≡ Some (RunsStep task) → (partitions_of_job job key ≡ None → is_kept plan key ≡ false) → IsOpen plan key
unknown-open plan worked job key task u runs unkept =
    let partitions : Option ℕ = partitions_with (all_leaves u.tree.elements) key in
    let here : runnable_with (all_leaves u.tree.elements) key ≡ Some (RunsStep task) = sym (ap (λ j. runnable_of_job j key) u.is) ∙ runs in
    let parts = step-open (carried_exit plan.carried key.element) (bars_kept plan key.element partitions) (keeps_partition plan partitions key) (worked key) (is_among plan.barred key.element)
    (sym (ap (runnable_fact plan partitions key (worked key)) here) ∙ u.unknown) in
    record {
      uncarried = parts.0;
      unkept = keeps-none plan partitions key parts.1 (λ none. unkept (ap (λ j. partitions_of_job j key) u.is ∙ none));
      unbarred = parts.2;
    }

pub handed_open : (limit : ℕ) (h : History) → IsLegal limit h → (before : List Entry) (e : Entry) (after : List Entry) → h.log ≡ before ++ e ∷ after
    → (item : WorkItem) → e.reply ≡ Work item → IsOfOpenStep (beginning h before) item
handed_open limit h legal before e after cut item is =
    let then : History = beginning h before in
    let out : HandedOut then item = handed limit h legal before e after cut item is in
    let row : ExecutionRow = out.row in
    record {
      owner = row;
      found = owner-found then item out;
      step = λ task runs. unknown-open row.plan (facts_by_work row.execution (all_of then).works) (job_named then.catalogue row.job) (item_key item) task out.by.unknown runs (out.owner.unkept (item_key item));
    }

-- ---- Checkpoints

chunk-from : (mark : Option (List ℕ)) (runs : Option Runnable) (reader writer : List ℕ) (processor : Option (List ℕ)) (count : ℕ) (given : Option (List ℕ))
    → work_task mark runs ≡ Chunk reader processor writer count given → given ≡ mark
chunk-from mark (Some (RunsStep (BatchletStep artifact))) reader writer processor count given h = cc
chunk-from mark (Some (RunsStep (ChunkStep r p w n))) reader writer processor count given h = cc
chunk-from mark (Some (RunsDecision artifact)) reader writer processor count given h = cc
chunk-from mark None reader writer processor count given h = cc

pub handed_from : (limit : ℕ) (h : History) → IsLegal limit h → (before : List Entry) (e : Entry) (after : List Entry) → h.log ≡ before ++ e ∷ after
    → (item : WorkItem) → e.reply ≡ Work item → (reader writer : List ℕ) (processor : Option (List ℕ)) (count : ℕ) (mark : Option (List ℕ))
    → item.task ≡ Chunk reader processor writer count mark → GoesOnFrom (beginning h before) item mark
handed_from limit h legal before e after cut item is reader writer processor count mark task =
    let then : History = beginning h before in
    let out : HandedOut then item = handed limit h legal before e after cut item is in
    let given : work_task (checkpoint_in then out.row (item_key item)) (runnable_of_job (job_named h.catalogue out.row.job) (item_key item)) ≡ Chunk reader processor writer count mark =
    sym (ap (λ (i : WorkItem). i.task) out.by.is) ∙ task in
    record {
      owner = out.row;
      found = owner-found then item out;
      checkpoint = chunk-from (checkpoint_in then out.row (item_key item)) (runnable_of_job (job_named h.catalogue out.row.job) (item_key item)) reader writer processor count mark given;
    }
