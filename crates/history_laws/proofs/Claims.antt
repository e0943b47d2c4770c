-- A work item that is handed out is named by the ready work key that it is for, and each work item is of a step or a decision
-- of its job, a partition where that step is partitioned.
use Rattle.std.proofs.Common.{◌≡◌, ℕ, true, Option, None, Some, is_some, unwrap_or, List, [], ◌∷◌, find, refl, sym, ◌∙◌, ap, subst}
use Rattle.jsl_model.specs.Jobs.{JobTree}
use Rattle.walk_rules.specs.declared.facts.Fact.{Fact}
use Rattle.walk_rules.specs.declared.work_key.WorkKey.{WorkKey}
use Rattle.batch_history.specs.Executions.{Made}
use Rattle.batch_history.specs.Lists.{change_first, Each}
use Rattle.batch_history.specs.Replies.{first_ready, walk_in_rows, runnable_of_job, partitions_of_job, partition_named, claim_reply, next_work_item, has_something}
use Rattle.batch_history.specs.Rows.{Rows}
use Rattle.batch_history.specs.Walks.{job_named, facts_by_work}
use Rattle.batch_history.specs.Works.{is_work, work_key, busy_work}
use Rattle.batch_history.specs.declared.call.Call.{Call}
use Rattle.batch_history.specs.declared.call.Call.TheVariants.{Start, Restart, Stop, Abandon, Claim, Checkpoint, Finish, Lose, Purge}
use Rattle.batch_history.specs.declared.call.Entry.{Entry}
use Rattle.batch_history.specs.declared.call.Reply.{Reply}
use Rattle.batch_history.specs.declared.call.Reply.TheVariants.{Execution, Work, Closed, Nothing, Done, Go, StopAsked}
use Rattle.batch_history.specs.declared.call.WorkItem.{WorkItem}
use Rattle.batch_history.specs.declared.rows.ExecutionRow.{ExecutionRow}
use Rattle.batch_history.specs.declared.rows.WorkRow.{WorkRow}
use Rattle.batch_history.proofs.Folds.{made, is_made, works_of, folded_rows}
use Rattle.batch_history.proofs.Kept.{IsUnknown, ready-unknown}
use Rattle.batch_history.proofs.Runs.{key-named}
use Rattle.batch_history.proofs.Told.{Due, AllDue, IsRowOf, row-of, made-more, ToldClaim, claim-told}
use Rattle.batch_history.proofs.WorkLists.{each-map, each-append, each-change}
use Rattle.batch_history.specs.Works.{item_key}

-- ---- What a claim hands out

-- a work item is handed out of a job execution, for the work key by which it is named
pub record IsHandedOf (r : Rows) (row : ExecutionRow) (item : WorkItem) : Type 0 where
  pub ready : first_ready (walk_in_rows r row) ≡ Some (item_key item)
  pub is : item ≡ next_work_item r row (item_key item)
  pub unknown : IsUnknown row.plan (facts_by_work row.execution r.works) (job_named r.catalogue row.job) (item_key item)

-- a work item that is handed out for a work key is named by it
named-again : (r : Rows) (row : ExecutionRow) (key : WorkKey) → IsUnknown row.plan (facts_by_work row.execution r.works) (job_named r.catalogue row.job) key
    → item_key (next_work_item r row key) ≡ key
named-again r row key u =
    ap (λ (j : Option JobTree). record { element = key.element; partition = unwrap_or (partition_named key.partition (partitions_of_job j key)) 0 }) u.is
    ∙ key-named u.tree key u.runs

pub handed-of : (r : Rows) (row : ExecutionRow) (item : WorkItem) → Work item ≡ claim_reply r row (first_ready (walk_in_rows r row)) → IsHandedOf r row item
handed-of r row item answered =
    (elim (first_ready (walk_in_rows r row)) as (λ o. first_ready (walk_in_rows r row) ≡ o → Work item ≡ claim_reply r row o → IsHandedOf r row item) [
      | None ↦ λ ready is. cc
      | Some key ↦ λ ready is.
          let same : item ≡ next_work_item r row key = cc in
          let job : Option JobTree = job_named r.catalogue row.job in
          let worked : WorkKey → Fact = facts_by_work row.execution r.works in
          let unknown : IsUnknown row.plan worked job key = ready-unknown row.plan worked job key ready in
          let named : item_key item ≡ key = ap item_key same ∙ named-again r row key unknown in
          record {
            ready = ready ∙ ap (λ (k : WorkKey). Some k) (sym named);
            is = same ∙ ap (next_work_item r row) (sym named);
            unknown = subst (IsUnknown row.plan worked job) (sym named) unknown;
          }
    ]) refl answered

-- something is run for its work key
pub handed-runs : (r : Rows) (row : ExecutionRow) (item : WorkItem) → IsHandedOf r row item → is_some (runnable_of_job (job_named r.catalogue row.job) (item_key item)) ≡ true
handed-runs r row item out = ap (λ j. is_some (runnable_of_job j (item_key item))) out.unknown.is ∙ out.unknown.runs

-- ---- Where each work item stands in its job

-- a work item is of a step or a decision of its job, and names a partition exactly where that step is partitioned
pub record IsPlaced (catalogue : List JobTree) (past : List Entry) (row : WorkRow) : Type 0 where
  pub one : Made
  pub found : find (is_made row.execution) (made past) ≡ Some one
  pub runs : is_some (runnable_of_job (job_named catalogue one.job) (work_key row)) ≡ true
  pub partition : row.partition ≡ partition_named (work_key row).partition (partitions_of_job (job_named catalogue one.job) (work_key row))

abbrev pub AllPlaced : List JobTree → List Entry → List WorkRow → Type 0
AllPlaced catalogue past rows = Each (IsPlaced catalogue past) rows

-- it stays there
placed-on : (catalogue : List JobTree) (older : List Entry) (e : Entry) (rows : List WorkRow) → AllPlaced catalogue older rows → AllPlaced catalogue (e ∷ older) rows
placed-on catalogue older e rows placed =
    each-map (IsPlaced catalogue older) (IsPlaced catalogue (e ∷ older)) rows
    (λ row p. record { one = p.one; found = made-more older e row.execution p.one p.found; runs = p.runs; partition = p.partition }) placed

-- so it does by a report
placed-changed : (catalogue : List JobTree) (past : List Entry) (w : ℕ) (f : WorkRow → WorkRow) (rows : List WorkRow)
    → ((row : WorkRow) → IsPlaced catalogue past row → IsPlaced catalogue past (f row)) → AllPlaced catalogue past rows → AllPlaced catalogue past (change_first (is_work w) f rows)
placed-changed catalogue past w f rows still placed = each-change (IsPlaced catalogue past) (is_work w) f rows still placed

-- what is handed out
handed-placed : (catalogue : List JobTree) (older : List Entry) (e : Entry) (who at : ℕ) (item : WorkItem) → ToldClaim (folded_rows catalogue older) (Work item)
    → IsPlaced catalogue (e ∷ older) (busy_work who at item)
handed-placed catalogue older e who at item told =
    let r : Rows = folded_rows catalogue older in
    let out : IsHandedOf r told.row item = handed-of r told.row item told.answered in
    let from : IsRowOf catalogue older told.row = row-of catalogue older (has_something r) told.row told.found in
    let m : Made = from.one in
    let number : m.execution ≡ item.execution = sym (ap (λ (row : ExecutionRow). row.execution) from.is_row) ∙ sym (ap (λ (i : WorkItem). i.execution) out.is) in
    let job : job_named catalogue m.job ≡ job_named catalogue told.row.job = sym (ap (λ (row : ExecutionRow). job_named catalogue row.job) from.is_row) in
    record {
      one = m;
      found = ap (λ x. find (is_made x) (made (e ∷ older))) (sym number) ∙ made-more older e m.execution m from.found;
      runs = ap (λ j. is_some (runnable_of_job j (item_key item))) job ∙ handed-runs r told.row item out;
      partition = ap (λ (i : WorkItem). i.partition) out.is ∙ sym (ap (λ j. partition_named (item_key item).partition (partitions_of_job j (item_key item))) job);
    }

claim-placed : (catalogue : List JobTree) (older : List Entry) (who at : ℕ) (reply : Reply) → ToldClaim (folded_rows catalogue older) reply → AllPlaced catalogue older (works_of older)
    → AllPlaced catalogue (record { who = who; call = Claim; at = at; reply = reply } ∷ older) (works_of (record { who = who; call = Claim; at = at; reply = reply } ∷ older))
claim-placed catalogue older who at (Work item) told placed =
    let e : Entry = record { who = who; call = Claim; at = at; reply = Work item } in
    each-append (IsPlaced catalogue (e ∷ older)) (works_of older) (busy_work who at item) (placed-on catalogue older e (works_of older) placed)
    (handed-placed catalogue older e who at item told)
claim-placed catalogue older who at (Execution x) told placed = placed-on catalogue older _ (works_of older) placed
claim-placed catalogue older who at (Closed x) told placed = placed-on catalogue older _ (works_of older) placed
claim-placed catalogue older who at Nothing told placed = placed-on catalogue older _ (works_of older) placed
claim-placed catalogue older who at Done told placed = placed-on catalogue older _ (works_of older) placed
claim-placed catalogue older who at Go told placed = placed-on catalogue older _ (works_of older) placed
claim-placed catalogue older who at StopAsked told placed = placed-on catalogue older _ (works_of older) placed

placed-step : (limit : ℕ) (catalogue : List JobTree) (older : List Entry) (who at : ℕ) (call : Call) (reply : Reply)
    → Due limit catalogue older record { who = who; call = call; at = at; reply = reply } → AllPlaced catalogue older (works_of older)
    → AllPlaced catalogue (record { who = who; call = call; at = at; reply = reply } ∷ older) (works_of (record { who = who; call = call; at = at; reply = reply } ∷ older))
placed-step limit catalogue older who at (Start job parameters) reply due placed = placed-on catalogue older _ (works_of older) placed
placed-step limit catalogue older who at (Restart y parameters) reply due placed = placed-on catalogue older _ (works_of older) placed
placed-step limit catalogue older who at (Stop y) reply due placed = placed-on catalogue older _ (works_of older) placed
placed-step limit catalogue older who at (Abandon y) reply due placed = placed-on catalogue older _ (works_of older) placed
placed-step limit catalogue older who at Claim reply due placed =
    claim-placed catalogue older who at reply (claim-told limit (folded_rows catalogue older) reply due.0 due.1) placed
placed-step limit catalogue older who at (Checkpoint w mark step) reply due placed =
    placed-changed catalogue _ w _ (works_of older)
    (λ row p. record { one = p.one; found = p.found; runs = p.runs; partition = p.partition }) (placed-on catalogue older _ (works_of older) placed)
placed-step limit catalogue older who at (Finish w o t step) reply due placed =
    placed-changed catalogue _ w _ (works_of older)
    (λ row p. record { one = p.one; found = p.found; runs = p.runs; partition = p.partition }) (placed-on catalogue older _ (works_of older) placed)
placed-step limit catalogue older who at (Lose w) reply due placed =
    placed-changed catalogue _ w _ (works_of older)
    (λ row p. record { one = p.one; found = p.found; runs = p.runs; partition = p.partition }) (placed-on catalogue older _ (works_of older) placed)
placed-step limit catalogue older who at (Purge i) reply due placed = placed-on catalogue older _ (works_of older) placed

-- each work item of a legal history
pub all-placed : (limit : ℕ) (catalogue : List JobTree) (past : List Entry) → AllDue limit catalogue past → AllPlaced catalogue past (works_of past)
all-placed limit catalogue [] due = tt
all-placed limit catalogue (e ∷ older) due = placed-step limit catalogue older e.who e.at e.call e.reply due.0 (all-placed limit catalogue older due.1)
