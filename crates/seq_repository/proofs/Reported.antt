-- What a report of a work item enters, where its rows are put.
use Rattle.std.proofs.Common.{◌≡◌, false, ℕ, ◌+◌, ◌++◌, ◌∷◌, [], Bool, Option, None, Some, IfSome, List, find, refl, sym, ◌∙◌, ap, subst}
use Rattle.std.specs.Option.{option_map}
use Rattle.batch_ids.specs.declared.metric_step.MetricStep.{MetricStep}
use Rattle.batch_ids.specs.declared.status.WorkOutcome.{WorkOutcome}
use Rattle.batch_history.specs.NextRows.{over, over_as, reported, rows_after}
use Rattle.batch_history.specs.Lists.{change_first}
use Rattle.batch_history.specs.Replies.{is_execution}
use Rattle.batch_history.specs.Works.{busy_work, is_work, work_key}
use Rattle.batch_history.specs.declared.call.WorkItem.{WorkItem}
use Rattle.batch_history.specs.declared.call.Call.TheVariants.{Checkpoint, Finish}
use Rattle.batch_history.specs.declared.call.Reply.TheVariants.{Done}
use Rattle.batch_history.specs.declared.rows.ExecutionRow.{ExecutionRow}
use Rattle.batch_history.specs.declared.rows.LastNumbers.{LastNumbers}
use Rattle.batch_history.specs.declared.rows.WorkRow.{WorkRow}
use Rattle.job_plans.specs.Cursors.{CursorState}
use Rattle.jsl_model.specs.Jobs.{JobTree}
use Rattle.records.specs.Maps.{Maps}
use Rattle.restart_rules.specs.Restarting.{rows_over}
use Rattle.seq_repository.specs.Changes.{LeavesMark, SetsMark, abandoned_at, place_at, put_row, row_after, row_given_up, Replaces}
use Rattle.seq_repository.specs.Agendas.{is_ready_row}
use Rattle.seq_repository.specs.Following.{Walks}
use Rattle.seq_repository.specs.Kept.{Kept}
use Rattle.seq_repository.specs.Metered.{IsStep}
use Rattle.seq_repository.specs.Reports.{IsAfter, IsChange, IsHanded, IsReport, works_with}
use Rattle.seq_repository.specs.declared.after.After.{After}
use Rattle.seq_repository.specs.declared.rows.Change.{Change}
use Rattle.seq_repository.specs.declared.rows.Change.TheVariants.{Claim as TakeUp, Report}
use Rattle.row_repository.specs.Settled.{AreSettled}
use Rattle.seq_repository.proofs.Settled.{given_up_found, given_up_idle, settled_after, settled_given_up}
use Rattle.seq_repository.proofs.Entries.{change-found, checkpoint-entered, finish-entered, over-own, reported-own}
use Rattle.seq_repository.proofs.Followed.{walks_same}
use Rattle.seq_repository.proofs.Knowing.{known_put}

-- the row of the job execution, `f` being what the report makes of the work item
after-by : (kept : Kept) (w at : ℕ) (work : WorkRow) (after : After) (cursor : Option CursorState) (r : IsReport kept w at work after cursor) (f : WorkRow → WorkRow) → work ≡ f r.row
    → after.row ≡ option_map (row_after Report kept.catalogue (change_first (is_work w) f kept.records.works) at) (find (is_execution r.row.execution) kept.records.executions)
after-by kept w at work after cursor r f made =
    let works : works_with w work kept.records.works ≡ change_first (is_work w) f kept.records.works =
    ap (λ (new : WorkRow). works_with w new kept.records.works) made ∙ change-found (is_work w) f kept.records.works r.row r.found in
    subst (λ (l : List WorkRow). after.row ≡ option_map (row_after Report kept.catalogue l at) (find (is_execution r.row.execution) kept.records.executions)) works
    (subst (λ (x : ℕ). after.row ≡ option_map (row_after Report kept.catalogue (works_with w work kept.records.works) at) (find (is_execution x) kept.records.executions)) r.execution r.new)

-- a work item that is over
pub is_end : (kept : Kept) (w at : ℕ) (outcome : WorkOutcome) (exit : List ℕ) (step : MetricStep) (row work : WorkRow) (after : After) (cursor : Option CursorState)
    → find (is_work w) kept.records.works ≡ Some row → work ≡ over_as outcome exit step at (kept.count + 1) row → IsStep step
    → Walks kept.catalogue (change_first (is_work w) (over_as outcome exit step at (kept.count + 1)) kept.records.works) (find (is_execution row.execution) kept.records.executions) cursor
    → IsAfter (find (is_execution row.execution) kept.records.executions) at work after cursor
    → IsReport kept w at work after cursor
is_end kept w at outcome exit step row work after cursor found made small there known =
    let before : List WorkRow = kept.records.works in
    let f : WorkRow → WorkRow = over_as outcome exit step at (kept.count + 1) in
    let of : work.execution ≡ row.execution = ap (λ (r : WorkRow). r.execution) made in
    let works : change_first (is_work w) f before ≡ works_with w work before =
    sym (change-found (is_work w) f before row found) ∙ ap (λ (new : WorkRow). works_with w new before) (sym made) in
    let is : IsAfter (find (is_execution work.execution) kept.records.executions) at work after cursor =
    subst (λ (x : ℕ). IsAfter (find (is_execution x) kept.records.executions) at work after cursor) (sym of) known in
    let walks : Walks kept.catalogue (works_with w work before) (find (is_execution work.execution) kept.records.executions) cursor =
    subst (λ (x : ℕ). Walks kept.catalogue (works_with w work before) (find (is_execution x) kept.records.executions) cursor) (sym of)
    (subst (λ (l : List WorkRow). Walks kept.catalogue l (find (is_execution row.execution) kept.records.executions) cursor) works there) in
    record {
      row = row;
      found = found;
      may = over-own w outcome exit step at (kept.count + 1) before row work found made;
      execution = of;
      key = ap work_key made;
      number = ap (λ (r : WorkRow). r.work) made;
      step = step;
      counts = ap (λ (r : WorkRow). r.metrics) made;
      small = small;
      place = is.place ∙ ap work_key made;
      own = is.own;
      new = is.new kept.catalogue (works_with w work before) walks;
      ready = is.ready kept.catalogue (works_with w work before) walks;
      walks = walks;
    }

-- a work item with a checkpoint
pub is_checkpoint : (kept : Kept) (w at : ℕ) (step : MetricStep) (row work : WorkRow) (after : After) (cursor : Option CursorState)
    → find (is_work w) kept.records.works ≡ Some row → work ≡ reported step row → IsStep step
    → Walks kept.catalogue kept.records.works (find (is_execution row.execution) kept.records.executions) cursor
    → IsAfter (find (is_execution row.execution) kept.records.executions) at work after cursor
    → IsReport kept w at work after cursor
is_checkpoint kept w at step row work after cursor found made small there known =
    let before : List WorkRow = kept.records.works in
    let of : work.execution ≡ row.execution = ap (λ (r : WorkRow). r.execution) made in
    let is : IsAfter (find (is_execution work.execution) kept.records.executions) at work after cursor =
    subst (λ (x : ℕ). IsAfter (find (is_execution x) kept.records.executions) at work after cursor) (sym of) known in
    let walks : Walks kept.catalogue (works_with w work before) (find (is_execution work.execution) kept.records.executions) cursor =
    subst (λ (x : ℕ). Walks kept.catalogue (works_with w work before) (find (is_execution x) kept.records.executions) cursor) (sym of)
    (walks_same kept.catalogue before (works_with w work before) (find (is_execution row.execution) kept.records.executions) cursor
    (known_put (is_work w) step before row work found made) there) in
    record {
      row = row;
      found = found;
      may = reported-own w step before row work found made;
      execution = of;
      key = ap work_key made;
      number = ap (λ (r : WorkRow). r.work) made;
      step = step;
      counts = ap (λ (r : WorkRow). r.metrics) made;
      small = small;
      place = is.place ∙ ap work_key made;
      own = is.own;
      new = is.new kept.catalogue (works_with w work before) walks;
      ready = is.ready kept.catalogue (works_with w work before) walks;
      walks = walks;
    }

pub finish-reported : (catalogue : List JobTree) (count : ℕ) (last : LastNumbers) (old m1 m2 m3 : Maps) (w at : ℕ) (outcome : WorkOutcome) (given : Option (List ℕ)) (step : MetricStep)
    (work : WorkRow) (after : After) (cursor : Option CursorState)
    → IsReport (record { catalogue = catalogue; count = count; last = last; records = old }) w at work after cursor
    → IfSome (find (is_work w) old.works) (λ (row : WorkRow). work ≡ over outcome given step at (count + 1) row)
    → LeavesMark outcome (place_at after.row after.step) old m1
    → m2 ≡ record m1 { works = works_with w work m1.works }
    → m3 ≡ record m2 { executions = put_row work.execution after.row m2.executions }
    → rows_over catalogue (count + 1) last m3 ≡ rows_after (rows_over catalogue count last old) record { who = 0; call = Finish w outcome given step; at = at; reply = Done }
finish-reported catalogue count last old m1 m2 m3 w at outcome given step work after cursor r over_row e1 e2 e3 =
    let made : work ≡ over outcome given step at (count + 1) r.row = subst (λ (o : Option WorkRow). IfSome o (λ (row : WorkRow). work ≡ over outcome given step at (count + 1) row)) r.found over_row in
    finish-entered catalogue count last old m1 m2 m3 0 at w outcome given step Done r.row work after.row after.step
    r.found made r.place
    (after-by (record { catalogue = catalogue; count = count; last = last; records = old }) w at work after cursor r (over outcome given step at (count + 1)) made)
    e1 e2
    (subst (λ (x : ℕ). m3 ≡ record m2 { executions = put_row x after.row m2.executions }) r.execution e3)

pub checkpoint-reported : (catalogue : List JobTree) (count : ℕ) (last : LastNumbers) (old m1 m2 m3 : Maps) (w at : ℕ) (mark : List ℕ) (step : MetricStep)
    (work : WorkRow) (after : After) (cursor : Option CursorState)
    → IsReport (record { catalogue = catalogue; count = count; last = last; records = old }) w at work after cursor
    → IfSome (find (is_work w) old.works) (λ (row : WorkRow). work ≡ reported step row)
    → SetsMark (place_at after.row after.step) (Some mark) old m1
    → m2 ≡ record m1 { works = works_with w work m1.works }
    → m3 ≡ record m2 { executions = put_row work.execution after.row m2.executions }
    → rows_over catalogue (count + 1) last m3 ≡ rows_after (rows_over catalogue count last old) record { who = 0; call = Checkpoint w mark step; at = at; reply = Done }
checkpoint-reported catalogue count last old m1 m2 m3 w at mark step work after cursor r reported_row e1 e2 e3 =
    let made : work ≡ reported step r.row = subst (λ (o : Option WorkRow). IfSome o (λ (row : WorkRow). work ≡ reported step row)) r.found reported_row in
    checkpoint-entered catalogue count last old m1 m2 m3 0 at w mark step Done r.row work after.row after.step mark
    r.found made r.place refl
    (after-by (record { catalogue = catalogue; count = count; last = last; records = old }) w at work after cursor r (reported step) made)
    e1 e2
    (subst (λ (x : ℕ). m3 ≡ record m2 { executions = put_row x after.row m2.executions }) r.execution e3)

-- What an operation on a job execution leaves of it, by its row before and its walk after

pub is_change : (kept : Kept) (x at : ℕ) (change : Change) (owner row : Option ExecutionRow) (ready : Bool) (cursor : Option CursorState)
    → owner ≡ find (is_execution x) kept.records.executions → Walks kept.catalogue kept.records.works owner cursor → IfSome row (Replaces owner)
    → ((catalogue : List JobTree) (works : List WorkRow) → Walks catalogue works owner cursor → row ≡ option_map (row_after change catalogue works at) owner)
    → ((catalogue : List JobTree) (works : List WorkRow) → Walks catalogue works owner cursor → ready ≡ is_ready_row catalogue works row)
    → IsChange kept x (row_after change kept.catalogue kept.records.works at) row ready cursor
is_change kept x at change owner row ready cursor found walks own new is_ready =
    record {
      own = subst (λ o. IfSome row (Replaces o)) found own;
      new = new kept.catalogue kept.records.works walks ∙ ap (option_map (row_after change kept.catalogue kept.records.works at)) found;
      ready = is_ready kept.catalogue kept.records.works walks;
      walks = λ one e. subst (λ o. Walks kept.catalogue kept.records.works o cursor) found walks;
      settles = settled_after kept.catalogue kept.records.works change at;
    }

pub is_handed : (kept : Kept) (who at : ℕ) (item : WorkItem) (owner row : Option ExecutionRow) (ready : Bool) (cursor : Option CursorState)
    → owner ≡ find (is_execution item.execution) kept.records.executions → Walks kept.catalogue (kept.records.works ++ busy_work who at item ∷ []) owner cursor → IfSome row (Replaces owner)
    → ((catalogue : List JobTree) (works : List WorkRow) → Walks catalogue works owner cursor → row ≡ option_map (row_after TakeUp catalogue works at) owner)
    → ((catalogue : List JobTree) (works : List WorkRow) → Walks catalogue works owner cursor → ready ≡ is_ready_row catalogue works row)
    → IsHanded kept who at item row ready cursor
is_handed kept who at item owner row ready cursor found walks own new is_ready =
    let works : List WorkRow = kept.records.works ++ busy_work who at item ∷ [] in
    record {
      own = subst (λ o. IfSome row (Replaces o)) found own;
      new = new kept.catalogue works walks ∙ ap (option_map (row_after TakeUp kept.catalogue works at)) found;
      ready = is_ready kept.catalogue works walks;
      walks = subst (λ o. Walks kept.catalogue works o cursor) found walks;
    }

pub is_given_up : (kept : Kept) (x at : ℕ) (owner row : Option ExecutionRow) → AreSettled kept.catalogue kept.records.works kept.records.executions
    → owner ≡ find (is_execution x) kept.records.executions → row ≡ option_map (abandoned_at at) owner → IfSome row (Replaces owner)
    → IsChange kept x (row_given_up kept.catalogue kept.records.works at) row false None
is_given_up kept x at owner row settled found is own =
    let made : row ≡ option_map (abandoned_at at) (find (is_execution x) kept.records.executions) = is ∙ ap (option_map (abandoned_at at)) found in
    record {
      own = subst (λ o. IfSome row (Replaces o)) found own;
      new = given_up_found kept.catalogue kept.records.works at x kept.records.executions row settled made;
      ready = given_up_idle kept.catalogue kept.records.works at x kept.records.executions row made;
      walks = λ one e. cc;
      settles = settled_given_up kept.catalogue kept.records.works at;
    }
