-- The effect of a report of a work item on its row and on its job execution.
use Rattle.std.specs.Prelude.{ℕ, ◌≡◌, ◌∷◌, ◌++◌, [], Bool, Option, Some, IfSome, List, find}
use Rattle.std.specs.Option.{option_map}
use Rattle.batch_ids.specs.Metrics.{added}
use Rattle.batch_ids.specs.declared.metric_step.MetricStep.{MetricStep}
use Rattle.batch_history.specs.Lists.{change_first}
use Rattle.batch_history.specs.Replies.{is_execution}
use Rattle.batch_history.specs.Works.{busy_work, is_work, work_key}
use Rattle.batch_history.specs.declared.call.WorkItem.{WorkItem}
use Rattle.batch_history.specs.declared.rows.ExecutionRow.{ExecutionRow}
use Rattle.batch_history.specs.declared.rows.WorkRow.{WorkRow}
use Rattle.job_plans.specs.Cursors.{CursorState}
use Rattle.jsl_model.specs.Jobs.{JobTree}
use Rattle.records.specs.Maps.{MayReplaceWork}
use Rattle.seq_repository.specs.Agendas.{is_ready_row}
use Rattle.seq_repository.specs.Changes.{row_after, Replaces, ReplacesExecution}
use Rattle.seq_repository.specs.Following.{Walks}
use Rattle.seq_repository.specs.Kept.{Kept}
use Rattle.seq_repository.specs.Metered.{IsStep}
use Rattle.row_repository.specs.Settled.{IsSettled}
use Rattle.seq_repository.specs.declared.after.After.{After}
use Rattle.seq_repository.specs.declared.rows.Change.TheVariants.{Claim as TakeUp, Report}

-- the work items, with this one instead of work item w
abbrev pub works_with : ℕ → WorkRow → List WorkRow → List WorkRow
works_with w work works = change_first (is_work w) (λ old. work) works

-- a report replaces the row of work item w and the row of its job execution by these rows; this cursor then
-- has the walk
pub record IsReport (kept : Kept) (w at : ℕ) (work : WorkRow) (after : After) (cursor : Option CursorState) : Type 0 where
  pub row : WorkRow
  pub found : find (is_work w) kept.records.works ≡ Some row
  pub may : MayReplaceWork kept.records.works w work
  pub execution : work.execution ≡ row.execution
  pub key : work_key work ≡ work_key row
  pub number : work.work ≡ row.work
  pub step : MetricStep
  pub counts : work.metrics ≡ added row.metrics step
  pub small : IsStep step
  pub place : after.step ≡ work_key row
  pub own : IfSome after.row (λ new. ReplacesExecution kept.records.executions work.execution new)
  pub new : after.row ≡ option_map (row_after Report kept.catalogue (works_with w work kept.records.works) at) (find (is_execution work.execution) kept.records.executions)
  pub ready : after.ready ≡ is_ready_row kept.catalogue (works_with w work kept.records.works) after.row
  pub walks : Walks kept.catalogue (works_with w work kept.records.works) (find (is_execution work.execution) kept.records.executions) cursor

-- the state of the job execution of a work item, which had this row, after a report that made the work item this one,
-- where this cursor has its walk then
pub record IsAfter (owner : Option ExecutionRow) (at : ℕ) (work : WorkRow) (after : After) (cursor : Option CursorState) : Type 0 where
  pub place : after.step ≡ work_key work
  pub own : IfSome after.row (Replaces owner)
  pub new : (catalogue : List JobTree) (works : List WorkRow) → Walks catalogue works owner cursor
      → after.row ≡ option_map (row_after Report catalogue works at) owner
  pub ready : (catalogue : List JobTree) (works : List WorkRow) → Walks catalogue works owner cursor
      → after.ready ≡ is_ready_row catalogue works after.row

-- an operation that changes no work item replaces the row of job execution x by this one, as `f` does; this cursor then has
-- the walk, if there is one
pub record IsChange (kept : Kept) (x : ℕ) (f : ExecutionRow → ExecutionRow) (row : Option ExecutionRow) (is_ready : Bool) (cursor : Option CursorState) : Type 0 where
  pub own : IfSome row (ReplacesExecution kept.records.executions x)
  pub new : row ≡ option_map f (find (is_execution x) kept.records.executions)
  pub ready : is_ready ≡ is_ready_row kept.catalogue kept.records.works row
  pub walks : (c : CursorState) → cursor ≡ Some c → Walks kept.catalogue kept.records.works (find (is_execution x) kept.records.executions) cursor
  pub settles : (r : ExecutionRow) → IsSettled kept.catalogue kept.records.works (f r)

-- a work item that is handed out replaces the row of its job execution by this one; this cursor then has the walk
pub record IsHanded (kept : Kept) (who at : ℕ) (item : WorkItem) (row : Option ExecutionRow) (is_ready : Bool) (cursor : Option CursorState) : Type 0 where
  pub own : IfSome row (ReplacesExecution kept.records.executions item.execution)
  pub new : row ≡ option_map (row_after TakeUp kept.catalogue (kept.records.works ++ busy_work who at item ∷ []) at) (find (is_execution item.execution) kept.records.executions)
  pub ready : is_ready ≡ is_ready_row kept.catalogue (kept.records.works ++ busy_work who at item ∷ []) row
  pub walks : Walks kept.catalogue (kept.records.works ++ busy_work who at item ∷ []) (find (is_execution item.execution) kept.records.executions) cursor
