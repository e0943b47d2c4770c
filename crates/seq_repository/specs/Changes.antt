-- The change that an operation makes to its job execution.
use Rattle.std.specs.Prelude.{ℕ, ◌≡◌, true, false, Option, None, Some, List, find}
use Rattle.std.specs.Option.{option_map}
use Rattle.batch_ids.specs.declared.status.WorkOutcome.{WorkOutcome}
use Rattle.batch_ids.specs.declared.status.WorkOutcome.TheVariants.{Completed, Failed, Stopped}
use Rattle.jsl_model.specs.Jobs.{JobTree}
use Rattle.batch_history.specs.declared.rows.ExecutionRow.{ExecutionRow}
use Rattle.batch_history.specs.declared.rows.WorkRow.{WorkRow}
use Rattle.batch_history.specs.NextRows.{Effect, refreshed}
use Rattle.batch_history.specs.Checkpoints.{InstanceStep}
use Rattle.batch_history.specs.Lists.{change_first}
use Rattle.batch_history.specs.Replies.{is_execution}
use Rattle.batch_history.specs.Walks.{walk_value}
use Rattle.walk_rules.specs.declared.work_key.WorkKey.{WorkKey}
use Rattle.records.specs.Maps.{Maps, KeepsExecution, SetsCheckpoint}
use Rattle.seq_repository.specs.declared.rows.Change.{Change}
use Rattle.seq_repository.specs.declared.rows.Change.TheVariants.{StopRequest, Claim as TakeUp, Report}

-- the effect on a job execution that is asked to stop, taken up or reported on
abbrev pub effect_of : Change → Effect
effect_of StopRequest = record { asks = true; gives_up = false; takes = false }
effect_of TakeUp = record { asks = false; gives_up = false; takes = true }
effect_of Report = record { asks = false; gives_up = false; takes = false }

-- the row of a job execution after a change, if `works` are the work items after it
abbrev pub row_after : Change → List JobTree → List WorkRow → ℕ → ExecutionRow → ExecutionRow
row_after change catalogue works at row =
    refreshed (effect_of change) (walk_value catalogue works row.execution row.job row.plan) at row

-- the row of a job execution that is abandoned, which shows the same of its walk
abbrev pub abandoned_at : ℕ → ExecutionRow → ExecutionRow
abandoned_at at row = record row { abandoned = true; updated = at }

-- the row of a job execution that is abandoned, by the value of its walk
abbrev pub row_given_up : List JobTree → List WorkRow → ℕ → ExecutionRow → ExecutionRow
row_given_up catalogue works at row =
    refreshed (record { asks = false; gives_up = true; takes = false }) (walk_value catalogue works row.execution row.job row.plan) at row

-- the job executions, with this row instead of the row of job execution x, if a row is given
abbrev pub put_row : ℕ → Option ExecutionRow → List ExecutionRow → List ExecutionRow
put_row x None rows = rows
put_row x (Some row) rows = change_first (is_execution x) (λ old. row) rows

-- a row may replace this row of a job execution, which exists: it has the same indexed fields, and the same
-- plan, which its walk follows
abbrev pub Replaces : Option ExecutionRow → ExecutionRow → Type 0
Replaces owner row = (before : ExecutionRow) × (owner ≡ Some before) × KeepsExecution before row × (row.plan ≡ before.plan)

-- a row may replace the row of job execution x
abbrev pub ReplacesExecution : List ExecutionRow → ℕ → ExecutionRow → Type 0
ReplacesExecution rows x row = Replaces (find (is_execution x) rows) row

-- the step in the job instance of this job execution, if this exists
abbrev pub place_at : Option ExecutionRow → WorkKey → Option InstanceStep
place_at row step = option_map (λ r. record { instance = r.instance; step = step }) row

-- the checkpoint of this step, if the step is given, is set to this mark or cleared, and no other row changes
abbrev pub SetsMark : Option InstanceStep → Option (List ℕ) → Maps → Maps → Type 0
SetsMark None mark before after = after ≡ before
SetsMark (Some p) mark before after = SetsCheckpoint before after p mark

-- a step that is COMPLETED loses its checkpoint
abbrev pub LeavesMark : WorkOutcome → Option InstanceStep → Maps → Maps → Type 0
LeavesMark Completed p before after = SetsMark p None before after
LeavesMark Failed p before after = after ≡ before
LeavesMark Stopped p before after = after ≡ before
