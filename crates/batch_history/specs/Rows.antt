-- The rows of a history: one for each job instance, job execution and work item that exists, and the
-- checkpoint of each step.
use Rattle.std.specs.Option.{option_map}
use Rattle.std.specs.Prelude.{◌≡◌, ℕ, ◌+◌, ◌==◌, not, Bool, false, Option, Some, None, List, [], ◌∷◌, length, find, filter, reverse, zero, suc, filter_map, if◌then◌else◌}
use Rattle.batch_history.specs.Checkpoints.{InstanceStep, checkpoint_of}
use Rattle.batch_history.specs.Executions.{job_instances, job_instance_count, job_execution_count, Origin, origin_of, Made, made_as}
use Rattle.batch_history.specs.Moments.{start_moment, end_moment, updated_moment}
use Rattle.batch_history.specs.Statuses.{stop_requested, is_abandoned, batch_status, exit_status}
use Rattle.batch_history.specs.Purges.{is_purged}
use Rattle.batch_history.specs.Restarts.{plan_of, walk_of_execution}
use Rattle.batch_history.specs.Works.{work_items, work_item_count}
use Rattle.batch_history.specs.declared.call.Entry.{Entry}
use Rattle.batch_history.specs.declared.rows.ExecutionRow.{ExecutionRow}
use Rattle.batch_history.specs.declared.rows.JobInstance.{JobInstance}
use Rattle.batch_history.specs.declared.rows.LastNumbers.{LastNumbers}
use Rattle.batch_history.specs.declared.rows.WorkRow.{WorkRow}
use Rattle.walk_rules.specs.declared.facts.Value.{Value}
use Rattle.job_plans.specs.declared.plan.Plan.{Plan}
use Rattle.jsl_model.specs.Jobs.{JobTree}

-- a history: a catalogue, and the operations accepted over it, in the order of their acceptance
pub record History : Type 0 where
  pub catalogue : List JobTree
  pub log : List Entry

-- the history of these operations over a catalogue
abbrev pub history : List JobTree → List Entry → History
history catalogue log = record { catalogue = catalogue; log = log }

-- the rows of a history: its catalogue, the number of accepted operations, the last numbers given, a row for
-- each job instance, job execution and work item, by rising number, and the checkpoint of each step of a job
-- instance
pub record Rows : Type 0 where
  pub catalogue : List JobTree
  pub count : ℕ
  pub last : LastNumbers
  pub instances : List JobInstance
  pub executions : List ExecutionRow
  pub works : List WorkRow
  pub checkpoint : InstanceStep → Option (List ℕ)

-- the row of a job execution, with its plan, its stop, abandonment and moments, and the value of its walk
abbrev pub execution_row_with : Made → Plan → Bool → Bool → Option ℕ → Value → Option ℕ → ℕ → ExecutionRow
execution_row_with m plan stop abandoned start value end updated =
    record {
      execution = m.execution;
      instance = m.instance;
      job = m.job;
      parameters = m.parameters;
      plan = plan;
      stop = stop;
      abandoned = abandoned;
      bare = batch_status stop start value;
      create = m.create;
      start = start;
      end = end;
      exit = exit_status stop start value;
      updated = updated;
    }

-- a job execution as before, except whether it is abandoned and when the last operation was on it
abbrev pub IsAsBefore : ExecutionRow → ExecutionRow → Type 0
IsAsBefore before after = after ≡ record before { abandoned = after.abandoned; updated = after.updated }

-- the row of job execution x, by its origin
abbrev pub row_of_origin : List JobTree → List Entry → ℕ → Origin → ExecutionRow
row_of_origin catalogue past x o =
    execution_row_with (made_as x o) (plan_of catalogue past x) (stop_requested past x) (is_abandoned past x) (start_moment past x)
    (walk_of_execution catalogue past x) (end_moment catalogue past x) (updated_moment past x)

-- the row of job execution x, if it exists
abbrev pub job_execution : List JobTree → List Entry → ℕ → Option ExecutionRow
job_execution catalogue past x = option_map (row_of_origin catalogue past x) (origin_of past x)

-- n numbers, from this one on
abbrev pub numbers_from : ℕ → ℕ → List ℕ
numbers_from x zero = []
numbers_from x (suc n) = x ∷ numbers_from (x + 1) n

-- the job executions, in order
abbrev pub job_executions : List JobTree → List Entry → List ExecutionRow
job_executions catalogue past = filter_map (job_execution catalogue past) (numbers_from 1 (job_execution_count past))

-- the last numbers given: no number is given again
abbrev pub last_numbers : List Entry → LastNumbers
last_numbers past =
    record { instance = job_instance_count past; execution = job_execution_count past; work = work_item_count past }

-- the rows of all that a past has made, each found by searches
abbrev pub all_rows : List JobTree → List Entry → Rows
all_rows catalogue past =
    record {
      catalogue = catalogue;
      count = length past;
      last = last_numbers past;
      instances = job_instances past;
      executions = job_executions catalogue past;
      works = work_items past;
      checkpoint = checkpoint_of past;
    }

-- ---- Existing rows

-- whether it is the job execution of this number
abbrev pub is_execution : ℕ → ExecutionRow → Bool
is_execution x row = row.execution == x

-- the job instance of a job execution, by its row
abbrev pub instance_in : List ExecutionRow → ℕ → Option ℕ
instance_in rows x = option_map (λ row. row.instance) (find (is_execution x) rows)

-- whether it is the number of a job instance that is gone
abbrev pub is_gone : (ℕ → Bool) → Option ℕ → Bool
is_gone gone None = false
is_gone gone (Some i) = gone i

-- the job instances that are not gone
abbrev pub instances_there : (ℕ → Bool) → List JobInstance → List JobInstance
instances_there gone instances = filter (λ row. not (gone row.instance)) instances

-- the job executions of job instances that are not gone
abbrev pub executions_there : (ℕ → Bool) → List ExecutionRow → List ExecutionRow
executions_there gone executions = filter (λ row. not (gone row.instance)) executions

-- the work items of job executions of job instances that are not gone
abbrev pub works_there : (ℕ → Bool) → List ExecutionRow → List WorkRow → List WorkRow
works_there gone executions works = filter (λ row. not (is_gone gone (instance_in executions row.execution))) works

-- the checkpoints of job instances that are not gone
abbrev pub checkpoint_there : (ℕ → Bool) → (InstanceStep → Option (List ℕ)) → InstanceStep → Option (List ℕ)
checkpoint_there gone checkpoint p = if gone p.instance then None else checkpoint p

-- the rows without those of the job instances that are gone
abbrev pub existing : (ℕ → Bool) → Rows → Rows
existing gone r =
    record r {
      instances = instances_there gone r.instances;
      executions = executions_there gone r.executions;
      works = works_there gone r.executions r.works;
      checkpoint = checkpoint_there gone r.checkpoint;
    }

-- the rows of what exists after a past
abbrev pub rows_of_past : List JobTree → List Entry → Rows
rows_of_past catalogue past = existing (is_purged past) (all_rows catalogue past)

-- the rows of a history
abbrev pub rows : History → Rows
rows h = rows_of_past h.catalogue (reverse h.log)
