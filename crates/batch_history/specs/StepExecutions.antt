-- Step executions (Jakarta Batch 2.1, "StepExecution"). A step that is not partitioned has one for each work
-- item. A partitioned step has one in each job execution with work of it, which shows its partitions
-- together.
use Rattle.std.specs.List.{list_any, list_all}
use Rattle.std.specs.Option.{option_map, option_and_then}
use Rattle.std.specs.Prelude.{ℕ, ◌==◌, ◌||◌, ◌&&◌, nat_le, not, Bool, true, false, Option, Some, None, List, [], ◌∷◌, map, find, filter, filter_map, if◌then◌else◌}
use Rattle.std.specs.Str.{bytes_eq}
use Rattle.batch_ids.specs.Metrics.{sum_of_metrics}
use Rattle.batch_ids.specs.Statuses.{is_unfinished, outcome_status, status_name}
use Rattle.batch_ids.specs.declared.status.BatchStatus.{BatchStatus}
use Rattle.batch_ids.specs.declared.status.BatchStatus.TheVariants.{Starting, Started, Stopping, Stopped, Failed, Completed, Abandoned}
use Rattle.walk_rules.specs.Keys.{key_of, numbers_to}
use Rattle.job_plans.specs.Plans.{is_kept}
use Rattle.job_plans.specs.declared.plan.Plan.{Plan}
use Rattle.batch_ids.specs.declared.status.WorkOutcome.{WorkOutcome}
use Rattle.batch_ids.specs.declared.status.WorkOutcome.TheVariants.{Completed as CameCompleted, Failed as CameFailed, Stopped as CameStopped}
use Rattle.jsl_model.specs.Jobs.{JobTree}
use Rattle.batch_history.specs.Lists.{is_at}
use Rattle.batch_history.specs.Replies.{partitions_of_job, row_status}
use Rattle.batch_history.specs.Rows.{Rows}
use Rattle.batch_history.specs.Walks.{job_named}
use Rattle.batch_history.specs.Works.{work_key}
use Rattle.batch_history.specs.declared.call.WorkKind.{WorkKind}
use Rattle.batch_history.specs.declared.call.WorkKind.TheVariants.{Batchlet, Chunk, Decision}
use Rattle.batch_history.specs.declared.query.StepExecution.{StepExecution}
use Rattle.batch_history.specs.declared.rows.ExecutionRow.{ExecutionRow}
use Rattle.batch_history.specs.declared.rows.WorkRow.{WorkRow}
use Rattle.batch_history.specs.declared.rows.WorkState.{WorkState}
use Rattle.batch_history.specs.declared.rows.WorkState.TheVariants.{Busy, Over}

-- ---- Of one work item

-- the batch status of a work item: STARTED until it is over, and then its outcome
abbrev pub state_status : WorkState → BatchStatus
state_status Busy = Started
state_status (Over outcome exit) = outcome_status outcome

abbrev pub state_exit : WorkState → Option (List ℕ)
state_exit Busy = None
state_exit (Over outcome exit) = Some exit

-- the step execution of one work item
abbrev pub shown_step : WorkRow → StepExecution
shown_step row =
    record {
      work = row.work;
      execution = row.execution;
      step = row.element;
      status = state_status row.state;
      start = row.start;
      end = row.end;
      exit = state_exit row.state;
      metrics = row.metrics;
    }

-- ---- Of the partitions of a step, by the work items of the step in the job execution

-- whether a work item is busy
abbrev pub is_busy : WorkState → Bool
is_busy Busy = true
is_busy (Over outcome exit) = false

-- whether a work item is FAILED
abbrev pub is_failed_outcome : WorkOutcome → Bool
is_failed_outcome CameFailed = true
is_failed_outcome CameCompleted = false
is_failed_outcome CameStopped = false

abbrev pub is_failed : WorkState → Bool
is_failed Busy = false
is_failed (Over outcome exit) = is_failed_outcome outcome

-- whether a work item is STOPPED
abbrev pub is_stopped_outcome : WorkOutcome → Bool
is_stopped_outcome CameStopped = true
is_stopped_outcome CameCompleted = false
is_stopped_outcome CameFailed = false

abbrev pub is_stopped : WorkState → Bool
is_stopped Busy = false
is_stopped (Over outcome exit) = is_stopped_outcome outcome

-- a partition of a step is left if it is neither kept by the plan nor handed out
abbrev pub is_left : Plan → List ℕ → List WorkRow → ℕ → Bool
is_left plan step items p = not (is_kept plan (key_of step p)) && not (list_any (λ row. is_at p row.partition) items)

-- whether a partition of so many is left
abbrev pub any_left : Plan → List ℕ → List WorkRow → Option ℕ → Bool
any_left plan step items None = false
any_left plan step items (Some n) = list_any (is_left plan step items) (numbers_to n)

-- the batch status of a partitioned step: STARTED while a partition is busy, or one is left and the job
-- execution is unfinished; then FAILED if a partition is FAILED, else STOPPED if one is STOPPED or left, else
-- COMPLETED
abbrev pub status_of_partitions : Bool → Bool → List WorkRow → BatchStatus
status_of_partitions unfinished left items =
    if list_any (λ row. is_busy row.state) items || (left && unfinished) then Started
    else (if list_any (λ row. is_failed row.state) items then Failed
    else (if left || list_any (λ row. is_stopped row.state) items then Stopped else Completed))

-- a value of a step execution that is there only when it is not STARTED
abbrev pub once_over : {X : Type 0} → BatchStatus → Option X → Option X
once_over Started shown = None
once_over Starting shown = shown
once_over Stopping shown = shown
once_over Stopped shown = shown
once_over Failed shown = shown
once_over Completed shown = shown
once_over Abandoned shown = shown

-- whether one operation is no later than another: work items that did not end are before all others
abbrev pub ended_by : Option ℕ → Option ℕ → Bool
ended_by None later = true
ended_by (Some m) None = false
ended_by (Some m) (Some n) = nat_le m n

-- the work item that the latest operation ended
abbrev pub last_ended : List WorkRow → Option WorkRow
last_ended items = find (λ row. list_all (λ other. ended_by other.ended row.ended) items) items

-- the end: that of the work item that ended last, or that of the job execution if a partition is left
abbrev pub end_of_partitions : Bool → List WorkRow → Option ℕ → Option ℕ
end_of_partitions left items end = if left then end else option_and_then (λ row. row.end) (last_ended items)

-- the step execution of a partitioned step's work items. It has this status. When it is not STARTED, it has
-- this end, and the status's name as the exit status, whatever exit status a partition was given. It has the
-- number and the start of the first work item, and the sums of all metrics
abbrev pub step_of_partitions : BatchStatus → Option ℕ → List WorkRow → WorkRow → StepExecution
step_of_partitions status end items first =
    record {
      work = first.work;
      execution = first.execution;
      step = first.element;
      status = status;
      start = first.start;
      end = once_over status end;
      exit = once_over status (Some (status_name status));
      metrics = sum_of_metrics (map (λ row. row.metrics) items);
    }

-- the step execution of a partitioned step's work items in a job execution; `left` says whether a partition
-- is left
abbrev pub shown_partitions : ExecutionRow → Bool → List WorkRow → WorkRow → StepExecution
shown_partitions owner left items first =
    step_of_partitions (status_of_partitions (is_unfinished (row_status owner)) left items) (end_of_partitions left items owner.end) items first

-- ---- Of a job execution

-- the work items of the same step
abbrev pub same_step : List WorkRow → WorkRow → List WorkRow
same_step works row = filter (λ other. bytes_eq other.element row.element) works

-- whether a work item is the first of these
abbrev pub is_first : List WorkRow → WorkRow → Bool
is_first [] row = false
is_first (first ∷ rest) row = first.work == row.work

-- the step execution of a step's partitions, at the first of their work items
abbrev pub partitions_shown : ExecutionRow → Option ℕ → List WorkRow → WorkRow → Option StepExecution
partitions_shown owner partitions items row =
    if is_first items row
    then Some (shown_partitions owner (any_left owner.plan row.element items partitions) items row)
    else None

-- the step execution, unless the work is a decision
abbrev pub if_step : WorkKind → Option StepExecution → Option StepExecution
if_step Batchlet step = step
if_step Chunk step = step
if_step Decision step = None

-- the step execution that begins with a work item of a job execution of this job. Each work item of a step
-- that is not partitioned begins one, and so does the first one of a partitioned step
abbrev pub step_by_partition : Option JobTree → ExecutionRow → List WorkRow → WorkRow → Option ℕ → Option StepExecution
step_by_partition job owner works row None = Some (shown_step row)
step_by_partition job owner works row (Some p) =
    partitions_shown owner (partitions_of_job job (work_key row)) (same_step works row) row

abbrev pub step_execution : Option JobTree → ExecutionRow → List WorkRow → WorkRow → Option StepExecution
step_execution job owner works row = if_step row.kind (step_by_partition job owner works row row.partition)

-- the work items of a job execution
abbrev pub works_of : Rows → ℕ → List WorkRow
works_of r x = filter (λ row. row.execution == x) r.works

-- the step executions of a job execution, in the order of their first work items
abbrev pub step_executions : Rows → ExecutionRow → List StepExecution
step_executions r owner =
    filter_map (step_execution (job_named r.catalogue owner.job) owner (works_of r owner.execution)) (works_of r owner.execution)
