-- Work items, which make up step executions (Jakarta Batch 2.1, "StepExecution"). The w-th reply of work
-- hands out work item w. It is busy until a Finish or a Lose names it.
use Rattle.std.specs.Option.{option_map}
use Rattle.std.specs.Prelude.{ℕ, ◌≡◌, ◌≢◌, ◌+◌, ◌==◌, Bool, Option, Some, None, unwrap_or, List, [], ◌∷◌, ◌++◌, length, find, map, count_by, if◌then◌else◌}
use Rattle.batch_history.specs.Lists.{Each}
use Rattle.batch_history.specs.Operations.{claim_effects, Ending, Report, effects, taken_up, ends_work, counts_reported, hands_out_work}
use Rattle.batch_history.specs.declared.call.Call.{Call}
use Rattle.batch_history.specs.declared.call.Entry.{Entry}
use Rattle.batch_history.specs.declared.call.Reply.{Reply}
use Rattle.batch_history.specs.declared.call.WorkItem.{WorkItem}
use Rattle.batch_history.specs.declared.call.WorkKind.{WorkKind}
use Rattle.batch_history.specs.declared.call.WorkKind.TheVariants.{Batchlet, Chunk, Decision}
use Rattle.batch_history.specs.declared.call.WorkTask.{WorkTask}
use Rattle.batch_history.specs.declared.call.WorkTask.TheVariants.{Batchlet as BatchletTask, Chunk as ChunkTask, Decision as DecisionTask}
use Rattle.batch_history.specs.declared.rows.WorkRow.{WorkRow}
use Rattle.batch_history.specs.declared.rows.WorkState.{WorkState}
use Rattle.batch_history.specs.declared.rows.WorkState.TheVariants.{Busy, Over}
use Rattle.walk_rules.specs.declared.work_key.WorkKey.{WorkKey}
use Rattle.batch_ids.specs.Metrics.{zero_metrics, added}
use Rattle.batch_ids.specs.Statuses.{outcome_name}
use Rattle.batch_ids.specs.declared.metric_step.MetricStep.{MetricStep}
use Rattle.batch_ids.specs.declared.metrics.Metrics.{Metrics}
use Rattle.batch_ids.specs.declared.status.WorkOutcome.{WorkOutcome}
use Rattle.batch_ids.specs.declared.status.WorkOutcome.TheVariants.{Completed, Failed, Stopped}

-- the work key of a work item, its name inside its job execution: the step or decision, and the partition, 0
-- if it is not partitioned
abbrev pub work_key : WorkRow → WorkKey
work_key row = record { element = row.element; partition = unwrap_or row.partition 0 }

-- the work key of a work item as it is handed out
abbrev pub item_key : WorkItem → WorkKey
item_key item = record { element = item.element; partition = unwrap_or item.partition 0 }

-- two work items of one job execution have different work keys
abbrev pub Apart : WorkRow → WorkRow → Type 0
Apart r s = s.execution ≡ r.execution → work_key s ≢ work_key r

-- no two of these work items have one work key of one job execution
abbrev pub AllApart : List WorkRow → Type 0
AllApart [] = Unit {0}
AllApart (r ∷ rs) = Each (Apart r) rs × AllApart rs

-- whether it is the work item of this number
abbrev pub is_work : ℕ → WorkRow → Bool
is_work w row = row.work == w

-- the kind of a task
abbrev pub work_kind : WorkTask → WorkKind
work_kind (BatchletTask artifact) = Batchlet
work_kind (ChunkTask reader processor writer count checkpoint) = Chunk
work_kind (DecisionTask artifact) = Decision

-- a work item as it is handed out to this session, at this moment
abbrev pub busy_work : ℕ → ℕ → WorkItem → WorkRow
busy_work who at item =
    record {
      work = item.work;
      execution = item.execution;
      element = item.element;
      partition = item.partition;
      kind = work_kind item.task;
      claimer = who;
      state = Busy;
      start = at;
      end = None;
      ended = None;
      metrics = zero_metrics;
    }

-- the number of work items
abbrev pub work_item_count : List Entry → ℕ
work_item_count past = count_by (λ e. hands_out_work e.reply) past

-- a work item that is handed out under this number, to this session, at this moment
abbrev pub item_numbered : ℕ → ℕ → ℕ → Option WorkItem → List WorkRow
item_numbered w who at None = []
item_numbered w who at (Some item) = record (busy_work who at item) { work = w } ∷ []

-- the work item that a reply hands out
abbrev pub item_handed_out : ℕ → ℕ → ℕ → Reply → List WorkRow
item_handed_out w who at reply = item_numbered w who at (claim_effects reply).hands_out

-- the work items as they were handed out, in order
abbrev pub items_handed_out : List Entry → List WorkRow
items_handed_out [] = []
items_handed_out (e ∷ older) = items_handed_out older ++ item_handed_out (work_item_count older + 1) e.who e.at e.reply

-- the given exit status, or else the outcome's name
abbrev pub exit_or_name : WorkOutcome → Option (List ℕ) → List ℕ
exit_or_name outcome exit = unwrap_or exit (outcome_name outcome)

-- the entry that ends a work item, if there is one
abbrev pub ending_entry : List Entry → ℕ → Option Entry
ending_entry past w = find (λ e. ends_work w e.call) past

-- the number of the operation that ends a work item, if there is one
abbrev pub ending_operation : List Entry → ℕ → Option ℕ
ending_operation [] w = None
ending_operation (e ∷ older) w = if ends_work w e.call then Some (length older + 1) else ending_operation older w

-- the exit status of a work item that is COMPLETED
abbrev pub exit_if_completed : WorkOutcome → List ℕ → Option (List ℕ)
exit_if_completed Completed exit = Some exit
exit_if_completed Failed exit = None
exit_if_completed Stopped exit = None

abbrev pub completed_exit : WorkState → Option (List ℕ)
completed_exit Busy = None
completed_exit (Over outcome exit) = exit_if_completed outcome exit

-- the state of a work item by its end
abbrev pub state_ended : Option Ending → WorkState
state_ended None = Busy
state_ended (Some end) = Over end.outcome (exit_or_name end.outcome end.exit)

-- the state of a work item by a report of it
abbrev pub state_reported : Option Report → WorkState
state_reported None = Busy
state_reported (Some r) = state_ended r.end

-- the state of a work item by the call that ends it
abbrev pub state_by_call : Call → WorkState
state_by_call call = state_reported (effects call).reports

-- the state of a work item by the entry that ends it: without one it is busy
abbrev pub state_by_entry : Option Entry → WorkState
state_by_entry None = Busy
state_by_entry (Some e) = state_by_call e.call

-- the metrics with this metric step added, if there is one
abbrev pub with_counts : Option MetricStep → Metrics → Metrics
with_counts None metrics = metrics
with_counts (Some step) metrics = added metrics step

-- the metrics of work item w: the sums of all that is reported of it
abbrev pub metrics_of : List Entry → ℕ → Metrics
metrics_of [] w = zero_metrics
metrics_of (e ∷ older) w = with_counts (counts_reported w e.call) (metrics_of older w)

-- the progress of a work item after it was handed out
pub record Progress : Type 0 where
  pub state : WorkState
  pub end : Option ℕ
  pub ended : Option ℕ
  pub metrics : Metrics

-- the progress of a work item by the entry that ends it, that entry's number, and its metrics
abbrev pub progress_by : Option Entry → Option ℕ → Metrics → Progress
progress_by finish number metrics =
    record { state = state_by_entry finish; end = option_map (λ e. e.at) finish; ended = number; metrics = metrics }

-- the progress of work item w
abbrev pub progress_of : List Entry → ℕ → Progress
progress_of past w = progress_by (ending_entry past w) (ending_operation past w) (metrics_of past w)

-- a work item with the progress of its number
abbrev pub with_progress_of : (ℕ → Progress) → WorkRow → WorkRow
with_progress_of progress row =
    record row {
      state = (progress row.work).state;
      end = (progress row.work).end;
      ended = (progress row.work).ended;
      metrics = (progress row.work).metrics;
    }

-- the work items, in order, each with its progress
abbrev pub work_items : List Entry → List WorkRow
work_items past = map (with_progress_of (progress_of past)) (items_handed_out past)

-- the job execution of a work item
abbrev pub execution_of_work : List WorkRow → ℕ → Option ℕ
execution_of_work works w = option_map (λ row. row.execution) (find (is_work w) works)

-- this job execution if there is one, else the other
abbrev pub or_else : Option ℕ → Option ℕ → Option ℕ
or_else None other = other
or_else (Some x) other = Some x

-- the job execution of the reported work item, or else the other
abbrev pub reported_or : List WorkRow → Option Report → Option ℕ → Option ℕ
reported_or works None other = other
reported_or works (Some r) other = execution_of_work works r.work

-- the job execution that an operation is on, besides the one that it makes
abbrev pub execution_of_operation : List WorkRow → Call → Reply → Option ℕ
execution_of_operation works call reply =
    or_else (effects call).stops (or_else (effects call).abandons (reported_or works (effects call).reports (taken_up call reply)))
