-- The replies to calls after a history.
use Rattle.std.specs.List.{list_any}
use Rattle.std.specs.Option.{option_map}
use Rattle.std.specs.Prelude.{Bool, true, false, ℕ, ◌+◌, ◌==◌, ◌&&◌, nat_lt, Option, Some, None, is_some, Result, Ok, Err, List, [], ◌∷◌, find, filter, if◌then◌else◌}
use Rattle.batch_history.specs.Rows.{History, Rows, rows}
unfoldable pub use Rattle.batch_history.specs.Rows.{is_execution, instance_in}
use Rattle.batch_history.specs.Lists.{is_at}
use Rattle.batch_history.specs.Restarts.{plan_by, restart_point}
use Rattle.batch_history.specs.Statuses.{is_finished}
use Rattle.batch_history.specs.Walks.{job_named, walk_value}
use Rattle.batch_history.specs.Works.{is_work}
use Rattle.batch_history.specs.declared.call.Call.{Call}
use Rattle.batch_history.specs.declared.call.Call.TheVariants.{Start, Restart, Stop, Abandon, Claim, Checkpoint, Finish, Lose, Purge}
use Rattle.batch_history.specs.declared.call.Reply.{Reply}
use Rattle.batch_history.specs.declared.call.Reply.TheVariants.{Execution, Work, Closed, Nothing, Done, Go, StopAsked, Execution as IsExecution}
use Rattle.batch_history.specs.declared.call.WorkItem.{WorkItem}
use Rattle.batch_history.specs.declared.call.WorkKind.{WorkKind}
use Rattle.batch_history.specs.declared.call.WorkKind.TheVariants.{Batchlet as BatchletKind, Chunk as ChunkKind, Decision as DecisionKind}
use Rattle.batch_history.specs.declared.call.WorkTask.{WorkTask}
use Rattle.batch_history.specs.declared.call.WorkTask.TheVariants.{Batchlet as BatchletTask, Chunk as ChunkTask, Decision as DecisionTask}
use Rattle.batch_history.specs.declared.rows.ExecutionRow.{ExecutionRow}
use Rattle.batch_history.specs.declared.rows.WorkRow.{WorkRow}
use Rattle.batch_history.specs.declared.rows.WorkState.{WorkState}
use Rattle.batch_history.specs.declared.rows.WorkState.TheVariants.{Busy, Over}
use Rattle.batch_ids.specs.Statuses.{is_unfinished}
use Rattle.batch_ids.specs.declared.refusal.Refusal.{Refusal}
use Rattle.batch_ids.specs.declared.refusal.Refusal.TheVariants.{JobStartException, NoSuchJobInstanceException, NoSuchJobExecutionException, JobExecutionNotRunningException, JobExecutionIsRunningException, JobExecutionAlreadyCompleteException, JobExecutionNotMostRecentException, JobRestartException, NoSuchWork, WorkNotRunning, NotClaimer, NotStopping, WrongOutcome, RepositoryFull}
use Rattle.batch_ids.specs.declared.status.BatchStatus.{BatchStatus}
use Rattle.batch_ids.specs.declared.status.BatchStatus.TheVariants.{Starting, Started, Stopping, Stopped as IsStopped, Failed as IsFailed, Completed as IsCompleted, Abandoned}
use Rattle.batch_ids.specs.declared.status.WorkOutcome.{WorkOutcome}
use Rattle.batch_ids.specs.declared.status.WorkOutcome.TheVariants.{Completed, Failed, Stopped}
use Rattle.job_plans.specs.Runnables.{all_leaves, partitions_with, runnable_with}
use Rattle.walk_rules.specs.declared.work_key.WorkKey.{WorkKey}
use Rattle.walk_rules.specs.declared.facts.Value.{Value}
use Rattle.walk_rules.specs.declared.facts.Value.TheVariants.{Open, Done as IsDone, Ended}
use Rattle.job_plans.specs.declared.plan.Plan.{Plan}
use Rattle.job_plans.specs.declared.runnable.Runnable.{Runnable}
use Rattle.job_plans.specs.declared.runnable.Runnable.TheVariants.{Step as RunsStep, Decision as RunsDecision}
use Rattle.jsl_model.specs.Jobs.{JobTree}
use Rattle.jsl_model.specs.declared.element.Task.TheVariants.{Batchlet, Chunk}

-- whether a reply is Nothing, which makes no entry
abbrev pub is_nothing : Reply → Bool
is_nothing Nothing = true
is_nothing (Execution x) = false
is_nothing (Work item) = false
is_nothing (Closed x) = false
is_nothing Done = false
is_nothing Go = false
is_nothing StopAsked = false

-- the first work key that may be run now, in written order and by rising partition
abbrev pub first_ready : Value → Option WorkKey
first_ready (Open (key ∷ ready) busy) = Some key
first_ready (Open [] busy) = None
first_ready (IsDone exit) = None
first_ready (Ended status exit point) = None

-- the batch status of a job execution: ABANDONED after an abandonment
abbrev pub row_status : ExecutionRow → BatchStatus
row_status row = if row.abandoned then Abandoned else row.bare

abbrev pub walk_in_rows : Rows → ExecutionRow → Value
walk_in_rows r row = walk_value r.catalogue r.works row.execution row.job row.plan

-- whether a job execution of this status and walk has something to do: it is STARTING, or STARTED with a
-- ready element
abbrev pub has_something_by : BatchStatus → Value → Bool
has_something_by Starting value = true
has_something_by Started value = is_some (first_ready value)
has_something_by Stopping value = false
has_something_by IsStopped value = false
has_something_by IsFailed value = false
has_something_by IsCompleted value = false
has_something_by Abandoned value = false

abbrev pub has_something : Rows → ExecutionRow → Bool
has_something r row = has_something_by (row_status row) (walk_in_rows r row)

-- a reply that makes an entry, or `RepositoryFull` if the history is full
abbrev pub accepted : ℕ → ℕ → Reply → Result Reply Refusal
accepted limit count reply = if nat_lt count limit then Ok reply else Err RepositoryFull

-- the refusal if there is one, else the reply
abbrev pub unless : Option Refusal → Result Reply Refusal → Result Reply Refusal
unless None reply = reply
unless (Some refusal) reply = Err refusal

-- the task for a worker, with a chunk's checkpoint
abbrev pub work_task : Option (List ℕ) → Option Runnable → WorkTask
work_task mark (Some (RunsStep (Batchlet artifact))) = BatchletTask artifact
work_task mark (Some (RunsStep (Chunk reader processor writer count))) = ChunkTask reader processor writer count mark
work_task mark (Some (RunsDecision artifact)) = DecisionTask artifact
work_task mark None = DecisionTask []

-- the task or artifact of a job's work key
abbrev pub runnable_of_job : Option JobTree → WorkKey → Option Runnable
runnable_of_job None key = None
runnable_of_job (Some job) key = runnable_with (all_leaves job.elements) key

-- the number of partitions of a work key's step, if it is partitioned
abbrev pub partitions_of_job : Option JobTree → WorkKey → Option ℕ
partitions_of_job None key = None
partitions_of_job (Some job) key = partitions_with (all_leaves job.elements) key

-- the partition number that a work item has: `p`, if its step is partitioned
abbrev pub partition_named : ℕ → Option ℕ → Option ℕ
partition_named p partitions = option_map (λ n. p) partitions

-- the next work item, of this work key of a job execution
abbrev pub next_work_item : Rows → ExecutionRow → WorkKey → WorkItem
next_work_item r row key =
    record {
      work = r.last.work + 1;
      execution = row.execution;
      element = key.element;
      partition = partition_named key.partition (partitions_of_job (job_named r.catalogue row.job) key);
      task =
          work_task (r.checkpoint record { instance = row.instance; step = key })
          (runnable_of_job (job_named r.catalogue row.job) key);
    }

-- a claim of a job execution hands out its first ready element, or closes it if it has none
abbrev pub claim_reply : Rows → ExecutionRow → Option WorkKey → Reply
claim_reply r row (Some key) = Work (next_work_item r row key)
claim_reply r row None = Closed row.execution

abbrev pub reply_to_claim : ℕ → Rows → Option ExecutionRow → Result Reply Refusal
reply_to_claim limit r None = Ok Nothing
reply_to_claim limit r (Some row) = accepted limit r.count (claim_reply r row (first_ready (walk_in_rows r row)))

-- ---- Restarts (Jakarta Batch 2.1, "JobOperator", restart)

-- whether `other` is a later job execution of the job instance of `row`
abbrev pub is_later_than : ExecutionRow → ExecutionRow → Bool
is_later_than row other = other.instance == row.instance && nat_lt row.execution other.execution

-- whether a job may be restarted
abbrev pub is_restartable : Option JobTree → Bool
is_restartable None = false
is_restartable (Some job) = job.restartable

-- the refusal to restart a job execution of this status. A COMPLETED one is at its end. Only a STOPPED or
-- FAILED one of a restartable job goes on
abbrev pub refusal_by_status : Bool → BatchStatus → Option Refusal
refusal_by_status restartable IsCompleted = Some JobExecutionAlreadyCompleteException
refusal_by_status restartable IsStopped = if restartable then None else Some JobRestartException
refusal_by_status restartable IsFailed = if restartable then None else Some JobRestartException
refusal_by_status restartable Starting = Some JobRestartException
refusal_by_status restartable Started = Some JobRestartException
refusal_by_status restartable Stopping = Some JobRestartException
refusal_by_status restartable Abandoned = Some JobRestartException

-- the refusal to restart a job execution: it must be the most recent of its job instance
abbrev pub restart_refusal : Rows → ExecutionRow → Option Refusal
restart_refusal r row =
    if list_any (is_later_than row) r.executions then Some JobExecutionNotMostRecentException
    else refusal_by_status (is_restartable (job_named r.catalogue row.job)) (row_status row)

-- the work items of a job instance
abbrev pub works_of_instance : Rows → ℕ → List WorkRow
works_of_instance r i = filter (λ work. is_at i (instance_in r.executions work.execution)) r.works

-- the plan of the restart of a job execution: all job executions of its job instance are earlier than the next one
abbrev pub restart_plan : Rows → ExecutionRow → Plan
restart_plan r row =
    plan_by (restart_point (is_some row.start) (walk_in_rows r row) row.plan.from) (works_of_instance r row.instance)
    (job_named r.catalogue row.job)

-- the reply to a restart
abbrev pub reply_to_restart : ℕ → Rows → Option ExecutionRow → Result Reply Refusal
reply_to_restart limit r None = Err NoSuchJobExecutionException
reply_to_restart limit r (Some row) = unless (restart_refusal r row) (accepted limit r.count (IsExecution (r.last.execution + 1)))

-- a stop is accepted while the job execution is unfinished
abbrev pub reply_to_stop : ℕ → ℕ → Option ExecutionRow → Result Reply Refusal
reply_to_stop limit count None = Err NoSuchJobExecutionException
reply_to_stop limit count (Some row) =
    if is_finished (row_status row) then Err JobExecutionNotRunningException else accepted limit count Done

-- whether a job execution of this job instance is unfinished
abbrev pub is_running_in : ℕ → ExecutionRow → Bool
is_running_in i row = row.instance == i && is_unfinished (row_status row)

-- an abandonment is accepted if no job execution of the job instance is unfinished
abbrev pub reply_to_abandon : ℕ → Rows → Option ExecutionRow → Result Reply Refusal
reply_to_abandon limit r None = Err NoSuchJobExecutionException
reply_to_abandon limit r (Some row) =
    if list_any (is_running_in row.instance) r.executions then Err JobExecutionIsRunningException else accepted limit r.count Done

-- whether a job execution was asked to stop
abbrev pub is_stop_requested : Option ExecutionRow → Bool
is_stop_requested None = false
is_stop_requested (Some row) = row.stop

abbrev pub stop_requested_of : Rows → ℕ → Bool
stop_requested_of r x = is_stop_requested (find (is_execution x) r.executions)

-- the refusal of a session's report of a work item: it must be busy, and the session's own
abbrev pub report_refusal : ℕ → ℕ → WorkState → Option Refusal
report_refusal who claimer (Over outcome exit) = Some WorkNotRunning
report_refusal who claimer Busy = if claimer == who then None else Some NotClaimer

-- a checkpoint of a chunk is saved, and the reply says whether a stop was asked for
abbrev pub go_or_stop : Bool → Reply
go_or_stop true = StopAsked
go_or_stop false = Go

abbrev pub reply_to_kept_checkpoint : ℕ → ℕ → Bool → WorkKind → Result Reply Refusal
reply_to_kept_checkpoint limit count stop ChunkKind = accepted limit count (go_or_stop stop)
reply_to_kept_checkpoint limit count stop BatchletKind = Err WrongOutcome
reply_to_kept_checkpoint limit count stop DecisionKind = Err WrongOutcome

abbrev pub reply_to_checkpoint : ℕ → Rows → ℕ → Option WorkRow → Result Reply Refusal
reply_to_checkpoint limit r who None = Err NoSuchWork
reply_to_checkpoint limit r who (Some row) =
    unless (report_refusal who row.claimer row.state) (reply_to_kept_checkpoint limit r.count (stop_requested_of r row.execution) row.kind)

-- a step may be STOPPED only if a stop of its job execution was accepted
abbrev pub reply_to_stopped_step : ℕ → ℕ → Bool → Result Reply Refusal
reply_to_stopped_step limit count true = accepted limit count Done
reply_to_stopped_step limit count false = Err NotStopping

-- a decision is never STOPPED
abbrev pub reply_to_stopped_work : ℕ → ℕ → Bool → WorkKind → Result Reply Refusal
reply_to_stopped_work limit count stop DecisionKind = Err WrongOutcome
reply_to_stopped_work limit count stop BatchletKind = reply_to_stopped_step limit count stop
reply_to_stopped_work limit count stop ChunkKind = reply_to_stopped_step limit count stop

-- the end of a work item by the session that claimed it
abbrev pub reply_to_end : ℕ → ℕ → Bool → WorkKind → WorkOutcome → Result Reply Refusal
reply_to_end limit count stop kind Stopped = reply_to_stopped_work limit count stop kind
reply_to_end limit count stop kind Completed = accepted limit count Done
reply_to_end limit count stop kind Failed = accepted limit count Done

abbrev pub reply_to_finish : ℕ → Rows → ℕ → WorkOutcome → Option WorkRow → Result Reply Refusal
reply_to_finish limit r who outcome None = Err NoSuchWork
reply_to_finish limit r who outcome (Some row) =
    unless (report_refusal who row.claimer row.state) (reply_to_end limit r.count (stop_requested_of r row.execution) row.kind outcome)

-- any session may report that a busy work item is lost
abbrev pub loss_refusal : WorkState → Option Refusal
loss_refusal Busy = None
loss_refusal (Over outcome exit) = Some WorkNotRunning

abbrev pub reply_to_loss : ℕ → ℕ → Option WorkRow → Result Reply Refusal
reply_to_loss limit count None = Err NoSuchWork
reply_to_loss limit count (Some row) = unless (loss_refusal row.state) (accepted limit count Done)

-- whether the job instance of this number exists
abbrev pub is_instance_there : ℕ → Rows → Bool
is_instance_there i r = list_any (λ row. row.instance == i) r.instances

-- a purge is accepted if no job execution of the job instance is unfinished
abbrev pub reply_to_purge : ℕ → Rows → ℕ → Result Reply Refusal
reply_to_purge limit r i =
    if is_instance_there i r
    then (if list_any (is_running_in i) r.executions then Err JobExecutionIsRunningException else accepted limit r.count Done)
    else Err NoSuchJobInstanceException

-- the reply to a call by these rows
abbrev pub reply_by : ℕ → Rows → ℕ → Call → Result Reply Refusal
reply_by limit r who (Start job parameters) =
    if is_some (job_named r.catalogue job) then accepted limit r.count (IsExecution (r.last.execution + 1)) else Err JobStartException
reply_by limit r who (Restart x parameters) =
    reply_to_restart limit r (find (is_execution x) r.executions)
reply_by limit r who (Stop x) = reply_to_stop limit r.count (find (is_execution x) r.executions)
reply_by limit r who (Abandon x) = reply_to_abandon limit r (find (is_execution x) r.executions)
reply_by limit r who Claim = reply_to_claim limit r (find (has_something r) r.executions)
reply_by limit r who (Checkpoint w mark step) = reply_to_checkpoint limit r who (find (is_work w) r.works)
reply_by limit r who (Finish w outcome exit step) = reply_to_finish limit r who outcome (find (is_work w) r.works)
reply_by limit r who (Lose w) = reply_to_loss limit r.count (find (is_work w) r.works)
reply_by limit r who (Purge i) = reply_to_purge limit r i

-- THE REPLY: the reply to a call after a history
abbrev pub reply : ℕ → History → ℕ → Call → Result Reply Refusal
reply limit h who call = reply_by limit (rows h) who call
