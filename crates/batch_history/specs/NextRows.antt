-- The rows after one more operation: the new ones, the changed job execution and work item, and the removed
-- ones.
use Rattle.std.specs.Prelude.{ℕ, ◌+◌, ◌==◌, ◌||◌, Bool, false, Option, Some, None, List, [], ◌∷◌, ◌++◌, find}
use Rattle.batch_history.specs.Checkpoints.{InstanceStep, instance_step_by, is_same_step, checkpoint_after}
use Rattle.batch_history.specs.Lists.{change_first, is_at}
use Rattle.batch_history.specs.Moments.{first_moment}
use Rattle.batch_history.specs.Operations.{taken_up, stop_request, abandonment, purged_by}
use Rattle.batch_history.specs.Replies.{instance_in, is_execution, restart_plan}
use Rattle.batch_history.specs.Restarts.{first_plan}
use Rattle.batch_history.specs.Rows.{Rows, existing}
use Rattle.batch_history.specs.Statuses.{batch_status, exit_status, is_finished}
use Rattle.batch_history.specs.Walks.{job_named, walk_value}
use Rattle.batch_history.specs.Works.{is_work, busy_work, exit_or_name, execution_of_operation}
use Rattle.batch_history.specs.declared.call.Call.{Call}
use Rattle.batch_history.specs.declared.call.Call.TheVariants.{Start, Restart, Stop, Abandon, Claim, Checkpoint, Finish, Lose, Purge}
use Rattle.batch_history.specs.declared.call.Entry.{Entry}
use Rattle.batch_history.specs.declared.call.Reply.{Reply}
use Rattle.batch_history.specs.declared.call.Reply.TheVariants.{Execution, Work, Closed, Nothing, Done, Go, StopAsked}
use Rattle.batch_history.specs.declared.rows.ExecutionRow.{ExecutionRow}
use Rattle.batch_history.specs.declared.rows.JobInstance.{JobInstance}
use Rattle.batch_history.specs.declared.rows.LastNumbers.{LastNumbers}
use Rattle.batch_history.specs.declared.rows.WorkRow.{WorkRow}
use Rattle.batch_history.specs.declared.rows.WorkState.TheVariants.{Over}
use Rattle.batch_ids.specs.Metrics.{added, zero_step}
use Rattle.batch_ids.specs.Parameters.{Pair}
use Rattle.batch_ids.specs.declared.metric_step.MetricStep.{MetricStep}
use Rattle.batch_ids.specs.declared.status.BatchStatus.TheVariants.{Starting}
use Rattle.batch_ids.specs.declared.status.WorkOutcome.{WorkOutcome}
use Rattle.batch_ids.specs.declared.status.WorkOutcome.TheVariants.{Failed}
use Rattle.walk_rules.specs.declared.facts.Value.{Value}
use Rattle.job_plans.specs.declared.plan.Plan.{Plan}
use Rattle.jsl_model.specs.Jobs.{JobTree}

-- ---- Job instances and work items

-- the job instances after a call; `n` is the next number
abbrev pub instances_after : ℕ → Call → List JobInstance → List JobInstance
instances_after n (Start job parameters) rows = rows ++ record { instance = n; job = job } ∷ []
instances_after n (Restart y parameters) rows = rows
instances_after n (Stop y) rows = rows
instances_after n (Abandon y) rows = rows
instances_after n Claim rows = rows
instances_after n (Checkpoint w mark step) rows = rows
instances_after n (Finish w outcome exit step) rows = rows
instances_after n (Lose w) rows = rows
instances_after n (Purge i) rows = rows

-- a work item with this metric step added to its metrics
abbrev pub reported : MetricStep → WorkRow → WorkRow
reported step row = record row { metrics = added row.metrics step }

-- a work item that the operation of this number ended
abbrev pub over_as : WorkOutcome → List ℕ → MetricStep → ℕ → ℕ → WorkRow → WorkRow
over_as outcome exit step at n row = record (reported step row) { state = Over outcome exit; end = Some at; ended = Some n }

-- a work item that is over, with the given exit status, or else the outcome's name
abbrev pub over : WorkOutcome → Option (List ℕ) → MetricStep → ℕ → ℕ → WorkRow → WorkRow
over outcome exit step at n = over_as outcome (exit_or_name outcome exit) step at n

-- the work items with the one that a reply hands out to a session
abbrev pub with_handed_out : ℕ → ℕ → Reply → List WorkRow → List WorkRow
with_handed_out who at (Work item) rows = rows ++ busy_work who at item ∷ []
with_handed_out who at (Execution x) rows = rows
with_handed_out who at (Closed x) rows = rows
with_handed_out who at Nothing rows = rows
with_handed_out who at Done rows = rows
with_handed_out who at Go rows = rows
with_handed_out who at StopAsked rows = rows

-- the work items after operation n
abbrev pub works_after : ℕ → ℕ → ℕ → Call → Reply → List WorkRow → List WorkRow
works_after n who at (Start job parameters) reply rows = rows
works_after n who at (Restart y parameters) reply rows = rows
works_after n who at (Stop y) reply rows = rows
works_after n who at (Abandon y) reply rows = rows
works_after n who at Claim reply rows = with_handed_out who at reply rows
works_after n who at (Checkpoint w mark step) reply rows = change_first (is_work w) (reported step) rows
works_after n who at (Finish w outcome exit step) reply rows = change_first (is_work w) (over outcome exit step at n) rows
works_after n who at (Lose w) reply rows = change_first (is_work w) (over Failed None zero_step at n) rows
works_after n who at (Purge i) reply rows = rows

-- ---- Job executions

-- the row of a job execution that was just made
abbrev pub fresh_row : ℕ → ℕ → ℕ → List ℕ → List Pair → Plan → ExecutionRow
fresh_row x instance at job parameters plan =
    record {
      execution = x;
      instance = instance;
      job = job;
      parameters = parameters;
      plan = plan;
      stop = false;
      abandoned = false;
      bare = Starting;
      create = at;
      start = None;
      end = None;
      exit = None;
      updated = at;
    }

-- the row of a job execution that a Restart of an earlier one made
abbrev pub again_row : Rows → ℕ → ℕ → List Pair → Option ExecutionRow → ExecutionRow
again_row r x at parameters None = fresh_row x 0 at [] parameters (first_plan None)
again_row r x at parameters (Some row) = fresh_row x row.instance at row.job parameters (restart_plan r row)

-- the changed row, with this start, these marks and this value of the walk
abbrev pub renewed : Bool → Bool → Option ℕ → Value → ℕ → ExecutionRow → ExecutionRow
renewed stop abandoned start value at row =
    record {
      execution = row.execution;
      instance = row.instance;
      job = row.job;
      parameters = row.parameters;
      plan = row.plan;
      stop = stop;
      abandoned = abandoned;
      bare = batch_status stop start value;
      create = row.create;
      start = start;
      end = first_moment row.end (is_finished (batch_status stop start value)) at;
      exit = exit_status stop start value;
      updated = at;
    }

-- the effect of an operation on its job execution: it asks it to stop, abandons it, or takes it up
pub record Effect : Type 0 where
  pub asks : Bool
  pub gives_up : Bool
  pub takes : Bool

-- the effect of a call with this reply on job execution x
abbrev pub effect_on : ℕ → Call → Reply → Effect
effect_on x call reply = record { asks = is_at x (stop_request call); gives_up = is_at x (abandonment call); takes = is_at x (taken_up call reply) }

-- the row after an operation on its job execution; `value` is that of the walk after it
abbrev pub refreshed : Effect → Value → ℕ → ExecutionRow → ExecutionRow
refreshed effect value at row =
    renewed (row.stop || effect.asks) (row.abandoned || effect.gives_up) (first_moment row.start effect.takes at) value at row

-- the row after an operation on its job execution; `works` are the work items after it
abbrev pub refreshed_by : List JobTree → List WorkRow → ℕ → Call → Reply → ExecutionRow → ExecutionRow
refreshed_by catalogue works at call reply row =
    refreshed (effect_on row.execution call reply) (walk_value catalogue works row.execution row.job row.plan) at row

-- the job executions with the changed row of the operation's job execution, if it is on one
abbrev pub refreshed_at : List JobTree → List WorkRow → ℕ → Call → Reply → Option ℕ → List ExecutionRow → List ExecutionRow
refreshed_at catalogue works at call reply None rows = rows
refreshed_at catalogue works at call reply (Some x) rows = change_first (is_execution x) (refreshed_by catalogue works at call reply) rows

-- the job executions after an operation; `works` are the work items after it
abbrev pub executions_after : Rows → List WorkRow → ℕ → Call → Reply → List ExecutionRow
executions_after r works at (Start job parameters) reply =
    r.executions ++ fresh_row (r.last.execution + 1) (r.last.instance + 1) at job parameters (first_plan (job_named r.catalogue job)) ∷ []
executions_after r works at (Restart y parameters) reply =
    r.executions ++ again_row r (r.last.execution + 1) at parameters (find (is_execution y) r.executions) ∷ []
executions_after r works at (Stop y) reply = refreshed_at r.catalogue works at (Stop y) reply (Some y) r.executions
executions_after r works at (Abandon y) reply = refreshed_at r.catalogue works at (Abandon y) reply (Some y) r.executions
executions_after r works at Claim reply = refreshed_at r.catalogue works at Claim reply (execution_of_operation r.works Claim reply) r.executions
executions_after r works at (Checkpoint w mark step) reply =
    refreshed_at r.catalogue works at (Checkpoint w mark step) reply (execution_of_operation r.works (Checkpoint w mark step) reply) r.executions
executions_after r works at (Finish w outcome exit step) reply =
    refreshed_at r.catalogue works at (Finish w outcome exit step) reply (execution_of_operation r.works (Finish w outcome exit step) reply) r.executions
executions_after r works at (Lose w) reply = refreshed_at r.catalogue works at (Lose w) reply (execution_of_operation r.works (Lose w) reply) r.executions
executions_after r works at (Purge i) reply = r.executions

-- the step of a work item in its job instance, by the rows
abbrev pub place_in : Rows → ℕ → Option InstanceStep
place_in r w = instance_step_by (instance_in r.executions) (find (is_work w) r.works)

-- the last numbers after a claim with this reply
abbrev pub last_after_claim : Reply → LastNumbers → LastNumbers
last_after_claim (Work item) last = record last { work = last.work + 1 }
last_after_claim (Execution x) last = last
last_after_claim (Closed x) last = last
last_after_claim Nothing last = last
last_after_claim Done last = last
last_after_claim Go last = last
last_after_claim StopAsked last = last

-- the last numbers after a call with this reply
abbrev pub last_after : Call → Reply → LastNumbers → LastNumbers
last_after (Start job parameters) reply last = record last { instance = last.instance + 1; execution = last.execution + 1 }
last_after (Restart y parameters) reply last = record last { execution = last.execution + 1 }
last_after (Stop y) reply last = last
last_after (Abandon y) reply last = last
last_after Claim reply last = last_after_claim reply last
last_after (Checkpoint w mark step) reply last = last
last_after (Finish w outcome exit step) reply last = last
last_after (Lose w) reply last = last
last_after (Purge i) reply last = last

-- the rows after an operation, before it removes any
abbrev pub rows_with : Rows → Entry → Rows
rows_with r e =
    let works = works_after (r.count + 1) e.who e.at e.call e.reply r.works in
    record {
      catalogue = r.catalogue;
      count = r.count + 1;
      last = last_after e.call e.reply r.last;
      instances = instances_after (r.last.instance + 1) e.call r.instances;
      executions = executions_after r works e.at e.call e.reply;
      works = works;
      checkpoint = λ p. checkpoint_after (λ w. is_same_step p (place_in r w)) e.call (r.checkpoint p);
    }

-- the rows without a removed job instance
abbrev pub without : Option ℕ → Rows → Rows
without None r = r
without (Some i) r = existing (λ j. j == i) r

-- the rows after an operation
abbrev pub rows_after : Rows → Entry → Rows
rows_after r e = without (purged_by e.call) (rows_with r e)
