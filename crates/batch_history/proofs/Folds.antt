-- A device of proofs: the rows of a past, folded along it. In every legal history they are what the searches find.
use Rattle.std.specs.Option.{option_map}
use Rattle.std.specs.Prelude.{ℕ, ◌+◌, ◌==◌, ◌||◌, Bool, false, Option, Some, None, is_some, List, [], ◌∷◌, ◌++◌, length, find, filter, if◌then◌else◌, map}
use Rattle.batch_history.specs.Checkpoints.{InstanceStep, instance_step_by, is_same_step, checkpoint_after}
use Rattle.batch_history.specs.Executions.{Made}
use Rattle.batch_history.specs.Lists.{change_first, is_at}
use Rattle.batch_history.specs.Moments.{first_moment}
use Rattle.batch_history.specs.NextRows.{instances_after, works_after}
use Rattle.batch_history.specs.Operations.{taken_up, stop_request, abandonment}
use Rattle.batch_history.specs.Rows.{Rows, execution_row_with}
use Rattle.batch_history.specs.Statuses.{batch_status, is_finished}
use Rattle.batch_history.specs.Restarts.{first_plan, plan_by, restart_point}
use Rattle.batch_history.specs.Walks.{job_named, walk_value}
use Rattle.batch_history.specs.Works.{is_work, busy_work, exit_or_name, execution_of_operation}
use Rattle.batch_history.specs.declared.call.Call.{Call}
use Rattle.batch_history.specs.declared.call.Call.TheVariants.{Start, Restart, Stop, Abandon, Claim, Checkpoint, Finish, Lose, Purge}
use Rattle.batch_history.specs.declared.call.Entry.{Entry}
use Rattle.batch_history.specs.declared.call.Reply.{Reply}
use Rattle.batch_history.specs.declared.call.Reply.TheVariants.{Execution, Work, Closed, Nothing, Done, Go, StopAsked}
use Rattle.batch_history.specs.declared.rows.ExecutionRow.{ExecutionRow}
use Rattle.batch_history.specs.declared.rows.JobInstance.{JobInstance}
use Rattle.batch_history.specs.declared.rows.LastNumbers.{LastNumbers}
use Rattle.batch_history.specs.declared.rows.WorkRow.{WorkRow}
use Rattle.batch_history.specs.declared.rows.WorkState.TheVariants.{Over}
use Rattle.batch_ids.specs.Metrics.{added, zero_step}
use Rattle.batch_ids.specs.Parameters.{Pair}
use Rattle.batch_ids.specs.declared.metric_step.MetricStep.{MetricStep}
use Rattle.batch_ids.specs.declared.status.BatchStatus.{BatchStatus}
use Rattle.batch_ids.specs.declared.status.WorkOutcome.{WorkOutcome}
use Rattle.batch_ids.specs.declared.status.WorkOutcome.TheVariants.{Failed}
use Rattle.walk_rules.specs.declared.facts.Value.{Value}
use Rattle.job_plans.specs.declared.plan.Plan.{Plan}
use Rattle.jsl_model.specs.Jobs.{JobTree}

-- the job instances of a past
abbrev pub instances_of : List Entry → List JobInstance
instances_of [] = []
instances_of (e ∷ older) = instances_after (length (instances_of older) + 1) e.call (instances_of older)

abbrev pub is_made : ℕ → Made → Bool
is_made x m = m.execution == x

-- a restart has the job instance and the job of the job execution that it names
abbrev pub remade : ℕ → List Pair → ℕ → Option Made → Made
remade x parameters at None = record { execution = x; instance = 0; job = []; parameters = parameters; create = at }
remade x parameters at (Some m) = record { execution = x; instance = m.instance; job = m.job; parameters = parameters; create = at }

abbrev pub made_after : List JobInstance → ℕ → Call → List Made → List Made
made_after instances at (Start job parameters) all =
    all ++ record { execution = length all + 1; instance = length instances + 1; job = job; parameters = parameters; create = at } ∷ []
made_after instances at (Restart y parameters) all = all ++ remade (length all + 1) parameters at (find (is_made y) all) ∷ []
made_after instances at (Stop y) all = all
made_after instances at (Abandon y) all = all
made_after instances at Claim all = all
made_after instances at (Checkpoint w mark step) all = all
made_after instances at (Finish w outcome exit step) all = all
made_after instances at (Lose w) all = all
made_after instances at (Purge i) all = all

-- the job executions of a past, as they were made
abbrev pub made : List Entry → List Made
made [] = []
made (e ∷ older) = made_after (instances_of older) e.at e.call (made older)

-- whether a call makes this job execution, where there are so many before it
abbrev pub makes : ℕ → ℕ → Call → Bool
makes count x (Start job parameters) = count + 1 == x
makes count x (Restart y parameters) = count + 1 == x
makes count x (Stop y) = false
makes count x (Abandon y) = false
makes count x Claim = false
makes count x (Checkpoint w mark step) = false
makes count x (Finish w outcome exit step) = false
makes count x (Lose w) = false
makes count x (Purge i) = false

-- the work items of a past
abbrev pub works_of : List Entry → List WorkRow
works_of [] = []
works_of (e ∷ older) = works_after (length older + 1) e.who e.at e.call e.reply (works_of older)

-- the job instance of a job execution
abbrev pub instance_made : List Made → ℕ → Option ℕ
instance_made all x = option_map (λ m. m.instance) (find (is_made x) all)

-- the step of a work item in its job instance
abbrev pub place_of : List Entry → ℕ → Option InstanceStep
place_of past w = instance_step_by (instance_made (made past)) (find (is_work w) (works_of past))

-- the checkpoint of a step of a job instance
abbrev pub folded_checkpoint : List Entry → InstanceStep → Option (List ℕ)
folded_checkpoint [] p = None
folded_checkpoint (e ∷ older) p = checkpoint_after (λ w. is_same_step p (place_of older w)) e.call (folded_checkpoint older p)

-- start: the moment of the claim that took the job execution up
abbrev pub start_of : List Entry → ℕ → Option ℕ
start_of [] x = None
start_of (e ∷ older) x =
    if makes (length (made older)) x e.call then None else first_moment (start_of older x) (is_at x (taken_up e.call e.reply)) e.at

-- updated: the moment of the last operation on the job execution
abbrev pub updated_of : List Entry → ℕ → ℕ
updated_of [] x = 0
updated_of (e ∷ older) x =
    if makes (length (made older)) x e.call then e.at
    else (if is_at x (execution_of_operation (works_of older) e.call e.reply) then e.at else updated_of older x)

-- whether an operation named the job execution so, since it was made
abbrev pub was_named : (Call → Option ℕ) → List Entry → ℕ → Bool
was_named names [] x = false
was_named names (e ∷ older) x = if makes (length (made older)) x e.call then false else was_named names older x || is_at x (names e.call)

-- whether the job execution was asked to stop
abbrev pub stop_of : List Entry → ℕ → Bool
stop_of past x = was_named stop_request past x

-- whether the job execution was abandoned
abbrev pub abandoned_of : List Entry → ℕ → Bool
abandoned_of past x = was_named abandonment past x

-- the work items of a job instance
abbrev pub instance_works : List Entry → ℕ → List WorkRow
instance_works past i = filter (λ work. is_at i (instance_made (made past) work.execution)) (works_of past)

-- the plan of a restart of a job execution, by the plans before
abbrev pub plan_again : List JobTree → List Entry → (ℕ → Plan) → Option Made → Plan
plan_again catalogue past earlier None = first_plan None
plan_again catalogue past earlier (Some m) =
    plan_by
    (restart_point (is_some (start_of past m.execution)) (walk_value catalogue (works_of past) m.execution m.job (earlier m.execution)) (earlier m.execution).from)
    (instance_works past m.instance) (job_named catalogue m.job)

-- the plan of the job execution that a call makes
abbrev pub plan_made : List JobTree → List Entry → (ℕ → Plan) → Call → Plan
plan_made catalogue past earlier (Start job parameters) = first_plan (job_named catalogue job)
plan_made catalogue past earlier (Restart y parameters) = plan_again catalogue past earlier (find (is_made y) (made past))
plan_made catalogue past earlier (Stop y) = first_plan None
plan_made catalogue past earlier (Abandon y) = first_plan None
plan_made catalogue past earlier Claim = first_plan None
plan_made catalogue past earlier (Checkpoint w mark step) = first_plan None
plan_made catalogue past earlier (Finish w outcome exit step) = first_plan None
plan_made catalogue past earlier (Lose w) = first_plan None
plan_made catalogue past earlier (Purge i) = first_plan None

-- the plan of a job execution, as it was when it was made
abbrev pub plan_kept : List JobTree → List Entry → ℕ → Plan
plan_kept catalogue [] x = first_plan None
plan_kept catalogue (e ∷ older) x =
    if makes (length (made older)) x e.call then plan_made catalogue older (plan_kept catalogue older) e.call else plan_kept catalogue older x

-- what the walk of a job execution comes to after a past
abbrev pub value_after : List JobTree → List Entry → Made → Value
value_after catalogue past m = walk_value catalogue (works_of past) m.execution m.job (plan_kept catalogue past m.execution)

-- the status of a job execution after a past, abandonment aside
abbrev pub bare_of : List JobTree → List Entry → Made → BatchStatus
bare_of catalogue past m = batch_status (stop_of past m.execution) (start_of past m.execution) (value_after catalogue past m)

-- end: the moment of the first entry after which the job execution was finished
abbrev pub end_of : List JobTree → List Entry → Made → Option ℕ
end_of catalogue [] m = None
end_of catalogue (e ∷ older) m =
    if makes (length (made older)) m.execution e.call then None
    else first_moment (end_of catalogue older m) (is_finished (bare_of catalogue (e ∷ older) m)) e.at

-- the row of a job execution after a past
abbrev pub execution_row : List JobTree → List Entry → Made → ExecutionRow
execution_row catalogue past m =
    execution_row_with m (plan_kept catalogue past m.execution) (stop_of past m.execution) (abandoned_of past m.execution) (start_of past m.execution)
    (value_after catalogue past m) (end_of catalogue past m) (updated_of past m.execution)

-- the last numbers that a past has given
abbrev pub last_of : List Entry → LastNumbers
last_of past = record { instance = length (instances_of past); execution = length (made past); work = length (works_of past) }

-- the rows of all that a past has made
abbrev pub folded_rows : List JobTree → List Entry → Rows
folded_rows catalogue past =
    record {
      catalogue = catalogue;
      count = length past;
      last = last_of past;
      instances = instances_of past;
      executions = map (execution_row catalogue past) (made past);
      works = works_of past;
      checkpoint = folded_checkpoint past;
    }
