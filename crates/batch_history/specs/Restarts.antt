-- Restarts (Jakarta Batch 2.1, "Job Restart Processing"): the state that a job execution takes over from the
-- earlier job executions of its job instance, and the element at which it begins.
use Rattle.std.specs.List.{list_any, filter_map, flat_map, last_or}
use Rattle.std.specs.Option.{option_map, option_and_then}
use Rattle.std.specs.Prelude.{ℕ, ◌&&◌, nat_lt, nat_le, Bool, true, false, Option, Some, None, List, [], ◌∷◌, length, map, filter, if◌then◌else◌}
use Rattle.std.specs.Str.{bytes_eq}
use Rattle.batch_history.specs.Executions.{Origin, origin_of, instance_of_execution, makes_job_execution}
use Rattle.batch_history.specs.JobSteps.{JobStep, all_steps}
use Rattle.batch_history.specs.Lists.{is_at}
use Rattle.batch_history.specs.Partitions.{executions_with, done_executions, is_first_done, partitions_kept}
use Rattle.batch_history.specs.Operations.{Making, begins, restarts, effects, taken_up_by}
use Rattle.batch_history.specs.Walks.{facts_by_work, first_of_job, job_named, walk_of}
use Rattle.batch_history.specs.Works.{completed_exit, work_items}
use Rattle.batch_history.specs.declared.call.Entry.{Entry}
use Rattle.batch_history.specs.declared.rows.WorkRow.{WorkRow}
use Rattle.batch_history.specs.declared.rows.WorkState.{WorkState}
use Rattle.batch_history.specs.declared.rows.WorkState.TheVariants.{Busy, Over}
use Rattle.batch_ids.specs.declared.status.WorkOutcome.{WorkOutcome}
use Rattle.batch_ids.specs.declared.status.WorkOutcome.TheVariants.{Completed, Failed, Stopped}
use Rattle.walk_rules.specs.declared.facts.Value.{Value}
use Rattle.walk_rules.specs.declared.facts.Value.TheVariants.{Open, Done as IsDone, Ended}
use Rattle.job_plans.specs.declared.plan.Plan.{Plan}
use Rattle.walk_rules.specs.Keys.{key_of}
use Rattle.walk_rules.specs.declared.work_key.WorkKey.{WorkKey}
use Rattle.batch_ids.specs.Statuses.{status_name}
use Rattle.batch_ids.specs.declared.status.BatchStatus.TheVariants.{Completed as IsCompleted}
use Rattle.jsl_model.specs.Jobs.{JobTree}

-- ---- Work of earlier job executions

-- whether both numbers are there and equal
abbrev pub is_same_number : Option ℕ → Option ℕ → Bool
is_same_number None other = false
is_same_number (Some i) other = is_at i other

-- whether a work item is of an earlier job execution of the job instance of job execution x
abbrev pub is_earlier_work : (ℕ → Option ℕ) → ℕ → WorkRow → Bool
is_earlier_work instance_of x row = nat_lt row.execution x && is_same_number (instance_of x) (instance_of row.execution)

-- the work items of this step
abbrev pub works_of_step : List ℕ → List WorkRow → List WorkRow
works_of_step id works = filter (λ row. bytes_eq row.element id) works

-- the newest of these work items
abbrev pub newest_work : List WorkRow → Option WorkRow
newest_work works = last_or None works

-- ---- Carried, kept and barred, by the work items of the earlier job executions

-- the exit status with which a step that is not partitioned is carried: that of its newest work item, if it
-- is COMPLETED
abbrev pub exit_of_newest : List WorkRow → Option (List ℕ)
exit_of_newest works = option_and_then (λ row. completed_exit row.state) (newest_work works)

-- the exit status with which a step of n partitions is carried: COMPLETED, if the newest job execution with
-- work of it is done with it
abbrev pub exit_if_done : ℕ → List WorkRow → Option (List ℕ)
exit_if_done n works =
    if is_first_done (done_executions n works) (executions_with works) then Some (status_name IsCompleted) else None

-- the exit status with which a step is carried, by its work items
abbrev pub exit_carried : Option ℕ → List WorkRow → Option (List ℕ)
exit_carried None works = exit_of_newest works
exit_carried (Some n) works = exit_if_done n works

-- a carried step with its exit status: a step that allows a start if complete is not carried
abbrev pub carried_step : List WorkRow → JobStep → Option (List ℕ × List ℕ)
carried_step earlier s =
    if s.step.allow_start_if_complete then None
    else option_map (λ exit. (s.id, exit)) (exit_carried s.step.partitions (works_of_step s.id earlier))

-- the number of a step's starts: its work items, or the job executions with work of it if it is partitioned
abbrev pub starts_of : Option ℕ → List WorkRow → ℕ
starts_of None works = length works
starts_of (Some n) works = length (executions_with works)

-- a step is barred if it has a start limit and was started as often
abbrev pub is_barred : List WorkRow → JobStep → Bool
is_barred earlier s =
    nat_lt 0 s.step.start_limit && nat_le s.step.start_limit (starts_of s.step.partitions (works_of_step s.id earlier))

-- the kept partitions of a step
abbrev pub kept_partitions : List WorkRow → JobStep → List WorkKey
kept_partitions earlier s = map (key_of s.id) (partitions_kept s.step.partitions (works_of_step s.id earlier))

-- the plan of a job execution that begins at this element: the carried steps, the kept partitions and the
-- barred steps, in written order
abbrev pub plan_by : List ℕ → List WorkRow → Option JobTree → Plan
plan_by from earlier None = record { from = from; carried = []; kept = []; barred = [] }
plan_by from earlier (Some job) =
    record {
      from = from;
      carried = filter_map (carried_step earlier) (all_steps job.elements);
      kept = flat_map (kept_partitions earlier) (all_steps job.elements);
      barred = map (λ s. s.id) (filter (is_barred earlier) (all_steps job.elements));
    }

-- the plan of a job's first job execution: it begins at the first element, with nothing carried, kept or
-- barred
abbrev pub first_plan : Option JobTree → Plan
first_plan job = record { from = first_of_job job; carried = []; kept = []; barred = [] }

-- ---- The element at which a job execution begins

-- a restart begins at the restart point of the job execution that it names, if that was taken up and its walk
-- ended with one. Otherwise it begins at the element at which that one began
abbrev pub restart_point : Bool → Value → List ℕ → List ℕ
restart_point true (Ended status exit (Some point)) from = point
restart_point true (Ended status exit None) from = from
restart_point true (Open ready busy) from = from
restart_point true (IsDone exit) from = from
restart_point false value from = from

-- whether some reply is work of job execution x, or closes it
abbrev pub is_taken_up : List Entry → ℕ → Bool
is_taken_up past x = list_any (λ e. is_at x (taken_up_by e.reply)) past

-- the tree of the job of a job execution
abbrev pub job_of_origin : List JobTree → Option Origin → Option JobTree
job_of_origin catalogue None = None
job_of_origin catalogue (Some o) = job_named catalogue o.job

-- the plan of job execution x if it begins at this element
abbrev pub plan_from : List JobTree → List Entry → ℕ → List ℕ → Plan
plan_from catalogue past x from =
    plan_by from (filter (is_earlier_work (instance_of_execution past) x) (work_items past)) (job_of_origin catalogue (origin_of past x))

-- the value of job execution x's walk if it begins at this element
abbrev pub walk_from : List JobTree → List Entry → ℕ → List ℕ → Value
walk_from catalogue past x from =
    walk_of (plan_from catalogue past x from) (facts_by_work x (work_items past)) (job_of_origin catalogue (origin_of past x))

-- the element at which a job execution made so begins: a job begins at its first element
abbrev pub beginning_by_making : List JobTree → List Entry → (ℕ → List ℕ) → Option Making → List ℕ
beginning_by_making catalogue past earlier None = []
beginning_by_making catalogue past earlier (Some (begins job parameters)) = first_of_job (job_named catalogue job)
beginning_by_making catalogue past earlier (Some (restarts y parameters)) =
    restart_point (is_taken_up past y) (walk_from catalogue past y (earlier y)) (earlier y)

-- the element at which job execution x begins, which one of these entries made
abbrev pub beginning_among : List JobTree → List Entry → List Entry → ℕ → List ℕ
beginning_among catalogue past [] x = []
beginning_among catalogue past (e ∷ older) x =
    if makes_job_execution older x e.call
    then beginning_by_making catalogue past (beginning_among catalogue past older) (effects e.call).makes
    else beginning_among catalogue past older x

-- THE RESTART POINT: the element at which job execution x begins
abbrev pub beginning_of : List JobTree → List Entry → ℕ → List ℕ
beginning_of catalogue past x = beginning_among catalogue past past x

-- THE PLAN of job execution x: the element at which it begins, its carried steps, its kept partitions and its
-- barred steps
abbrev pub plan_of : List JobTree → List Entry → ℕ → Plan
plan_of catalogue past x = plan_from catalogue past x (beginning_of catalogue past x)

-- the value of job execution x's walk
abbrev pub walk_of_execution : List JobTree → List Entry → ℕ → Value
walk_of_execution catalogue past x = walk_from catalogue past x (beginning_of catalogue past x)
