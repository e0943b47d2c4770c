-- The laws of every legal history.
use Rattle.std.specs.Prelude.{ℕ, ◌≡◌, ◌⊎◌, ◌≤◌, ◌+◌, ◌==◌, ◌<◌, Bool, true, false, Option, None, Some, is_some, not, List, [], ◌∷◌, ◌++◌, filter, find, map, reverse, if◌then◌else◌}
use Rattle.batch_ids.specs.Parameters.{Pair}
use Rattle.batch_ids.specs.Statuses.{is_unfinished}
use Rattle.batch_ids.specs.declared.status.BatchStatus.TheVariants.{Stopped, Failed}
use Rattle.walk_rules.specs.declared.facts.Value.{Value}
use Rattle.job_plans.specs.declared.plan.Plan.{Plan}
use Rattle.job_plans.specs.declared.runnable.Runnable.{Runnable}
use Rattle.job_plans.specs.declared.runnable.Runnable.TheVariants.{Step as RunsStep}
use Rattle.walk_rules.specs.declared.work_key.WorkKey.{WorkKey}
use Rattle.job_plans.specs.Plans.{carried_exit, is_kept}
use Rattle.jsl_model.specs.Names.{distinct, is_among}
use Rattle.jsl_model.specs.declared.element.Task.{Task}
use Rattle.batch_history.specs.declared.call.Call.{Call}
use Rattle.batch_history.specs.declared.call.Call.TheVariants.{Restart}
use Rattle.batch_history.specs.Checkpoints.{checkpoint_of}
use Rattle.batch_history.specs.Executions.{instance_of_execution, job_instances}
use Rattle.batch_history.specs.Lists.{is_at}
use Rattle.batch_history.specs.Operations.{Making, begins, restarts, effects}
use Rattle.batch_history.specs.Purges.{is_purged}
use Rattle.batch_history.specs.declared.call.WorkItem.{WorkItem}
use Rattle.batch_history.specs.declared.call.Entry.{Entry}
use Rattle.batch_history.specs.declared.rows.ExecutionRow.{ExecutionRow}
use Rattle.batch_history.specs.declared.rows.WorkRow.{WorkRow}
use Rattle.batch_history.specs.declared.rows.WorkState.TheVariants.{Busy}
use Rattle.batch_history.specs.declared.rows.JobInstance.{JobInstance}
use Rattle.batch_history.specs.Legal.{grown}
use Rattle.batch_history.specs.Replies.{row_status, has_something_by, first_ready, work_task, runnable_of_job, partitions_of_job, partition_named}
use Rattle.batch_history.specs.Restarts.{plan_by, plan_of, restart_point}
use Rattle.batch_history.specs.Rows.{History, history, job_execution, instances_there, IsAsBefore}
use Rattle.batch_history.specs.Statuses.{is_finished}
use Rattle.batch_history.specs.Walks.{job_named, walk_value}
use Rattle.batch_history.specs.Works.{item_key, is_work, work_key, work_items, work_item_count}

-- the history of only its first operations
abbrev pub beginning : History → List Entry → History
beginning h before = history h.catalogue before

-- ---- Rows of the log

-- the row of a job execution, if it was made
abbrev pub row_in : History → ℕ → Option ExecutionRow
row_in h x = job_execution h.catalogue (reverse h.log) x

-- the work items that were handed out
abbrev pub works_in : History → List WorkRow
works_in h = work_items (reverse h.log)

-- the work item of a number, if it was handed out
abbrev pub work_in : History → ℕ → Option WorkRow
work_in h w = find (is_work w) (works_in h)

-- the value of a job execution's walk, by its plan and the work items
abbrev pub walk_in : History → ExecutionRow → Value
walk_in h row = walk_value h.catalogue (works_in h) row.execution row.job row.plan

-- whether a job execution has something to do
abbrev pub has_something_in : History → ExecutionRow → Bool
has_something_in h row = has_something_by (row_status row) (walk_in h row)

-- ---- Finished job executions

-- a job execution is finished, and its row is as before
pub record StaysFinished (h : History) (x : ℕ) (before : ExecutionRow) : Type 0 where
  pub after : ExecutionRow
  pub found : row_in h x ≡ Some after
  pub finished : is_finished (row_status after) ≡ true
  pub same : IsAsBefore before after

-- an operation at this moment finished the job execution, which was unfinished before
pub record EndedAt (h : History) (x t : ℕ) : Type 0 where
  pub before : List Entry
  pub entry : Entry
  pub after : List Entry
  pub cut : h.log ≡ before ++ entry ∷ after
  pub moment : entry.at ≡ t
  pub row : ExecutionRow
  pub found : row_in (beginning h (before ++ entry ∷ [])) x ≡ Some row
  pub finished : is_finished row.bare ≡ true
  pub until : (earlier : ExecutionRow) → row_in (beginning h before) x ≡ Some earlier → is_finished earlier.bare ≡ false

-- ---- Work

-- the task or artifact of a work key, in the job of a job execution
abbrev pub run_for : History → ExecutionRow → WorkKey → Option Runnable
run_for h row key = runnable_of_job (job_named h.catalogue row.job) key

-- the number of partitions of a work key's step, if it is partitioned
abbrev pub partitions_for : History → ExecutionRow → WorkKey → Option ℕ
partitions_for h row key = partitions_of_job (job_named h.catalogue row.job) key

-- the job execution of a work item was taken up, and is unfinished while the work item is busy. The work item
-- is of a step or a decision of its job, and names a partition exactly if that step is partitioned
pub record BelongsTo (h : History) (work : WorkRow) : Type 0 where
  pub owner : ExecutionRow
  pub found : row_in h work.execution ≡ Some owner
  pub begun : is_some owner.start ≡ true
  pub unfinished : work.state ≡ Busy → is_unfinished (row_status owner) ≡ true
  pub runs : is_some (run_for h owner (work_key work)) ≡ true
  pub partition : work.partition ≡ partition_named (work_key work).partition (partitions_for h owner (work_key work))

-- the checkpoint of a step, or of a partition of it, in the job instance of a job execution
abbrev pub checkpoint_in : History → ExecutionRow → WorkKey → Option (List ℕ)
checkpoint_in h row key = checkpoint_of (reverse h.log) record { instance = row.instance; step = key }

-- a work item is the first ready work key of the least job execution that has something to do, and is of a
-- step or a decision of its job. The walk follows the plan of the job execution, and a chunk goes on from the
-- checkpoint of its step or partition. A partition is named exactly if the step is partitioned
pub record WasReady (h : History) (item : WorkItem) : Type 0 where
  pub owner : ExecutionRow
  pub found : row_in h item.execution ≡ Some owner
  pub something : has_something_in h owner ≡ true
  pub least : (x : ℕ) (other : ExecutionRow) → row_in h x ≡ Some other → x < item.execution
      → has_something_in h other ≡ false
  pub plan : owner.plan ≡ plan_of h.catalogue (reverse h.log) item.execution
  pub ready : first_ready (walk_in h owner) ≡ Some (item_key item)
  pub runs : is_some (run_for h owner (item_key item)) ≡ true
  pub task : item.task ≡ work_task (checkpoint_in h owner (item_key item)) (run_for h owner (item_key item))
  pub partition : item.partition ≡ partition_named (item_key item).partition (partitions_for h owner (item_key item))
  pub number : item.work ≡ work_item_count (reverse h.log) + 1

-- a plan neither carries nor bars the step of a work key, nor keeps its partition
pub record IsOpen (plan : Plan) (key : WorkKey) : Type 0 where
  pub uncarried : carried_exit plan.carried key.element ≡ None
  pub unkept : is_kept plan key ≡ false
  pub unbarred : is_among plan.barred key.element ≡ false

-- if a work item is of a step, its job execution neither carries nor bars that step, nor keeps its partition
pub record IsOfOpenStep (h : History) (item : WorkItem) : Type 0 where
  pub owner : ExecutionRow
  pub found : row_in h item.execution ≡ Some owner
  pub step : (task : Task) → run_for h owner (item_key item) ≡ Some (RunsStep task) → IsOpen owner.plan (item_key item)

-- a chunk goes on from the checkpoint of its step or partition in the job instance
pub record GoesOnFrom (h : History) (item : WorkItem) (mark : Option (List ℕ)) : Type 0 where
  pub owner : ExecutionRow
  pub found : row_in h item.execution ≡ Some owner
  pub checkpoint : mark ≡ checkpoint_in h owner (item_key item)

-- ---- Restarts

-- a job execution is the most recent one of its job instance, and STOPPED or FAILED
pub record MayGoOn (h : History) (y : ℕ) : Type 0 where
  pub row : ExecutionRow
  pub found : row_in h y ≡ Some row
  pub latest : (x : ℕ) (other : ExecutionRow) → row_in h x ≡ Some other
      → other.instance ≡ row.instance → x ≤ y
  pub over : (row_status row ≡ Stopped) ⊎ (row_status row ≡ Failed)

-- each restart follows the most recent job execution of its job instance, which is STOPPED or FAILED
abbrev pub RestartsFollow : History → Type 0
RestartsFollow h =
    (before : List Entry) (e : Entry) (after : List Entry) → h.log ≡ before ++ e ∷ after
    → (y : ℕ) (parameters : List Pair) → e.call ≡ Restart y parameters → MayGoOn (beginning h before) y

-- after any first operations, a job instance has at most one unfinished job execution
abbrev pub HasOneUnfinishedEach : History → Type 0
HasOneUnfinishedEach h =
    (before after : List Entry) → h.log ≡ before ++ after → (x y : ℕ) (one other : ExecutionRow)
    → row_in (beginning h before) x ≡ Some one → row_in (beginning h before) y ≡ Some other
    → one.instance ≡ other.instance → is_unfinished (row_status one) ≡ true
    → is_unfinished (row_status other) ≡ true → x ≡ y

-- the work items of a job instance
abbrev pub works_of_instance_in : History → ℕ → List WorkRow
works_of_instance_in h i = filter (λ work. is_at i (instance_of_execution (reverse h.log) work.execution)) (works_in h)

-- the plan of a restart of a job execution. It begins at the restart point. Its carried steps, kept
-- partitions and barred steps follow from the work items of the job instance
abbrev pub plan_again_in : History → ExecutionRow → Plan
plan_again_in h row =
    plan_by (restart_point (is_some row.start) (walk_in h row) row.plan.from) (works_of_instance_in h row.instance)
    (job_named h.catalogue row.job)

-- a restart makes a job execution of the job instance and the job of the one that it names, with the plan of
-- a restart of that one
pub record FollowsFrom (h : History) (e : Entry) (y x : ℕ) : Type 0 where
  pub named : ExecutionRow
  pub found : row_in h y ≡ Some named
  pub row : ExecutionRow
  pub made : row_in (grown h e) x ≡ Some row
  pub instance : row.instance ≡ named.instance
  pub job : row.job ≡ named.job
  pub plan : row.plan ≡ plan_again_in h named

-- a job execution has its earlier plan
pub record KeepsPlan (h : History) (x : ℕ) (before : ExecutionRow) : Type 0 where
  pub after : ExecutionRow
  pub found : row_in h x ≡ Some after
  pub plan : after.plan ≡ before.plan

-- ---- Job instances and names

-- the job instance of a job execution is of the same job
pub record HasInstance (h : History) (row : ExecutionRow) : Type 0 where
  pub instance : JobInstance
  pub found : find (λ i. i.instance == row.instance) (job_instances (reverse h.log)) ≡ Some instance
  pub job : instance.job ≡ row.job

-- the job instances that exist, by rising number
abbrev pub instances_in : History → List JobInstance
instances_in h = instances_there (is_purged (reverse h.log)) (job_instances (reverse h.log))

-- the names of their jobs, each once, in the order of their first job instances
abbrev pub names_of : List JobInstance → List (List ℕ)
names_of instances = distinct (map (λ i. i.job) instances)

-- the names of the jobs that have a job instance
abbrev pub names_in : History → List (List ℕ)
names_in h = names_of (instances_in h)

-- the job instances except this one
abbrev pub instances_but : ℕ → List JobInstance → List JobInstance
instances_but i instances = filter (λ row. not (row.instance == i)) instances

-- the names after a job instance is begun: the name of a job that had none is added at the end
abbrev pub with_begun : List (List ℕ) → Option Making → List (List ℕ)
with_begun names None = names
with_begun names (Some (begins job parameters)) = if is_among names job then names else names ++ job ∷ []
with_begun names (Some (restarts y parameters)) = names

-- the names after a call that removes nothing
abbrev pub with_name : List (List ℕ) → Call → List (List ℕ)
with_name names call = with_begun names (effects call).makes
