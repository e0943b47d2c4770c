-- Partitioned steps (Jakarta Batch 2.1, "Step Partitioning") by the numbers of job executions: the job
-- executions that are done with such a step, and the partitions that each one keeps.
use Rattle.std.specs.List.{list_any, flat_map}
use Rattle.std.specs.Prelude.{ℕ, ◌≡◌, ◌⊎◌, ◌≤◌, ◌<◌, ◌==◌, Bool, true, false, Option, None, Some, List, [], map, filter}
use Rattle.jsl_model.specs.Jobs.{JobTree}
use Rattle.walk_rules.specs.Keys.{key_of, numbers_to}
use Rattle.walk_rules.specs.declared.work_key.WorkKey.{WorkKey}
use Rattle.batch_history.specs.JobSteps.{JobStep, all_steps}
use Rattle.batch_history.specs.Partitions.{is_completed, completes_in, newest_of_partition, works_before, is_kept_after, done_executions}
use Rattle.batch_history.specs.Restarts.{works_of_step}
use Rattle.batch_history.specs.Rows.{History}
use Rattle.batch_history.specs.declared.rows.WorkRow.{WorkRow}
use Rattle.history_laws.specs.Laws.{works_of_instance_in}

-- the work items of a step in the job executions of a job instance
abbrev pub works_of_step_in : History → ℕ → List ℕ → List WorkRow
works_of_step_in h i step = works_of_step step (works_of_instance_in h i)

-- whether job execution x keeps this partition of a step of n partitions, which has these work items in its
-- job instance
abbrev pub is_kept_in : ℕ → List WorkRow → ℕ → ℕ → Bool
is_kept_in n works x p = is_kept_after (done_executions n (works_before x works)) (works_before x works) p

-- whether job execution y is done with the step
abbrev pub is_done_in : ℕ → List WorkRow → ℕ → Bool
is_done_in n works y = list_any (λ d. d == y) (done_executions n works)

-- the newest work item of the partition in job executions before x is COMPLETED, and no job execution from
-- its own up to x is done with the step
pub record IsKept (n : ℕ) (works : List WorkRow) (x p : ℕ) : Type 0 where
  pub newest : WorkRow
  pub found : newest_of_partition (works_before x works) p ≡ Some newest
  pub completed : is_completed newest ≡ true
  pub since : (y : ℕ) → newest.execution ≤ y → y < x → is_done_in n works y ≡ false

-- job execution y has a work item of the step, and keeps each partition or has a COMPLETED work item of it
pub record IsDone (n : ℕ) (works : List WorkRow) (y : ℕ) : Type 0 where
  pub worked : list_any (λ row. row.execution == y) works ≡ true
  pub each : (p : ℕ) → p < n → (is_kept_in n works y p ≡ true) ⊎ (completes_in works y p ≡ true)

-- ---- Kept partitions of a plan

-- the partitions of a step that job execution x keeps, by rising number: a step that is not partitioned has
-- none
abbrev pub partitions_kept_in : Option ℕ → List WorkRow → ℕ → List ℕ
partitions_kept_in None works x = []
partitions_kept_in (Some n) works x = filter (is_kept_in n works x) (numbers_to n)

-- the work keys of a step's kept partitions, among the work items of the job instance
abbrev pub keys_kept_in : List WorkRow → ℕ → JobStep → List WorkKey
keys_kept_in works x s = map (key_of s.id) (partitions_kept_in s.step.partitions (works_of_step s.id works) x)

-- the work keys of all partitions of the steps of a job that job execution x keeps, in written order
abbrev pub all_kept_in : List WorkRow → ℕ → Option JobTree → List WorkKey
all_kept_in works x None = []
all_kept_in works x (Some job) = flat_map (keys_kept_in works x) (all_steps job.elements)
