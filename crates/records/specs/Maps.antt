-- The rows of a job repository: four finite maps.
use Rattle.std.specs.Prelude.{ℕ, ◌≡◌, ◌≢◌, ◌<◌, ◌==◌, Bool, Option, Some, List, [], ◌∷◌, map, find}
use Rattle.batch_history.specs.declared.rows.JobInstance.{JobInstance}
use Rattle.batch_history.specs.declared.rows.ExecutionRow.{ExecutionRow}
use Rattle.batch_history.specs.declared.rows.WorkRow.{WorkRow}
use Rattle.batch_history.specs.declared.rows.CheckpointRow.{CheckpointRow}
use Rattle.batch_history.specs.Checkpoints.{InstanceStep}
use Rattle.batch_history.specs.Replies.{is_execution}
use Rattle.batch_history.specs.Works.{is_work}
pub use Rattle.record_lists.specs.Places.{step_of, is_place, mark_at, AreApart}

-- the job instances, job executions and work items by their numbers, and the checkpoints by job instance and
-- step (`mark_at`), in any order
pub record Maps : Type 0 where
  pub instances : List JobInstance
  pub executions : List ExecutionRow
  pub works : List WorkRow
  pub checkpoints : List CheckpointRow

abbrev pub no_rows : Maps
no_rows = record { instances = []; executions = []; works = []; checkpoints = [] }

-- each of these numbers is above this one
abbrev pub AreAbove : ℕ → List ℕ → Type 0
AreAbove bound [] = Unit {0}
AreAbove bound (number ∷ rest) = (bound < number) × AreAbove bound rest

-- each of these numbers is below this one
abbrev pub AreBelow : ℕ → List ℕ → Type 0
AreBelow bound [] = Unit {0}
AreBelow bound (number ∷ rest) = (number < bound) × AreBelow bound rest

-- the numbers are in ascending order, with or without gaps
abbrev pub AreRising : List ℕ → Type 0
AreRising [] = Unit {0}
AreRising (number ∷ rest) = AreAbove number rest × AreRising rest

abbrev pub instance_numbers : List JobInstance → List ℕ
instance_numbers rows = map (λ row. row.instance) rows

abbrev pub execution_numbers : List ExecutionRow → List ℕ
execution_numbers rows = map (λ row. row.execution) rows

abbrev pub work_numbers : List WorkRow → List ℕ
work_numbers rows = map (λ row. row.work) rows

abbrev pub is_instance : ℕ → JobInstance → Bool
is_instance i row = row.instance == i

-- job instances, job executions and work items are each in ascending order of number; a step of a job
-- instance has one checkpoint at most
pub record AreKeyed (maps : Maps) : Type 0 where
  pub instances : AreRising (instance_numbers maps.instances)
  pub executions : AreRising (execution_numbers maps.executions)
  pub works : AreRising (work_numbers maps.works)
  pub checkpoints : AreApart maps.checkpoints

-- the checkpoint of step p becomes this mark, or is cleared without one; all other checkpoints and rows are
-- unchanged
pub record SetsCheckpoint (before after : Maps) (p : InstanceStep) (mark : Option (List ℕ)) : Type 0 where
  pub here : mark_at after.checkpoints p ≡ mark
  pub others : (q : InstanceStep) → q ≢ p → mark_at after.checkpoints q ≡ mark_at before.checkpoints q
  pub instances : after.instances ≡ before.instances
  pub executions : after.executions ≡ before.executions
  pub works : after.works ≡ before.works

-- a changed row has the same number, job instance and job, which the indexes of job executions use
pub record KeepsExecution (before after : ExecutionRow) : Type 0 where
  pub execution : after.execution ≡ before.execution
  pub instance : after.instance ≡ before.instance
  pub job : after.job ≡ before.job

-- a changed row has the same number, job execution and step or decision, which the indexes of work items use
pub record KeepsWork (before after : WorkRow) : Type 0 where
  pub work : after.work ≡ before.work
  pub execution : after.execution ≡ before.execution
  pub element : after.element ≡ before.element

-- a row may replace that of job execution x, which exists
abbrev pub MayReplaceExecution : List ExecutionRow → ℕ → ExecutionRow → Type 0
MayReplaceExecution rows x row = (before : ExecutionRow) × (find (is_execution x) rows ≡ Some before) × KeepsExecution before row

-- a row may replace that of work item w, which exists
abbrev pub MayReplaceWork : List WorkRow → ℕ → WorkRow → Type 0
MayReplaceWork rows w row = (before : WorkRow) × (find (is_work w) rows ≡ Some before) × KeepsWork before row
