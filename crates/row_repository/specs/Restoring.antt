-- The rows from which a job repository is restored, which are added one after another.
use Rattle.std.specs.Prelude.{ℕ, ◌≡◌, ◌≢◌, ◌≤◌, ◌==◌, ◌&&◌, Bool, nat_lt, nat_le, Option, Some, None, is_some, Result, Ok, Err, List, [], ◌∷◌, ◌++◌, map, find, if◌then◌else◌}
use Rattle.std.specs.List.{list_any}
use Rattle.batch_ids.specs.Metrics.{most_after, sum_of_metrics}
use Rattle.batch_ids.specs.declared.metrics.Metrics.{Metrics}
use Rattle.batch_history.specs.Checkpoints.{InstanceStep, is_same_step}
use Rattle.batch_history.specs.Rows.{Rows, is_execution}
use Rattle.batch_history.specs.Walks.{is_work_of}
use Rattle.batch_history.specs.Works.{work_key}
use Rattle.batch_history.specs.declared.rows.CheckpointRow.{CheckpointRow}
use Rattle.batch_history.specs.declared.rows.ExecutionRow.{ExecutionRow}
use Rattle.batch_history.specs.declared.rows.JobInstance.{JobInstance}
use Rattle.batch_history.specs.declared.rows.LastNumbers.{LastNumbers}
use Rattle.batch_history.specs.declared.rows.WorkRow.{WorkRow}
use Rattle.jsl_model.specs.Jobs.{JobTree}
use Rattle.row_repository.specs.Placed.{is_placed}
use Rattle.row_repository.specs.declared.row_fault.RowFault.{RowFault}
use Rattle.row_repository.specs.declared.row_fault.RowFault.TheVariants.{NotNext, NotPlaced, NoOwner, Taken, TooGreat, OutOfMemory}

-- ---- The rows before the first one

-- each last number was given by one of these operations, of which there are at most `limit`
pub record AreCounted (limit count : ℕ) (last : LastNumbers) : Type 0 where
  pub room : count ≤ limit
  pub instance : last.instance ≤ count
  pub execution : last.execution ≤ count
  pub work : last.work ≤ count

-- no rows, after so many operations that gave the last numbers
abbrev pub without_rows : List JobTree → ℕ → LastNumbers → Rows
without_rows catalogue count last =
    record { catalogue = catalogue; count = count; last = last; instances = []; executions = []; works = []; checkpoint = λ p. None }

-- ---- The faults of rows

-- the last of these numbers, or else this one
abbrev pub last_or : ℕ → List ℕ → ℕ
last_or n [] = n
last_or n (m ∷ rest) = last_or m rest

-- the numbers of the last rows, 0 where there is none
abbrev pub last_in : Rows → LastNumbers
last_in r =
    record {
      instance = last_or 0 (map (λ (row : JobInstance). row.instance) r.instances);
      execution = last_or 0 (map (λ (row : ExecutionRow). row.execution) r.executions);
      work = last_or 0 (map (λ (row : WorkRow). row.work) r.works);
    }

-- whether a number is above that of the row before, and was given
abbrev pub is_next : ℕ → ℕ → ℕ → Bool
is_next before given n = nat_lt before n && nat_le n given

-- whether the job instance of this number exists
abbrev pub has_instance : Rows → ℕ → Bool
has_instance r i = is_some (find (λ (row : JobInstance). row.instance == i) r.instances)

-- the fault of a further job execution of a job instance, if it has one
abbrev pub again_fault : Rows → ExecutionRow → Option RowFault
again_fault r row =
    if is_next (last_in r).execution r.last.execution row.execution
    then (if is_placed r.catalogue row then None else Some NotPlaced)
    else Some NotNext

-- the fault of the first job execution of a job instance, if it has one
abbrev pub first_fault : Rows → ExecutionRow → Option RowFault
first_fault r row =
    if is_next (last_in r).instance r.last.instance row.instance then again_fault r row else Some NotNext

-- the fault of a job execution, if it has one
abbrev pub execution_fault : Rows → ExecutionRow → Option RowFault
execution_fault r row = if has_instance r row.instance then again_fault r row else first_fault r row

-- whether each count is at most this
abbrev pub is_within : ℕ → Metrics → Bool
is_within most metrics =
    nat_le metrics.read_count most && nat_le metrics.write_count most && nat_le metrics.commit_count most && nat_le metrics.rollback_count most
    && nat_le metrics.read_skip_count most && nat_le metrics.process_skip_count most && nat_le metrics.filter_count most && nat_le metrics.write_skip_count most

-- the sums of the metrics of these work items
abbrev pub sums_of : List WorkRow → Metrics
sums_of works = sum_of_metrics (map (λ row. row.metrics) works)

-- whether the metrics of all work items with this one are what so many operations can report
abbrev pub has_room : Rows → WorkRow → Bool
has_room r row = is_within (most_after r.count) (sums_of (r.works ++ row ∷ []))

-- whether the job execution of this number exists
abbrev pub has_execution : Rows → ℕ → Bool
has_execution r x = is_some (find (is_execution x) r.executions)

-- whether the job execution of a work item has another work item of its work key
abbrev pub has_work : Rows → WorkRow → Bool
has_work r row = list_any (is_work_of row.execution (work_key row)) r.works

-- the fault of a work item, if it has one
abbrev pub work_fault : Rows → WorkRow → Option RowFault
work_fault r row =
    if is_next (last_in r).work r.last.work row.work
    then (if has_execution r row.execution
    then (if has_work r row then Some Taken else (if has_room r row then None else Some TooGreat))
    else Some NoOwner)
    else Some NotNext

-- the step of a job instance that a checkpoint belongs to
abbrev pub step_of : CheckpointRow → InstanceStep
step_of row = record { instance = row.instance; step = row.step }

-- the fault of a checkpoint, if it has one
abbrev pub checkpoint_fault : Rows → CheckpointRow → Option RowFault
checkpoint_fault r row =
    if has_instance r row.instance
    then (if is_some (r.checkpoint (step_of row)) then Some Taken else None)
    else Some NoOwner

-- a row was added if it has no fault, and else has this fault, unless memory was refused
abbrev pub IsTaken : {T : Type 0} → Result T RowFault → Option RowFault → Type 0
IsTaken (Ok done) fault = fault ≡ None
IsTaken (Err why) fault = why ≢ OutOfMemory → fault ≡ Some why

-- ---- The rows with one more

-- with a further job execution of a job instance
abbrev pub with_again : Rows → ExecutionRow → Rows
with_again r row = record r { executions = r.executions ++ row ∷ [] }

-- with a job instance and its first job execution
abbrev pub with_first : Rows → ExecutionRow → Rows
with_first r row =
    record r {
      instances = r.instances ++ record { instance = row.instance; job = row.job } ∷ [];
      executions = r.executions ++ row ∷ [];
    }

-- with a job execution, and with its job instance if there was none
abbrev pub with_execution : Rows → ExecutionRow → Rows
with_execution r row = if has_instance r row.instance then with_again r row else with_first r row

-- with a work item
abbrev pub with_work : Rows → WorkRow → Rows
with_work r row = record r { works = r.works ++ row ∷ [] }

-- with the checkpoint of a step
abbrev pub with_checkpoint : Rows → CheckpointRow → Rows
with_checkpoint r row = record r { checkpoint = λ p. if is_same_step p (Some (step_of row)) then Some row.mark else r.checkpoint p }
