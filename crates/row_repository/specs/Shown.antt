-- The rows that were shown of a repository.
use Rattle.std.specs.Option.{option_map}
use Rattle.std.specs.Prelude.{ℕ, Option, Some, List, [], ◌∷◌, ◌++◌, find}
use Rattle.batch_history.specs.Checkpoints.{InstanceStep, is_same_step}
use Rattle.batch_history.specs.Rows.{Rows}
use Rattle.batch_history.specs.declared.rows.CheckpointRow.{CheckpointRow}
use Rattle.batch_history.specs.declared.rows.ExecutionRow.{ExecutionRow}
use Rattle.batch_history.specs.declared.rows.WorkRow.{WorkRow}
use Rattle.row_repository.specs.Restoring.{step_of}

-- the job executions, work items and checkpoints that were shown so far
pub record Shown : Type 0 where
  pub executions : List ExecutionRow
  pub works : List WorkRow
  pub checkpoints : List CheckpointRow

-- with one more
abbrev pub with_shown_execution : Shown → ExecutionRow → Shown
with_shown_execution s row = record s { executions = s.executions ++ row ∷ [] }

abbrev pub with_shown_work : Shown → WorkRow → Shown
with_shown_work s row = record s { works = s.works ++ row ∷ [] }

abbrev pub with_shown_checkpoint : Shown → CheckpointRow → Shown
with_shown_checkpoint s row = record s { checkpoints = s.checkpoints ++ row ∷ [] }

-- with all rows of a repository, whose checkpoints are these
abbrev pub with_shown_rows : Shown → Rows → List CheckpointRow → Shown
with_shown_rows s r marks =
    record {
      executions = s.executions ++ r.executions;
      works = s.works ++ r.works;
      checkpoints = s.checkpoints ++ marks;
    }

-- the checkpoint of a step among these: the first that belongs to it
abbrev pub mark_in : List CheckpointRow → InstanceStep → Option (List ℕ)
mark_in marks p = option_map (λ row. row.mark) (find (λ row. is_same_step p (Some (step_of row))) marks)
