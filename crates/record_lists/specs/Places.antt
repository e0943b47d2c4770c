-- The checkpoints of the steps of job instances, in any order.
use Rattle.std.specs.Prelude.{ℕ, ◌≡◌, ◌==◌, ◌&&◌, Bool, not, Option, None, List, [], ◌∷◌, find, filter}
use Rattle.std.specs.Option.{option_map}
use Rattle.batch_history.specs.declared.rows.CheckpointRow.{CheckpointRow}
use Rattle.batch_history.specs.Checkpoints.{InstanceStep}
use Rattle.walk_rules.specs.Keys.{is_same_key}

-- the step of a job instance that a checkpoint belongs to
abbrev pub step_of : CheckpointRow → InstanceStep
step_of row = record { instance = row.instance; step = row.step }

abbrev pub is_place : InstanceStep → CheckpointRow → Bool
is_place p row = row.instance == p.instance && is_same_key row.step p.step

-- the checkpoint of a step of a job instance
abbrev pub mark_at : List CheckpointRow → InstanceStep → Option (List ℕ)
mark_at rows p = option_map (λ row. row.mark) (find (is_place p) rows)

-- no two checkpoints belong to the same step of a job instance
abbrev pub AreApart : List CheckpointRow → Type 0
AreApart [] = Unit {0}
AreApart (row ∷ rest) = (mark_at rest (step_of row) ≡ None) × AreApart rest

-- the checkpoints of the job instances that haven't been removed
abbrev pub checkpoints_there : (ℕ → Bool) → List CheckpointRow → List CheckpointRow
checkpoints_there gone rows = filter (λ row. not (gone row.instance)) rows
