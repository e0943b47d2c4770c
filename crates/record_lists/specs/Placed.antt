-- A list of checkpoints after one of them is set or cleared.
use Rattle.std.specs.Prelude.{◌≡◌, ℕ, Bool, true, false, Option, Some, List, [], ◌∷◌, filter, if◌then◌else◌}
use Rattle.batch_history.specs.declared.rows.CheckpointRow.{CheckpointRow}
use Rattle.batch_history.specs.Checkpoints.{InstanceStep, is_same_step}
use Rattle.record_lists.specs.Places.{is_place, mark_at}

abbrev pub is_elsewhere : InstanceStep → CheckpointRow → Bool
is_elsewhere p row = if is_place p row then false else true

abbrev pub marked : InstanceStep → List ℕ → CheckpointRow
marked p mark = record { instance = p.instance; step = p.step; mark = mark }

-- the checkpoints after the one of step p is set to this mark
abbrev pub with_mark : InstanceStep → List ℕ → List CheckpointRow → List CheckpointRow
with_mark p mark [] = marked p mark ∷ []
with_mark p mark (row ∷ rest) = if is_place p row then marked p mark ∷ rest else row ∷ with_mark p mark rest

-- the checkpoints without the one of step p
abbrev pub without_mark : InstanceStep → List CheckpointRow → List CheckpointRow
without_mark p rows = filter (is_elsewhere p) rows

-- the checkpoint of step p becomes this mark, or is cleared without one; all other checkpoints are unchanged
abbrev pub SetsMark : List CheckpointRow → List CheckpointRow → InstanceStep → Option (List ℕ) → Type 0
SetsMark before after p mark =
    (q : InstanceStep) → mark_at after q ≡ (if is_same_step q (Some p) then mark else mark_at before q)
