-- The line of a checkpoint.
use Rattle.std.specs.Prelude.{ℕ, List, [], ◌∷◌, codes, Option, Some, None, if◌then◌else◌}
use Rattle.serde_json.specs.Data.{Data}
use Rattle.json_members.specs.Members.{has_only, number_at}
use Rattle.json_members.specs.Chains.{◌>>=◌}
use Rattle.batch_history.specs.declared.rows.CheckpointRow.{CheckpointRow}
use Rattle.base_text.specs.Bounded.{bounded_text_at, partition_at}

-- the members of a checkpoint
abbrev pub checkpoint_names : List (List ℕ)
checkpoint_names = codes "instance" ∷ codes "mark" ∷ codes "partition" ∷ codes "step" ∷ []

-- the checkpoint in a value
unfoldable pub checkpoint_of : Data → Option CheckpointRow
checkpoint_of d =
    if has_only checkpoint_names d
    then (do
      instance ← number_at (codes "instance") d
      partition ← partition_at d
      step ← bounded_text_at 256 (codes "step") d
      mark ← bounded_text_at 65536 (codes "mark") d
      Some (record {
        instance = instance;
        step = record { element = step; partition = partition };
        mark = mark;
      }))
    else None
