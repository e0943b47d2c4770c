-- Members of a line within the bounds of a row.
use Rattle.std.specs.Prelude.{ℕ, List, codes, Option, Some, None, option_map}
use Rattle.serde_json.specs.Data.{Data}
use Rattle.json_members.specs.Members.{text_at, optional_text, number_at, optional_number}
use Rattle.json_members.specs.Chains.{◌>>=◌}
use Rattle.jsl_json.specs.Tasks.{within_32}
use Rattle.script_text.specs.Bounds.{text_within, exit_within}

-- the text of a member, of at most `most` bytes
abbrev pub bounded_text_at : ℕ → List ℕ → Data → Option (List ℕ)
bounded_text_at most name d = text_at name d >>= text_within most

-- the exit status, which may be left out
abbrev pub exit_at : Data → Option (Option (List ℕ))
exit_at d = optional_text (codes "exit") d >>= exit_within

-- the number of a partition
abbrev pub partition_at : Data → Option ℕ
partition_at d = number_at (codes "partition") d >>= within_32

-- the number of a partition, if there is one
abbrev pub partition_within : Option ℕ → Option (Option ℕ)
partition_within None = Some None
partition_within (Some n) = option_map Some (within_32 n)

-- the number of a partition, which may be left out
abbrev pub optional_partition_at : Data → Option (Option ℕ)
optional_partition_at d = optional_number (codes "partition") d >>= partition_within
