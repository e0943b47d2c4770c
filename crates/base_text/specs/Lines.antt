-- The lines of a base.
use Rattle.std.specs.Prelude.{ℕ, List, Bool, is_some, codes, Option, option_map, if◌then◌else◌}
use Rattle.serde_json.specs.Data.{Data}
use Rattle.json_members.specs.Members.{data_of, text_at, number_at}
use Rattle.json_members.specs.Chains.{◌>>=◌}
use Rattle.base_text.specs.Heads.{head_of}
use Rattle.base_text.specs.Executions.{execution_of}
use Rattle.base_text.specs.Works.{work_of}
use Rattle.base_text.specs.Checkpoints.{checkpoint_of}
use Rattle.base_text.specs.declared.line.BaseLine.{BaseLine}
use Rattle.base_text.specs.declared.line.BaseLine.TheVariants.{Head, Execution, Work, Checkpoint}

-- whether a value may be a job execution: it has a text `job`
abbrev pub has_job : Data → Bool
has_job d = is_some (text_at (codes "job") d)

-- the line in a value that is no job execution: a work item has a number `work`, and a checkpoint a text
-- `mark`
unfoldable pub short_line_in : Data → Option BaseLine
short_line_in d =
    if is_some (number_at (codes "work") d) then option_map Work (work_of d)
    else (if is_some (text_at (codes "mark") d) then option_map Checkpoint (checkpoint_of d)
    else option_map Head (head_of d))

-- the line in a value
unfoldable pub base_line_in : Data → Option BaseLine
base_line_in d = if has_job d then option_map Execution (execution_of d) else short_line_in d

-- the line in what was read of a text, if there is a value
abbrev pub line_in_read : Option Data → Option BaseLine
line_in_read found = found >>= base_line_in

-- the line of these bytes, without a line feed: a head, a job execution, a work item or a checkpoint
unfoldable pub base_line_of : List ℕ → Option BaseLine
base_line_of line = line_in_read (data_of line)
