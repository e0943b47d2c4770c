-- The start lines of a run: a job and its parameters, without a session and a moment.
use Rattle.std.specs.Prelude.{◌≡◌, ℕ, List, [], ◌∷◌, codes, Option, Some, None, Result, Ok, Err, if◌then◌else◌}
use Rattle.serde_json.specs.Data.{Data}
use Rattle.batch_ids.specs.Parameters.{Pair}
use Rattle.json_members.specs.Members.{data_of, has_only, text_at}
use Rattle.json_members.specs.Chains.{◌>>=◌}
use Rattle.script_text.specs.Bounds.{text_within}
use Rattle.script_text.specs.Parameters.{parameters_at, parameters_within}
use Rattle.script_text.specs.declared.start.StartLine.{StartLine}
use Rattle.script_text.specs.declared.start.StartFault.{StartFault}
use Rattle.script_text.specs.declared.start.StartFault.TheVariants.{BadLine, TextTooLong, OutOfMemory}

-- the name of a job, and keys and values, which may be left out; each text may be of any length
unfoldable pub start_at : Data → Option (List ℕ × List Pair)
start_at d =
    if has_only (codes "job" ∷ codes "parameters" ∷ []) d
    then (do
      job ← text_at (codes "job") d
      parameters ← parameters_at d
      Some (job, parameters))
    else None

-- the start of a job with these keys and values, if each text is within its bound
abbrev pub start_within : List ℕ × List Pair → Option StartLine
start_within given = do
  job ← text_within 256 given.0
  parameters ← parameters_within given.1
  Some (record { job = job; parameters = parameters })

-- the value, or else this fault
abbrev pub or_fault : {A : Type 0} → StartFault → Option A → Result A StartFault
or_fault fault None = Err fault
or_fault fault (Some found) = Ok found

-- a start whose texts are within their bounds, else TextTooLong: if there is none, BadLine
abbrev pub bounded_start : Option (List ℕ × List Pair) → Result StartLine StartFault
bounded_start None = Err BadLine
bounded_start (Some given) = or_fault TextTooLong (start_within given)

-- the start of a line: BadLine if it is none, whatever its texts; then TextTooLong if a text is above its
-- bound
unfoldable pub start_of_line : List ℕ → Result StartLine StartFault
start_of_line line = bounded_start (data_of line >>= start_at)

-- the result is the start that is due, or its fault, or memory was refused
abbrev pub IsStart : Result StartLine StartFault → Result StartLine StartFault → Type 0
IsStart due (Ok start) = due ≡ Ok start
IsStart due (Err BadLine) = due ≡ Err BadLine
IsStart due (Err TextTooLong) = due ≡ Err TextTooLong
IsStart due (Err OutOfMemory) = Unit {0}
