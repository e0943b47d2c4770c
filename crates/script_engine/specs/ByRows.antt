-- The replies to lines by the rows of a repository of at most `limit` operations.
use Rattle.std.specs.Prelude.{ℕ, ◌==◌, List, [], ◌∷◌, length, nat_lt, Result, Ok, Err, if◌then◌else◌}
use Rattle.batch_ids.specs.declared.refusal.Refusal.{Refusal}
use Rattle.batch_ids.specs.declared.refusal.Refusal.TheVariants as refusals
use Rattle.batch_history.specs.Answers.{answer_by}
use Rattle.batch_history.specs.Replies.{reply_by}
use Rattle.batch_history.specs.Rows.{Rows}
use Rattle.row_repository.specs.Calls.{rows_after_call}
use Rattle.script_lines.specs.declared.line.TheConstants.{MAX_LINE}
use Rattle.script_text.specs.declared.command.Command.{Command}
use Rattle.script_text.specs.declared.command.Command.TheVariants.{BadLine, TextTooLong, Act, Ask}
use Rattle.script_text.specs.Answers.{answer_text}
use Rattle.script_text.specs.Commands.{command_of}
use Rattle.script_text.specs.Replies.{bad_line_text, reply_text}
use Rattle.script_engine.specs.declared.summary.Kind.{Kind}
use Rattle.script_engine.specs.declared.summary.Kind.TheVariants.{Empty, Accepted, Refused, Bad}

-- the command of a line: a line above the bound is none
abbrev pub command_at : List ℕ → Command
command_at line = if nat_lt MAX_LINE (length line) then BadLine else command_of line

-- the kind of a call or a query with this result
abbrev pub kind_of : {R : Type 0} → Result R Refusal → Kind
kind_of (Ok answered) = Accepted
kind_of (Err refusal) = Refused

module _ (limit : ℕ) (r : Rows) where
  -- the reply to a command
  abbrev pub text_by : Command → List ℕ
  text_by BadLine = bad_line_text
  text_by TextTooLong = reply_text (Err refusals.TextTooLong)
  text_by (Act by at call) = reply_text (reply_by limit r by call)
  text_by (Ask query) = answer_text (answer_by r query)

  -- the kind of a command
  abbrev pub kind_by : Command → Kind
  kind_by BadLine = Bad
  kind_by TextTooLong = Refused
  kind_by (Act by at call) = kind_of (reply_by limit r by call)
  kind_by (Ask query) = kind_of (answer_by r query)

  -- the rows after a command: only a call changes them
  abbrev pub rows_by : Command → Rows
  rows_by BadLine = r
  rows_by TextTooLong = r
  rows_by (Act by at call) = rows_after_call r by call at (reply_by limit r by call)
  rows_by (Ask query) = r

  -- the reply to a line: an empty line has none
  unfoldable pub line_text_by : List ℕ → List ℕ
  line_text_by line = if length line == 0 then [] else text_by (command_at line)

  -- the kind of a line
  unfoldable pub line_kind_by : List ℕ → Kind
  line_kind_by line = if length line == 0 then Empty else kind_by (command_at line)

  -- the rows after a line: an empty line changes nothing
  unfoldable pub line_rows_by : List ℕ → Rows
  line_rows_by line = if length line == 0 then r else rows_by (command_at line)

-- the rows after lines
abbrev pub rows_past : ℕ → Rows → List (List ℕ) → Rows
rows_past limit r [] = r
rows_past limit r (line ∷ lines) = rows_past limit (line_rows_by limit r line) lines
