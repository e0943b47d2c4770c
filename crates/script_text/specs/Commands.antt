-- The commands of a script's lines.
use Rattle.std.specs.Prelude.{ℕ, ◌==◌, List, codes, Option, Some, None, option_map, unwrap_or, if◌then◌else◌}
use Rattle.std.specs.Option.{option_or}
use Rattle.serde_json.specs.Data.{Data}
use Rattle.json_members.specs.Members.{data_of, text_at, number_at}
use Rattle.json_members.specs.Chains.{◌>>=◌}
use Rattle.script_text.specs.Calls.{call_named}
use Rattle.script_text.specs.Queries.{query_named}
use Rattle.script_text.specs.Bounds.{call_within, query_within}
use Rattle.script_text.specs.declared.command.Command.{Command}
use Rattle.script_text.specs.declared.command.Command.TheVariants.{BadLine, TextTooLong, Act, Ask}

-- the session that gives a command: a number from 1
abbrev pub session_at : Data → Option ℕ
session_at d = number_at (codes "by") d >>= λ by. if by == 0 then None else Some by

-- a call, the session that makes it, and its moment; its texts may be of any length
unfoldable pub call_of : Data → Option Command
call_of d = do
  word ← text_at (codes "do") d
  call ← call_named word d
  by ← session_at d
  at ← number_at (codes "at") d
  Some (Act by at call)

-- a query; its texts may be of any length
unfoldable pub query_of : Data → Option Command
query_of d = do
  word ← text_at (codes "ask") d
  query ← query_named word d
  Some (Ask query)

-- the command, with texts of any length, in a value, if it is one of the table
unfoldable pub raw_command_of : Data → Option Command
raw_command_of d = option_or (call_of d) (query_of d)

-- a command whose texts are within their bounds, else TextTooLong
abbrev pub within_bounds : Command → Command
within_bounds (Act by at call) = unwrap_or (option_map (Act by at) (call_within call)) TextTooLong
within_bounds (Ask query) = unwrap_or (option_map Ask (query_within query)) TextTooLong
within_bounds TextTooLong = TextTooLong
within_bounds BadLine = BadLine

-- the command in a value
unfoldable pub command_of_data : Data → Command
command_of_data d = unwrap_or (option_map within_bounds (raw_command_of d)) BadLine

-- the command of a line: BadLine if it is none of the table, whatever its texts; then TextTooLong if a text
-- is above its bound
unfoldable pub command_of : List ℕ → Command
command_of line = unwrap_or (option_map command_of_data (data_of line)) BadLine
