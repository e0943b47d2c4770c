-- The text of a script's replies.
use Rattle.std.specs.Prelude.{ℕ, ◌==◌, List, [], ◌∷◌, ◌++◌, length, nat_lt, Result, Ok, Err, if◌then◌else◌}
use Rattle.jsl_model.specs.Jobs.{JobTree}
use Rattle.batch_history.specs.Legal.{history_after, most_operations}
use Rattle.batch_history.specs.Replies.{reply}
use Rattle.batch_history.specs.Rows.{History, history, rows}
use Rattle.script_lines.specs.declared.line.TheConstants.{MAX_LINE}
use Rattle.script_lines.specs.Cut.{script_lines}
use Rattle.script_text.specs.declared.command.Command.{Command}
use Rattle.script_text.specs.declared.command.Command.TheVariants.{BadLine, TextTooLong, Act, Ask}
use Rattle.jsl_json.specs.declared.fault.ReadFault.{ReadFault}
use Rattle.jsl_json.specs.declared.fault.ReadFault.TheVariants.{NotACatalogue}
use Rattle.script_text.specs.Starts.{start_of_line}
use Rattle.script_text.specs.declared.start.StartLine.{StartLine}
use Rattle.script_text.specs.declared.start.StartFault.{StartFault}
use Rattle.script_text.specs.declared.start.StartFault.TheVariants as starts
use Rattle.jsl_json.specs.Catalogues.{catalogue_of}
use Rattle.script_text.specs.Faults.{fault_text}
use Rattle.script_engine.specs.ByRows.{command_at, line_text_by, text_by}

-- Lines

-- the catalogue of a line: a line above the bound is none
abbrev pub catalogue_at : List ℕ → Result (List JobTree) ReadFault
catalogue_at line = if nat_lt MAX_LINE (length line) then Err NotACatalogue else catalogue_of line

-- the start of a job in a line of a run: a line above the bound is none
abbrev pub start_at : List ℕ → Result StartLine StartFault
start_at line = if nat_lt MAX_LINE (length line) then Err starts.BadLine else start_of_line line

-- the reply to a command after a history
abbrev pub text_for : History → Command → List ℕ
text_for h command = text_by most_operations (rows h) command

-- the history after a command, of at most `limit` operations: only a call changes it
abbrev pub history_by : ℕ → History → Command → History
history_by limit h BadLine = h
history_by limit h TextTooLong = h
history_by limit h (Act by at call) = history_after h by call at (reply limit h by call)
history_by limit h (Ask query) = h

-- the history after a command
abbrev pub history_for : History → Command → History
history_for h command = history_by most_operations h command

-- the reply to a line after a history: an empty line has none
abbrev pub line_text : History → List ℕ → List ℕ
line_text h line = line_text_by most_operations (rows h) line

-- the history after a line, of at most `limit` operations: an empty line changes nothing
unfoldable pub line_history : ℕ → History → List ℕ → History
line_history limit h line = if length line == 0 then h else history_by limit h (command_at line)

-- the history after a line
abbrev pub line_after : History → List ℕ → History
line_after h line = line_history most_operations h line

-- Scripts

-- the replies to lines, one after another
abbrev pub replies : History → List (List ℕ) → List ℕ
replies h [] = []
replies h (line ∷ lines) = line_text h line ++ replies (line_after h line) lines

-- the history after lines, of at most `limit` operations
abbrev pub lines_history : ℕ → History → List (List ℕ) → History
lines_history limit h [] = h
lines_history limit h (line ∷ lines) = lines_history limit (line_history limit h line) lines

-- the history after lines
abbrev pub history_past : History → List (List ℕ) → History
history_past h lines = lines_history most_operations h lines

-- a catalogue's history before the first operation
abbrev pub begin : List JobTree → History
begin catalogue = history catalogue []

-- the text for the lines after the first: if the catalogue has a fault, only that fault's line
abbrev pub opened : Result (List JobTree) ReadFault → List (List ℕ) → List ℕ
opened (Ok catalogue) lines = replies (begin catalogue) lines
opened (Err fault) lines = fault_text fault

-- the text for lines, of which the first is the catalogue
abbrev pub text_of_lines : List (List ℕ) → List ℕ
text_of_lines [] = []
text_of_lines (line ∷ lines) = opened (catalogue_at line) lines

-- the number of operations after these lines: without a catalogue there is none
abbrev pub entries_from : Result (List JobTree) ReadFault → List (List ℕ) → ℕ
entries_from (Ok catalogue) lines = length (history_past (begin catalogue) lines).log
entries_from (Err fault) lines = 0

-- the number of operations after these lines, of which the first is the catalogue
abbrev pub entries_of_lines : List (List ℕ) → ℕ
entries_of_lines [] = 0
entries_of_lines (line ∷ lines) = entries_from (catalogue_at line) lines

-- THE TEXT OF A SCRIPT: the text that is written for an input
abbrev pub script_text : List ℕ → List ℕ
script_text input = text_of_lines (script_lines input)
