-- The replies to start lines.
use Rattle.std.specs.Prelude.{◌≡◌, ℕ, ◌+◌, ◌==◌, List, [], ◌∷◌, ◌++◌, length, Result, Ok, Err, if◌then◌else◌}
use mathlib.Core.List.{IsPrefix}
use Rattle.batch_ids.specs.declared.refusal.Refusal.{Refusal}
use Rattle.jsl_model.specs.Jobs.{JobTree}
use Rattle.batch_history.specs.Legal.{most_operations}
use Rattle.batch_history.specs.Replies.{reply}
use Rattle.batch_history.specs.Rows.{History, history}
use Rattle.batch_history.specs.declared.call.Call.TheVariants.{Start}
use Rattle.batch_history.specs.declared.call.Entry.{Entry}
use Rattle.batch_history.specs.declared.call.Reply.{Reply}
use Rattle.script_text.specs.declared.command.Command.{Command}
use Rattle.script_text.specs.declared.command.Command.TheVariants.{BadLine, TextTooLong, Act, Ask}
use Rattle.script_text.specs.declared.start.StartLine.{StartLine}
use Rattle.script_text.specs.declared.start.StartFault.{StartFault}
use Rattle.script_text.specs.declared.start.StartFault.TheVariants as starts
use Rattle.script_engine.specs.Script.{start_at, text_for, history_for}

-- Lines

-- a start as a script's command: of this session, at moment 0
abbrev pub command_for : ℕ → Result StartLine StartFault → Command
command_for by (Ok start) = Act by 0 (Start start.job start.parameters)
command_for by (Err starts.BadLine) = BadLine
command_for by (Err starts.TextTooLong) = TextTooLong
command_for by (Err starts.OutOfMemory) = BadLine

-- a line as a script's command
abbrev pub command_of_start : ℕ → List ℕ → Command
command_of_start by line = command_for by (start_at line)

-- the number of job executions that a reply has: an accepted start creates one
abbrev pub made_by : Result Reply Refusal → ℕ
made_by (Ok reply) = 1
made_by (Err refusal) = 0

-- the number of job executions that a start creates after a history
abbrev pub made_for : History → Command → ℕ
made_for h BadLine = 0
made_for h TextTooLong = 0
made_for h (Act by at call) = made_by (reply most_operations h by call)
made_for h (Ask query) = 0

-- the reply to a line after a history; an empty line has none
unfoldable pub start_text : ℕ → List ℕ → History → List ℕ
start_text by line h = if length line == 0 then [] else text_for h (command_of_start by line)

-- the history after a line; an empty line changes nothing
unfoldable pub start_after : ℕ → List ℕ → History → History
start_after by line h = if length line == 0 then h else history_for h (command_of_start by line)

-- the number of job executions that a line creates after a history; an empty line creates none
unfoldable pub start_made : ℕ → List ℕ → History → ℕ
start_made by line h = if length line == 0 then 0 else made_for h (command_of_start by line)

-- THE START LINES, one after another, of a session that had seen these operations. Each has its reply after
-- some more operations of one history, which other sessions may have added. They create this many job
-- executions, and the session has then seen at most the last history
abbrev pub AreStarted : List JobTree → ℕ → List Entry → List (List ℕ) → List ℕ → ℕ → List Entry → Type 0
AreStarted catalogue by seen [] text made last = (text ≡ []) × (made ≡ 0) × IsPrefix seen last
AreStarted catalogue by seen (line ∷ lines) text made last =
    (log : List Entry) × (others : List ℕ) × (more : ℕ) × IsPrefix seen log
    × (text ≡ start_text by line (history catalogue log) ++ others) × (made ≡ start_made by line (history catalogue log) + more)
    × AreStarted catalogue by (start_after by line (history catalogue log)).log lines others more last
