-- A log's history as one of the job repository.
use Rattle.std.specs.Prelude.{ℕ, ◌≡◌, nat_lt, List, [], Bool, Result, Ok, Err, box_value}
use Rattle.jsl_model.specs.Jobs.{JobTree}
use Rattle.jsl_json.specs.declared.fault.ReadFault.{ReadFault}
use Rattle.batch_history.specs.Legal.{most_numbered}
use Rattle.batch_history.specs.Rows.{History, Rows}
use Rattle.catalogue_laws.specs.Leaving.{StandsOver}
use Rattle.script_engine.specs.ByRows.{line_rows_by, line_text_by, rows_past}
use Rattle.script_engine.specs.Script.{catalogue_at, lines_history}
use Rattle.log_base.specs.Bases.{rows_of_base}
use Rattle.script_log.specs.Runs.{History as LogHistory}
use Rattle.logged_script.specs.Tags.{command_in, commands_in}
use Rattle.logged_script.specs.declared.engine.ScriptEngine.{ScriptEngine}

-- the jobs of a catalogue that was read, none if there is no catalogue
abbrev pub jobs_read : Result (List JobTree) ReadFault → List JobTree
jobs_read (Ok catalogue) = catalogue
jobs_read (Err fault) = []

-- the jobs of a log's catalogue
abbrev pub jobs_at : LogHistory → List JobTree
jobs_at h = jobs_read (catalogue_at h.catalogue)

-- the rows with which a log begins: those of its base
abbrev pub rows_begun : LogHistory → Rows
rows_begun h = rows_of_base (jobs_at h) h.base

-- a legal history with the rows of a log's base. Behind the log's catalogue it may have jobs that have left that, under names that
-- no line can give. Without a base the history without operations is one
pub record IsOfBase (h : LogHistory) (g : History) : Type 0 where
  pub hidden : List JobTree
  pub stands : StandsOver most_numbered hidden (rows_begun h) g

-- A HISTORY OF A LOG, whose lines have tags or not: one with the rows of its base, and behind it the operations of its lines'
-- commands, of which there are at most 4,294,967,296 in all
abbrev pub history_at : Bool → LogHistory → History → History
history_at tags h g = lines_history most_numbered g (commands_in tags h.lines)

-- the rows of a log: those of its histories
abbrev pub rows_at : Bool → LogHistory → Rows
rows_at tags h = rows_past most_numbered (rows_begun h) (commands_in tags h.lines)

-- whether a line is logged: whether there is one more operation after it
abbrev pub is_kept : Bool → LogHistory → List ℕ → Bool
is_kept tags h line = nat_lt (rows_at tags h).count (line_rows_by most_numbered (rows_at tags h) (command_in tags line)).count

-- the reply to a line: that to its command
abbrev pub reply_at : Bool → LogHistory → List ℕ → List ℕ
reply_at tags h line = line_text_by most_numbered (rows_at tags h) (command_in tags line)

-- the engine's repository, of 4,294,967,296 operations, has the rows of the log. `rows_in` says which rows a repository
-- has
pub record Answers {J : Type 0} {n : ℕ} (tags : Bool) (limit : ℕ) (rows_in : J → Rows) (engine : ScriptEngine J n) (h : LogHistory) : Type 0 where
  pub limit_is : limit ≡ most_numbered
  pub rows_are : rows_in (box_value engine.repository) ≡ rows_at tags h
