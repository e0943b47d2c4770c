-- The rows that the engine of a script over a log has.
use Rattle.std.specs.Prelude.{ℕ, Bool}
use Rattle.batch_history.specs.Legal.{most_numbered}
use Rattle.script_log.specs.Runs.{History}
use Rattle.seq_repository.specs.Kept.{Kept, rows_in}
use Rattle.logged_script.specs.Histories.{Answers as AnswersOver}
use Rattle.logged_script.specs.declared.engine.ScriptEngine.{ScriptEngine}

-- the engine's repository has the rows of the log
abbrev pub Answers : {n : ℕ} → Bool → ScriptEngine Kept n → History → Type 0
Answers tags engine h = AnswersOver tags most_numbered rows_in engine h
