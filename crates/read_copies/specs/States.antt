-- The logs that the states of read copies represent, and their answers.
use Rattle.std.specs.Prelude.{ℕ, ◌≡◌, List, Result, Ok}
use Rattle.batch_history.specs.Answers.{answer, counts_of}
use Rattle.batch_history.specs.Legal.{most_operations}
use Rattle.batch_history.specs.Rows.{History, rows, history}
use Rattle.batch_history.specs.declared.call.Entry.{Entry}
use Rattle.batch_history.specs.declared.query.Answer.{Answer}
use Rattle.batch_history.specs.declared.query.CountsByStatus.{CountsByStatus}
use Rattle.batch_history.specs.declared.query.Query.{Query}
use Rattle.batch_ids.specs.declared.refusal.Refusal.{Refusal}
use Rattle.jsl_model.specs.Jobs.{JobTree}

-- a repository of 1,000,000 operations represents a log over a catalogue. `stands` says which histories it
-- represents
pub record StandsForLog (limit : ℕ) (stands : History → Type 0) (catalogue : List JobTree) (log : List Entry) : Type 0 where
  pub limit_is : limit ≡ most_operations
  pub stood : stands (history catalogue log)

-- the answer to a query after a log
abbrev pub answer_after : List JobTree → List Entry → Query → Result Answer Refusal
answer_after catalogue log query = answer (history catalogue log) query

-- the number of job executions with each batch status after a log
abbrev pub counts_in : List JobTree → List Entry → CountsByStatus
counts_in catalogue log = counts_of (rows (history catalogue log)).executions

abbrev pub counts_after : List JobTree → List Entry → Unit {0} → Result CountsByStatus Refusal
counts_after catalogue log ask = Ok (counts_in catalogue log)

-- counts represent a log if their repository does, and if they count its job executions
pub record StandsForCounts (limit : ℕ) (stands : History → Type 0) (counts : CountsByStatus) (catalogue : List JobTree) (log : List Entry) : Type 0 where
  pub kept : StandsForLog limit stands catalogue log
  pub counts_are : counts ≡ counts_in catalogue log
