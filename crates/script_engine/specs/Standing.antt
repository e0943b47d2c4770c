-- The history of a repository that replies to lines.
use Rattle.std.specs.Prelude.{ℕ, ◌≡◌}
use Rattle.batch_history.specs.Legal.{IsLegal, most_operations}
use Rattle.batch_history.specs.Rows.{History, Rows, rows}

-- a repository of 1,000,000 operations with these rows represents a legal history
pub record Stands (limit : ℕ) (r : Rows) (h : History) : Type 0 where
  pub limit_is : limit ≡ most_operations
  pub rows_are : r ≡ rows h
  pub legal : IsLegal most_operations h
