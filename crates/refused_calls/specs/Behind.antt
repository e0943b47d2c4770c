-- States of read copies that lag behind a book.
use Rattle.std.specs.Prelude.{ℕ, ◌≤◌, length, take}
use Rattle.batch_history.specs.Legal.{most_operations}
use Rattle.batch_history.specs.Rows.{History}
use Rattle.event_core.specs.Worlds.{first}
use Rattle.read_copies.specs.States.{StandsForCounts}
use Rattle.read_copies.specs.declared.status_counts.StatusCounts.{StatusCounts}
use Rattle.seq_repository.specs.Kept.{Kept, StandsFor}

-- a copy represents the first operations of a history, as many as it has
abbrev pub IsCopy : History → Kept → Type 0
IsCopy h kept = StandsFor kept (first kept.count h)

-- counts represent the first operations of a history, so many
abbrev pub AreCounted : History → StatusCounts Kept → ℕ → Type 0
AreCounted h state counted = StandsForCounts most_operations (StandsFor state.repository) state.counts h.catalogue (take counted h.log)

-- a copy and counts represent the first operations of a history, the counts so many
pub record AreBehind (h : History) (copy : Kept) (counts : StatusCounts Kept) (counted : ℕ) : Type 0 where
  pub copied : IsCopy h copy
  pub tallied : AreCounted h counts counted
  pub within : counted ≤ length h.log
