-- Copies of a job repository that lag behind a history. `stands` says which histories a repository represents.
use Rattle.std.specs.Prelude.{ℕ, ◌≤◌, List, All, map}
use Rattle.batch_history.specs.Rows.{History}
use Rattle.event_core.specs.Worlds.{State, first, operations}
use Rattle.event_core.specs.declared.copies.LaggingCopy.{LaggingCopy}
use Rattle.event_core.specs.declared.sessions.Seen.{Seen}

module _ {J : Type 0} where
  -- a copy represents the first operations of a history, as many as it has, which are no more than there are
  pub record IsCopy (stands : J → History → Type 0) (h : History) (copy : LaggingCopy J) : Type 0 where
    pub stood : stands copy.repository (first copy.entries h)
    pub within : copy.entries ≤ operations h

  -- the number of operations that each copy has
  abbrev pub lengths : List (LaggingCopy J) → List ℕ
  lengths copies = map (λ (copy : LaggingCopy J). copy.entries) copies

  -- each of them is a copy
  abbrev pub AreCopies : (J → History → Type 0) → History → List (LaggingCopy J) → Type 0
  AreCopies stands h copies = All (IsCopy stands h) copies

  -- the state of a world with this history, these sessions and these copies
  abbrev pub state_of : History → List Seen → List (LaggingCopy J) → State
  state_of h sessions copies = record { history = h; sessions = sessions; copies = lengths copies }
