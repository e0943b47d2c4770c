-- The invariant of the table, which relates its words and seats to one log.
use Rattle.std.specs.Prelude.{ℕ, ◌≡◌, ◌<◌, ◌≤◌, ◌⊎◌, List, [], length, slice_index}
use mathlib.Core.List.{IsPrefix}
use mathlib.Core.Option.{some}
use lib.ListN.{get_elem?}
use Rattle.atomic_table.specs.Table.{State}
use Rattle.batch_history.specs.declared.call.Entry.{Entry}
use Rattle.jsl_model.specs.Jobs.{JobTree}
use Rattle.seat_rules.specs.declared.view.SessionView.{SessionView}
use Rattle.seat_rules.specs.declared.view.BookView.{BookView}
use Rattle.seat_rules.specs.declared.view.SeatView.{SeatView}
use Rattle.seat_rules.specs.Places.{IsLegalLog}
use Rattle.batch_history.specs.Legal.{entries_by}
use Rattle.seat_rules.specs.Views.{Each, HasStop, times, total}

-- the invariant of a session. It has seen a prefix of the log, which has all its operations. The count that
-- it was shown is at most the log's length. The stops that it found are among that many operations; the fresh
-- ones are in the log
pub record IsSessionOf (log : List Entry) (last : ℕ) (s : SessionView) : Type 0 where
  pub seen : IsPrefix s.seen log
  pub least : s.least ≤ length log
  pub mine : entries_by s.number log ≡ s.mine
  pub all_seen : entries_by s.number s.seen ≡ s.mine
  pub number : s.number ≤ last
  pub stops : Each (HasStop log s.least) s.stops
  pub fresh : Each (HasStop log (length log)) s.fresh

-- the invariant of the desk's seat: it has the log and the last session number
pub record IsBookOf (log : List Entry) (last : ℕ) (b : BookView) : Type 0 where
  pub log_is : b.log ≡ log
  pub last_is : b.last ≡ last

-- the invariant of any seat: its parts are of this log, and each copy has absorbed a prefix of it
pub record IsShown (log : List Entry) (last : ℕ) (v : SeatView) : Type 0 where
  pub books : Each (IsBookOf log last) v.books
  pub sessions : Each (IsSessionOf log last) v.sessions
  pub copies : Each (λ l. IsPrefix l log) v.copies

-- the invariant of the table. Word 0 is the length of the log, which is legal. Each further word is 0 or a
-- job execution whose stop is in the log. Each operation is of a session that was opened. One seat at most
-- has the log, and each session number is on one seat at most
pub record RuleHolds (catalogue : List JobTree) (log : List Entry) (last : ℕ) (words : List ℕ) (views : List SeatView) : Type 0 where
  pub some_word : 0 < length words
  pub stop_words : (k : ℕ) → 0 < k → (slice_index words k ≡ 0) ⊎ HasStop log (length log) (slice_index words k)
  pub counted : slice_index words 0 ≡ length log
  pub legal : IsLegalLog catalogue log
  pub unused : (n : ℕ) → last < n → entries_by n log ≡ []
  pub shown : (i : ℕ) (v : SeatView) → get_elem? views i ≡ some v → IsShown log last v
  pub one_book : total (λ v. length v.books) views ≤ 1
  pub apart : (n : ℕ) → total (λ v. times n v.sessions) views ≤ 1

-- the table's invariant is true of some log
abbrev pub Kept : List JobTree → State ℕ SeatView → Type 0
Kept catalogue s = (log : List Entry) × (last : ℕ) × RuleHolds catalogue log last s.words s.views
