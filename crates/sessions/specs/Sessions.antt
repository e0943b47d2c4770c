-- The invariants of a session and of a desk.
use Rattle.std.specs.Prelude.{ℕ, ◌≡◌, ◌≤◌, ◌⊎◌, max, List, [], ◌∷◌, length}
use mathlib.Core.List.{IsPrefix}
use Rattle.batch_history.specs.Rows.{History}
use Rattle.batch_history.specs.declared.call.Entry.{Entry}
use Rattle.jsl_model.specs.Jobs.{JobTree}
use Rattle.seat_rules.specs.Places.{IsLegalLog, Known, known}
use Rattle.seat_rules.specs.Views.{new_session}
use Rattle.seat_rules.specs.declared.view.SessionView.{SessionView}

-- ---- A session

-- the session of a seat that has one
abbrev pub one_of : List SessionView → SessionView
one_of [] = new_session 0 []
one_of (s ∷ rest) = s

-- the seat has one session, whose number and counts are these, and which has seen a legal log
pub record IsSession (catalogue : List JobTree) (number front least accepted : ℕ) (seat : List SessionView) : Type 0 where
  pub one : seat ≡ one_of seat ∷ []
  pub number_is : number ≡ (one_of seat).number
  pub front_is : front ≡ length (one_of seat).seen
  pub least_is : least ≡ (one_of seat).least
  pub accepted_is : accepted ≡ length (one_of seat).mine
  pub legal : IsLegalLog catalogue (one_of seat).seen

-- a session after it has met another. Its number, operations and found stops are unchanged. It has seen the
-- longer of both lists, of which the other is a prefix
pub record Meets (before other after : SessionView) : Type 0 where
  pub number : after.number ≡ before.number
  pub mine : after.mine ≡ before.mine
  pub stops : after.stops ≡ before.stops
  pub fresh : after.fresh ≡ before.fresh
  pub least : after.least ≡ max before.least other.least
  pub longer : ((after.seen ≡ before.seen) × IsPrefix other.seen before.seen) ⊎ ((after.seen ≡ other.seen) × IsPrefix before.seen other.seen)

-- ---- A desk

-- the log, the last session number, and the read copy that the desk hosts, if any
pub record DeskState : Type 0 where
  pub log : List Entry
  pub last : ℕ
  pub hosted : List (List Entry)

abbrev pub desk_state : List Entry → ℕ → List (List Entry) → DeskState
desk_state log last hosted = record { log = log; last = last; hosted = hosted }

-- the book's log is the log of the seat
pub record IsDesk (limit : ℕ) (catalogue : List JobTree) (book : History) (seat : Known) (last : ℕ) : Type 0 where
  pub few : limit ≤ 1000000
  pub catalogue_is : book.catalogue ≡ catalogue
  pub seat_is : seat ≡ known book.log last [] seat.copies
