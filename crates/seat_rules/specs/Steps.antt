-- The effects of atomic actions on the view of a seat, and the facts that they prove.
use Rattle.std.specs.Prelude.{ℕ, ◌≡◌, ◌+◌, ◌≤◌, List, [], ◌∷◌, ◌++◌, map, take, length}
use Rattle.atomic_table.specs.Table.{Step, Me}
use Rattle.batch_history.specs.declared.call.Entry.{Entry}
use Rattle.seat_rules.specs.declared.view.SessionView.{SessionView}
use Rattle.seat_rules.specs.declared.view.SeatView.{SeatView}
use Rattle.seat_rules.specs.Rule.{IsShown}
use Rattle.seat_rules.specs.Views.{book_view, glanced_at, informed, known_in, list_of, met, new_session, stopped_at, times, view_of, with_entry}

-- ---- Joins and splits

-- two seats become one
abbrev pub hosting : SeatView → SeatView → SeatView
hosting v w = view_of (v.books ++ w.books) (v.sessions ++ w.sessions) (v.copies ++ w.copies)

-- a session is opened: its number is one above the last, and it has seen the log
abbrev pub opened : SeatView → SeatView
opened v = view_of (map (λ b. book_view b.log (b.last + 1)) v.books) v.sessions v.copies

abbrev pub newcomer : SeatView → SeatView
newcomer v = view_of [] (new_session ((known_in v).last + 1) (known_in v).log ∷ []) []

-- the sessions leave, and have seen the log
abbrev pub emptied : SeatView → SeatView
emptied v = view_of v.books [] v.copies

abbrev pub leaver : SeatView → SeatView
leaver v = view_of [] (map (informed (known_in v).log) v.sessions) []

-- a copy is made that has absorbed nothing
abbrev pub same_view : SeatView → SeatView
same_view v = v

abbrev pub new_copy : SeatView → SeatView
new_copy v = view_of [] [] ([] ∷ [])

-- the copies leave with the first n operations
abbrev pub without_copy : SeatView → SeatView
without_copy v = view_of v.books v.sessions []

abbrev pub released : ℕ → SeatView → SeatView
released n v = view_of [] [] (map (λ _. take n (known_in v).log) v.copies)

-- the session leaves the copy, and has seen the operations that the copy has absorbed
abbrev pub caught_up : SeatView → SeatView
caught_up v = view_of v.books (map (informed (list_of v.copies)) v.sessions) []

abbrev pub copy_read : SeatView → SeatView
copy_read v = view_of [] [] v.copies

-- two sessions part, and both have seen the longer of their lists
abbrev pub met_one : List SessionView → List SessionView
met_one (s ∷ t ∷ rest) = met s t ∷ []
met_one sessions = sessions

abbrev pub met_other : List SessionView → List SessionView
met_other (s ∷ t ∷ rest) = met t s ∷ []
met_other sessions = []

abbrev pub one_met : SeatView → SeatView
one_met v = view_of v.books (met_one v.sessions) v.copies

abbrev pub other_met : SeatView → SeatView
other_met v = view_of [] (met_other v.sessions) []

-- ---- Actions on words

-- this view is of some log, n is the log's length, and no two of its sessions have the same number
abbrev pub Found : SeatView → ℕ → Type 0
Found v n = (log : List Entry) × (last : ℕ) × (n ≡ length log) × IsShown log last v × ((m : ℕ) → times m v.sessions ≤ 1)

-- word 0 is read, and no session is shown it
abbrev pub Looked : Step ℕ → Me ℕ SeatView → ℕ → Me ℕ SeatView → Type 0
Looked s v n w = (w ≡ v) × Found v.0 n

-- word 0 is read, and the sessions are shown it as a count
abbrev pub Glanced : Step ℕ → Me ℕ SeatView → ℕ → Me ℕ SeatView → Type 0
Glanced s v n w = (w ≡ (view_of v.0.books (map (glanced_at n) v.0.sessions) v.0.copies, v.1)) × Found v.0 n

-- the log grows by an operation of the session that the desk hosts
abbrev pub appended : Entry → SeatView → SeatView
appended e v = view_of (map (λ b. book_view (b.log ++ e ∷ []) b.last) v.books) (map (with_entry ((known_in v).log ++ e ∷ []) e) v.sessions) v.copies

abbrev pub Appended : Entry → Step ℕ → Me ℕ SeatView → ℕ → Me ℕ SeatView → Type 0
Appended e s v n w = w ≡ (appended e v.0, v.1)

-- a stop word is stored
abbrev pub Raised : Step ℕ → Me ℕ SeatView → ℕ → Me ℕ SeatView → Type 0
Raised s v n w = w ≡ v

-- a stop word is read
abbrev pub Stopped : Step ℕ → Me ℕ SeatView → ℕ → Me ℕ SeatView → Type 0
Stopped s v n w = w ≡ (view_of v.0.books (map (stopped_at n) v.0.sessions) v.0.copies, v.1)
