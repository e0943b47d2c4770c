-- The views of seats, and functions of them.
use Rattle.std.specs.Prelude.{ℕ, ◌≡◌, ◌+◌, ◌<◌, ◌==◌, zero, suc, Bool, true, false, max, nat_lt, if◌then◌else◌, List, [], ◌∷◌, ◌++◌, length}
use Rattle.atomic_table.specs.Seated.{TableId}
use Rattle.batch_history.specs.declared.call.Call.TheVariants.{Stop}
use Rattle.batch_history.specs.declared.call.Entry.{Entry}
use Rattle.seat_rules.specs.declared.view.SessionView.{SessionView}
use Rattle.seat_rules.specs.declared.view.BookView.{BookView}
use Rattle.seat_rules.specs.declared.view.SeatView.{SeatView}
use Rattle.seat_rules.specs.Places.{Known, known}

-- ---- Lists

-- P is true of each
abbrev pub Each : {X : Type 0} → (X → Type 0) → List X → Type 0
Each P [] = Unit {0}
Each P (x ∷ xs) = P x × Each P xs

-- the sum of f over all
abbrev pub total : {X : Type 0} → (X → ℕ) → List X → ℕ
total f [] = 0
total f (x ∷ xs) = f x + total f xs

abbrev pub one_if : Bool → ℕ
one_if true = 1
one_if false = 0

-- ---- Sessions

-- an accepted stop of job execution x is among the first n operations
pub record HasStop (log : List Entry) (n x : ℕ) : Type 0 where
  pub before : List Entry
  pub stop : Entry
  pub after : List Entry
  pub cut : log ≡ before ++ stop ∷ after
  pub asks : stop.call ≡ Stop x
  pub early : length before < n

abbrev pub session_view : ℕ → List Entry → List Entry → ℕ → List ℕ → List ℕ → SessionView
session_view number seen mine least stops fresh = record { number = number; seen = seen; mine = mine; least = least; stops = stops; fresh = fresh }

-- a session that has called nothing, and has seen this log
abbrev pub new_session : ℕ → List Entry → SessionView
new_session number log = session_view number log [] 0 [] []

-- the number of these sessions that have number n
abbrev pub times : ℕ → List SessionView → ℕ
times n [] = 0
times n (s ∷ rest) = one_if (s.number == n) + times n rest

-- a session after its call was accepted as the last operation of the log
abbrev pub with_entry : List Entry → Entry → SessionView → SessionView
with_entry log e s = session_view s.number log (s.mine ++ e ∷ []) s.least s.stops s.fresh

-- a session after it has seen the log
abbrev pub informed : List Entry → SessionView → SessionView
informed log s = session_view s.number log s.mine s.least s.stops s.fresh

-- a session after it was shown a count: the stops that it had found are among that many operations
abbrev pub glanced_at : ℕ → SessionView → SessionView
glanced_at n s = session_view s.number s.seen s.mine n (s.fresh ++ s.stops) []

-- the stops found so far, with the number of a stop word, unless that is 0
abbrev pub fresh_with : ℕ → List ℕ → List ℕ
fresh_with zero xs = xs
fresh_with (suc n) xs = suc n ∷ xs

-- a session after it has read a stop word
abbrev pub stopped_at : ℕ → SessionView → SessionView
stopped_at n s = session_view s.number s.seen s.mine s.least s.stops (fresh_with n s.fresh)

abbrev pub longer : List Entry → List Entry → List Entry
longer xs ys = if nat_lt (length xs) (length ys) then ys else xs

-- the first session after it has met the second
abbrev pub met : SessionView → SessionView → SessionView
met s t = session_view s.number (longer s.seen t.seen) s.mine (max s.least t.least) s.stops s.fresh

-- ---- Seats

abbrev pub book_view : List Entry → ℕ → BookView
book_view log last = record { log = log; last = last }

abbrev pub view_of : List BookView → List SessionView → List (List Entry) → SeatView
view_of books sessions copies = record { books = books; sessions = sessions; copies = copies }

-- the seat's view for a desk's view
abbrev pub desk_view : Known → SeatView
desk_view k = view_of (book_view k.log k.last ∷ []) k.sessions k.copies

-- the view of the first seat of a table
abbrev pub first_view : SeatView
first_view = view_of (book_view [] 0 ∷ []) [] []

abbrev pub nobody : SeatView
nobody = view_of [] [] []

abbrev pub known_by : List BookView → List SessionView → List (List Entry) → Known
known_by [] sessions copies = known [] 0 sessions copies
known_by (b ∷ bs) sessions copies = known b.log b.last sessions copies

-- the desk's view for a seat's view
abbrev pub known_in : SeatView → Known
known_in v = known_by v.books v.sessions v.copies

abbrev pub sessions_in : List SeatView → List SessionView
sessions_in [] = []
sessions_in (v ∷ vs) = v.sessions

abbrev pub copies_in : List SeatView → List (List Entry)
copies_in [] = []
copies_in (v ∷ vs) = v.copies

-- the operations that a copy has absorbed
abbrev pub list_of : List (List Entry) → List Entry
list_of [] = []
list_of (l ∷ ls) = l

-- a seat of sessions belongs to this table, and has neither the log nor a copy
abbrev pub Sits : TableId → TableId → List SeatView → Type 0
Sits t u [] = Unit {0}
Sits t u (v ∷ vs) = (u ≡ t) × (vs ≡ []) × (v.books ≡ []) × (v.copies ≡ [])

-- a seat of a copy belongs to this table, and has neither the log nor a session
abbrev pub SitsCopy : TableId → TableId → List SeatView → Type 0
SitsCopy t u [] = Unit {0}
SitsCopy t u (v ∷ vs) = (u ≡ t) × (vs ≡ []) × (v.books ≡ []) × (v.sessions ≡ [])
