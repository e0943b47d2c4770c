-- The views that contracts have of a table and of a desk's seat.
use Rattle.std.specs.Prelude.{ℕ, List, []}
use Rattle.atomic_table.specs.Seated.{TableId}
use Rattle.batch_history.specs.Legal.{IsLegal, most_operations}
use Rattle.batch_history.specs.Rows.{history}
use Rattle.batch_history.specs.declared.call.Entry.{Entry}
use Rattle.jsl_model.specs.Jobs.{JobTree}
use Rattle.seat_rules.specs.declared.view.SessionView.{SessionView}

-- a table, and the catalogue of its log
pub record Place : Type 0 where
  pub table : TableId
  pub catalogue : List JobTree

-- a placeholder that is no table's place
abbrev pub no_place : Place
no_place = record { table = record { words = 0; slots = 0; views_name = 0; atom = 0; block = 0; offset = 0; slot_names = [] }; catalogue = [] }

-- a log is legal over a catalogue: each operation has the reply that the operations before it require
abbrev pub IsLegalLog : List JobTree → List Entry → Type 0
IsLegalLog catalogue log = IsLegal most_operations (history catalogue log)

-- the view of a desk's seat: the log, the last session number, and the sessions and copies that it hosts
pub record Known : Type 0 where
  pub log : List Entry
  pub last : ℕ
  pub sessions : List SessionView
  pub copies : List (List Entry)

abbrev pub known : List Entry → ℕ → List SessionView → List (List Entry) → Known
known log last sessions copies = record { log = log; last = last; sessions = sessions; copies = copies }
