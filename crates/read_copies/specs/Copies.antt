-- The invariant of a read copy.
use Rattle.std.specs.Prelude.{ℕ, ◌≡◌, List, [], ◌∷◌, length}
use Rattle.batch_history.specs.declared.call.Entry.{Entry}
use Rattle.jsl_model.specs.Jobs.{JobTree}
use Rattle.seat_rules.specs.Places.{IsLegalLog}
use Rattle.seat_rules.specs.Views.{list_of}

-- a copy has one seat, and its state represents the operations that this has absorbed, a legal log
pub record IsCopied (stands : List JobTree → List Entry → Type 0) (catalogue : List JobTree) (entries : ℕ) (seat : List (List Entry)) : Type 0 where
  pub one : seat ≡ list_of seat ∷ []
  pub entries_is : entries ≡ length (list_of seat)
  pub legal : IsLegalLog catalogue (list_of seat)
  pub stood : stands catalogue (list_of seat)
