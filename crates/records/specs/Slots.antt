-- Rows in slots. Each slot has the number of its row, which may have been removed.
use Rattle.std.specs.Prelude.{ℕ, ◌≡◌, IfSome, List, [], ◌∷◌, map}
use Rattle.std.specs.List.{filter_map}
use Rattle.records.specs.declared.row_list.Slot.{Slot}
use Rattle.records.specs.declared.row_list.RowsLeft.{RowsLeft}
use Rattle.records.specs.Maps.{AreRising}

module _ {T : Type 0} where
  -- the rows that haven't been removed
  abbrev pub rows_in : List (Slot T) → List T
  rows_in slots = filter_map (λ (slot : Slot T). slot.row) slots

  abbrev pub rows_left : RowsLeft T → List T
  rows_left left = rows_in left.slots.now

  abbrev pub slot_numbers : List (Slot T) → List ℕ
  slot_numbers slots = map (λ (slot : Slot T). slot.number) slots

  -- each row has the number of its slot
  abbrev pub AreOwn : (T → ℕ) → List (Slot T) → Type 0
  AreOwn number [] = Unit {0}
  AreOwn number (slot ∷ rest) = IfSome slot.row (λ row. number row ≡ slot.number) × AreOwn number rest

  -- the numbers of the slots are in ascending order, and each row is in the slot with its number
  pub record AreSlots (number : T → ℕ) (slots : List (Slot T)) : Type 0 where
    pub rising : AreRising (slot_numbers slots)
    pub own : AreOwn number slots

-- the view of a list of rows in contracts: the rows, and the number of further rows that there is room for
pub record Rows (T : Type 0) : Type 0 where
  pub rows : List T
  pub room : ℕ
