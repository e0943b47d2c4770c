-- The catalogues among the records of a log.
use Rattle.std.specs.Prelude.{ℕ, ◌≡◌, List, [], ◌∷◌, true, false, Option, Some, None}
use Rattle.std.specs.Borrow.{Bor}
use Rattle.durable_log.specs.Format.{LogRecord}
use Rattle.script_log.specs.Runs.{is_catalogue, last_catalogue, IsRecordAt}

-- record 0 is a catalogue
abbrev pub BeginsWithCatalogue : List LogRecord → Type 0
BeginsWithCatalogue [] = ⊥
BeginsWithCatalogue (r ∷ records) = is_catalogue r ≡ true

-- no record is a catalogue
abbrev pub HasNoCatalogue : List LogRecord → Type 0
HasNoCatalogue [] = Unit {0}
HasNoCatalogue (r ∷ records) = (is_catalogue r ≡ false) × HasNoCatalogue records

-- the record with this number, counted from 0, is the last catalogue and has this text
pub record IsCatalogueAt (records : List LogRecord) (number : ℕ) (text : List ℕ) : Type 0 where
  pub at : IsRecordAt records number
  pub mark : is_catalogue at.entry ≡ true
  pub text_is : at.entry.line ≡ text
  pub last : HasNoCatalogue at.others
  -- it is the catalogue of the records' history
  pub in_history : last_catalogue [] records ≡ text

-- the last catalogue, if there is one
abbrev pub IsLastCatalogue : List LogRecord → Option (ℕ × List ℕ) → Type 0
IsLastCatalogue records None = HasNoCatalogue records
IsLastCatalogue records (Some found) = IsCatalogueAt records found.0 found.1

-- a number and a borrowed text
abbrev pub last_shown : Option (ℕ × Bor (List ℕ)) → Option (ℕ × List ℕ)
last_shown None = None
last_shown (Some found) = Some (found.0, found.1.now)
