-- The base among the records of a log.
use Rattle.std.specs.Prelude.{ℕ, ◌≡◌, List, [], ◌∷◌, ◌++◌, take, drop, map, Bool, true, false, Option, Some, None}
use Rattle.durable_log.specs.Format.{LogRecord}
use Rattle.script_log.specs.Runs.{is_catalogue, is_base, IsRecordAt}

-- the lines of these records
abbrev pub lines_of_records : List LogRecord → List (List ℕ)
lines_of_records records = map (λ (r : LogRecord). r.line) records

-- each of these records is one of the base
abbrev pub AreBase : List LogRecord → Type 0
AreBase [] = Unit {0}
AreBase (r ∷ records) = (is_base r ≡ true) × AreBase records

-- none of these records is one of the base
abbrev pub HasNoBase : List LogRecord → Type 0
HasNoBase [] = Unit {0}
HasNoBase (r ∷ records) = (is_base r ≡ false) × HasNoBase records

-- these are all records of the base, and they are the first of the records
pub record AreFirst (records base : List LogRecord) : Type 0 where
  pub others : List LogRecord
  pub split : base ++ others ≡ records
  pub base_is : AreBase base
  pub nowhere_else : HasNoBase others

-- the base behind record 0, if that is a catalogue; there is none if it is another record
abbrev pub IsBaseBehind : Bool → LogRecord → List LogRecord → List LogRecord → Type 0
IsBaseBehind true r records base = AreFirst records base
IsBaseBehind false r records base = (base ≡ []) × HasNoBase (r ∷ records)

-- THE BASE OF A LOG: it stands right behind the first catalogue, which is record 0, and nowhere else
abbrev pub IsBaseOf : List LogRecord → List LogRecord → Type 0
IsBaseOf [] base = base ≡ []
IsBaseOf (r ∷ records) base = IsBaseBehind (is_catalogue r) r records base

-- the base is in its place
abbrev pub HasBaseInPlace : List LogRecord → Type 0
HasBaseInPlace records = (base : List LogRecord) × IsBaseOf records base

-- these are a catalogue, and behind it records of the base alone
abbrev pub IsBeginning : List LogRecord → Type 0
IsBeginning [] = ⊥
IsBeginning (r ∷ records) = (is_catalogue r ≡ true) × AreBase records

-- THE FIRST RECORD OUT OF PLACE: it is one of the base, and other records than those of a beginning stand before it.
-- Before it the base is in its place
pub record IsOutOfPlace (records : List LogRecord) (number : ℕ) : Type 0 where
  pub at : IsRecordAt records number
  pub mark : is_base at.entry ≡ true
  pub elsewhere : IsBeginning at.before → ⊥
  pub before : HasBaseInPlace at.before

-- the first record of the base, if there is one
pub record IsFirstAt (records : List LogRecord) (number : ℕ) : Type 0 where
  pub at : IsRecordAt records number
  pub mark : is_base at.entry ≡ true
  pub none_before : HasNoBase at.before

abbrev pub IsFirstOfBase : List LogRecord → Option ℕ → Type 0
IsFirstOfBase records None = HasNoBase records
IsFirstOfBase records (Some number) = IsFirstAt records number

-- the first record, if there is one, is not of the base
abbrev pub BeginsOtherwise : List LogRecord → Type 0
BeginsOtherwise [] = Unit {0}
BeginsOtherwise (r ∷ records) = is_base r ≡ false

-- so many records of the base stand at the front
abbrev pub IsBaseLength : List LogRecord → ℕ → Type 0
IsBaseLength records n = AreBase (take n records) × BeginsOtherwise (drop n records)
