-- The faults of a log that is not restored.
use Rattle.std.specs.Prelude.{ℕ, ◌≡◌, ◌⊎◌, ◌<◌, ◌+◌, List, [], length, Bool, true, false, Ok, Err}
use Rattle.jsl_model.specs.Jobs.{JobTree}
use Rattle.jsl_json.specs.declared.fault.ReadFault.{ReadFault}
use Rattle.catalogue_growth.specs.Growth.{IsGrown, IsFirstOther}
use Rattle.durable_log.specs.Format.{LogRecord}
use Rattle.durable_log.specs.Files.{StandsFor, opening, Foreign as ForeignFile, Later as LaterFile}
use Rattle.durable_log.specs.Logs.{records_of, IsDamagedAt}
use Rattle.script_engine.specs.Script.{catalogue_at}
use Rattle.batch_history.specs.Legal.{most_numbered}
use Rattle.log_base.specs.Bases.{IsBase, IsBadBase}
use Rattle.script_log.specs.Bases.{HasBaseInPlace, IsOutOfPlace}
use Rattle.script_log.specs.Runs.{base_lines, last_catalogue}
use Rattle.script_log.specs.Catalogues.{BeginsWithCatalogue}
use Rattle.script_log.specs.Replays.{IsOtherReply}
use Rattle.logged_script.specs.Histories.{is_kept, reply_at}
use Rattle.logged_script.specs.declared.fault.LogFault.{LogFault}
use Rattle.logged_script.specs.declared.fault.LogFault.TheVariants.{InUse, Foreign, Later, Damaged, OtherCatalogue, BadBase, OtherReply}
use Rattle.logged_script.specs.declared.opening.OpeningFault.{OpeningFault}
use Rattle.logged_script.specs.declared.opening.OpeningFault.TheVariants.{Refused, OutOfMemory}

-- the records of a log that no script made: the first is no catalogue, or the last catalogue can't be read
abbrev pub IsNoScriptLog : List LogRecord → Type 0
IsNoScriptLog records = (BeginsWithCatalogue records → ⊥) ⊎ ((fault : ReadFault) × (catalogue_at (last_catalogue [] records) ≡ Err fault))

-- record 0 is a catalogue, and the last catalogue has these jobs
pub record HasCatalogue (records : List LogRecord) (kept : List JobTree) : Type 0 where
  pub begins : BeginsWithCatalogue records
  pub read : catalogue_at (last_catalogue [] records) ≡ Ok kept

-- the fault of a log whose last catalogue was not read
abbrev pub IsCatalogueFault : List LogRecord → OpeningFault → Type 0
IsCatalogueFault records (Refused InUse) = ⊥
IsCatalogueFault records (Refused Foreign) = IsNoScriptLog records
IsCatalogueFault records (Refused Later) = ⊥
IsCatalogueFault records (Refused (Damaged number byte)) = ⊥
IsCatalogueFault records (Refused (OtherCatalogue job)) = ⊥
IsCatalogueFault records (Refused (BadBase number)) = ⊥
IsCatalogueFault records (Refused (OtherReply number)) = ⊥
IsCatalogueFault records OutOfMemory = Unit {0}

-- the given catalogue has all jobs of the log's, and has more exactly if it has grown
abbrev pub HasGrown : List JobTree → List JobTree → Bool → Type 0
HasGrown kept given true = IsGrown kept given × (length kept < length given)
HasGrown kept given false = given ≡ kept

-- the job with this number is the first of the log's that the given catalogue does not have in the same place
abbrev pub IsOtherJob : List LogRecord → List JobTree → ℕ → Type 0
IsOtherJob records given job = (kept : List JobTree) × HasCatalogue records kept × IsFirstOther kept given job

module _ (records : List LogRecord) (given : List JobTree) where
  -- the fault of a log whose catalogue is not one from which the given catalogue has grown
  abbrev pub IsGrowthFault : OpeningFault → Type 0
  IsGrowthFault (Refused InUse) = ⊥
  IsGrowthFault (Refused Foreign) = IsNoScriptLog records
  IsGrowthFault (Refused Later) = ⊥
  IsGrowthFault (Refused (Damaged number byte)) = ⊥
  IsGrowthFault (Refused (OtherCatalogue job)) = IsOtherJob records given job
  IsGrowthFault (Refused (BadBase number)) = ⊥
  IsGrowthFault (Refused (OtherReply number)) = ⊥
  IsGrowthFault OutOfMemory = Unit {0}

-- record 0 is a catalogue, and the catalogue of the line has all jobs of the last one, and more exactly if it
-- has grown
pub record GoesOnFrom (records : List LogRecord) (line : List ℕ) (grown : Bool) : Type 0 where
  pub kept : List JobTree
  pub given : List JobTree
  pub has : HasCatalogue records kept
  pub is_given : catalogue_at line ≡ Ok given
  pub has_grown : HasGrown kept given grown

-- a whole log whose catalogue does not go on with that of the line: the job with this number differs
pub record HasOtherCatalogue (file line : List ℕ) (job : ℕ) : Type 0 where
  pub whole : StandsFor (records_of file) file
  pub given : List JobTree
  pub is_given : catalogue_at line ≡ Ok given
  pub other : IsOtherJob (records_of file) given job

-- the base stands behind the first catalogue and nowhere else, and is one over a catalogue with these jobs
pub record HasBase (records : List LogRecord) (given : List JobTree) : Type 0 where
  pub in_place : HasBaseInPlace records
  pub is_base : IsBase most_numbered given (base_lines records)

-- the record with this number is the first of the base that stands elsewhere; or the base is in its place, and the record's line
-- is the first one that may not stand there
abbrev pub IsBadBaseAt : List LogRecord → List JobTree → ℕ → Type 0
IsBadBaseAt records given number =
    IsOutOfPlace records number
    ⊎ (HasBaseInPlace records × ((place : ℕ) × (number ≡ place + 1) × IsBadBase most_numbered given (base_lines records) place))

-- the fault of a log without the repository of its base
abbrev pub IsNoBase : List LogRecord → List JobTree → OpeningFault → Type 0
IsNoBase records given (Refused InUse) = ⊥
IsNoBase records given (Refused Foreign) = ⊥
IsNoBase records given (Refused Later) = ⊥
IsNoBase records given (Refused (Damaged number byte)) = ⊥
IsNoBase records given (Refused (OtherCatalogue job)) = ⊥
IsNoBase records given (Refused (BadBase number)) = IsBadBaseAt records given number
IsNoBase records given (Refused (OtherReply number)) = ⊥
IsNoBase records given OutOfMemory = Unit {0}

-- a whole log whose catalogue goes on with that of the line: the record with this number is the first that can't be of its base
pub record HasBadBase (file line : List ℕ) (number : ℕ) : Type 0 where
  pub whole : StandsFor (records_of file) file
  pub grown : Bool
  pub goes_on : GoesOnFrom (records_of file) line grown
  pub bad : IsBadBaseAt (records_of file) goes_on.given number

-- a whole log whose catalogue goes on with that of the line, with a base: the record with this number is the first that is not
-- kept again with a reply of its check
pub record HasOtherReply (tags : Bool) (file line : List ℕ) (number : ℕ) : Type 0 where
  pub whole : StandsFor (records_of file) file
  pub grown : Bool
  pub goes_on : GoesOnFrom (records_of file) line grown
  pub base : HasBase (records_of file) goes_on.given
  pub other : IsOtherReply (is_kept tags) (reply_at tags) line (records_of file) number

-- no script made the file: it is no log, or a whole log whose catalogue can't be read
abbrev pub IsForeign : List ℕ → Type 0
IsForeign file = (opening file ≡ ForeignFile) ⊎ (StandsFor (records_of file) file × IsNoScriptLog (records_of file))

module _ (tags : Bool) (file line : List ℕ) where
  -- THE FAULT OF A REFUSED LOG, whose lines have tags or not, by its file and the line of the given catalogue. A
  -- fault is the first of the order Foreign, Later, Damaged, Foreign, OtherCatalogue, BadBase, OtherReply: each says that
  -- no earlier one is there
  abbrev pub HasLogFault : LogFault → Type 0
  HasLogFault InUse = ⊥
  HasLogFault Foreign = IsForeign file
  HasLogFault Later = opening file ≡ LaterFile
  HasLogFault (Damaged number byte) = IsDamagedAt file number byte
  HasLogFault (OtherCatalogue job) = HasOtherCatalogue file line job
  HasLogFault (BadBase number) = HasBadBase file line number
  HasLogFault (OtherReply number) = HasOtherReply tags file line number

-- the fault of a log that was not restored
abbrev pub IsOpeningFault : Bool → List ℕ → List ℕ → OpeningFault → Type 0
IsOpeningFault tags file line (Refused fault) = HasLogFault tags file line fault
IsOpeningFault tags file line OutOfMemory = Unit {0}
