-- Restoring a script's log.
use Rattle.std.specs.Prelude.{ℕ, ◌≡◌, ◌⊎◌, List, [], ◌∷◌, ◌++◌, drop, Bool, if◌then◌else◌}
use Rattle.jsl_model.specs.Jobs.{JobTree}
use Rattle.batch_history.specs.declared.call.Entry.{Entry}
use Rattle.batch_history.specs.Legal.{IsLegal}
use Rattle.batch_history.specs.Rows.{History, history, rows}
use Rattle.catalogue_laws.specs.Leaving.{with_hidden}
use Rattle.jsl_json.specs.declared.fault.ReadFault.{ReadFault as CatalogueFault}
use Rattle.jsl_json.specs.declared.fault.ReadFault.TheVariants as catalogues
use Rattle.durable_log.specs.Format.{LogRecord}
use Rattle.durable_log.specs.Files.{StandsFor}
use Rattle.durable_log.specs.Logs.{records_of, IsAtRest, IsSealed, EndsAt}
use Rattle.durable_log.specs.declared.reading.ReadFault.{ReadFault}
use Rattle.durable_log.specs.declared.reading.ReadFault.TheVariants as reads
use Rattle.script_log.specs.Runs.{History as LogHistory, catalogue_record}
use Rattle.script_log.specs.Replays.{AreAlike, begun}
use Rattle.script_log.specs.declared.replays.ReplayFault.{ReplayFault}
use Rattle.script_log.specs.declared.replays.ReplayFault.TheVariants as replays
use Rattle.logged_script.specs.Histories.{IsOfBase, is_kept, reply_at}
use Rattle.logged_script.specs.Faults.{GoesOnFrom, HasBase}
use Rattle.logged_script.specs.declared.fault.LogFault.TheVariants.{Foreign, Later, Damaged, OtherReply}
use Rattle.logged_script.specs.declared.opening.OpeningFault.{OpeningFault}
use Rattle.logged_script.specs.declared.opening.OpeningFault.TheVariants.{Refused, OutOfMemory}

-- the records with which a run begins: those of the file, and after them the given catalogue if it has grown
abbrev pub records_begun : List LogRecord → List ℕ → Bool → List LogRecord
records_begun records line grown = if grown then records ++ catalogue_record line ∷ [] else records

-- A LOG GOES ON: the file stands for its records. Their last catalogue has the first jobs of the given one, their base is one
-- over it, and each kept line is kept again with a reply of its check. The given catalogue becomes one more record exactly if it
-- has more jobs
pub record IsBegun (tags : Bool) (file line : List ℕ) (now : List LogRecord) : Type 0 where
  pub whole : StandsFor (records_of file) file
  pub grown : Bool
  pub goes_on : GoesOnFrom (records_of file) line grown
  pub base : HasBase (records_of file) goes_on.given
  pub alike : AreAlike (is_kept tags) (reply_at tags) (begun line (records_of file)) (records_of file)
  pub records : now ≡ records_begun (records_of file) line grown

-- each legal history over the one catalogue is legal over the other, with equal rows
abbrev pub KeepsHistories : List JobTree → List JobTree → Type 0
KeepsHistories kept given = (limit : ℕ) (log : List Entry) → IsLegal limit (history kept log)
    → IsLegal limit (history given log) × (rows (history given log) ≡ record (rows (history kept log)) { catalogue = given })

-- each history with the rows of the one base is over the given catalogue, with the same jobs hidden behind it, one with the rows of the
-- other base
abbrev pub KeepsBase : List JobTree → LogHistory → LogHistory → Type 0
KeepsBase given old new = (g : History) → (from : IsOfBase old g) → IsOfBase new (history (with_hidden given from.hidden) g.log)

-- the bytes that are cut off: those after the records, and none if the file is at rest or sealed
pub record IsCutOff (file cut : List ℕ) : Type 0 where
  pub at : ℕ
  pub ends : EndsAt file at
  pub bytes : ((IsAtRest file at ⊎ IsSealed file at) × (cut ≡ [])) ⊎ (cut ≡ drop at file)

-- the fault of a log that was not read
abbrev pub fault_of_read : ReadFault → OpeningFault
fault_of_read reads.Foreign = Refused Foreign
fault_of_read reads.Later = Refused Later
fault_of_read (reads.Damaged number byte) = Refused (Damaged number byte)
fault_of_read reads.OutOfMemory = OutOfMemory

-- the fault of a log whose lines can't be run again
abbrev pub fault_of_replay : ReplayFault → OpeningFault
fault_of_replay (replays.OtherReply number) = Refused (OtherReply number)
fault_of_replay replays.OutOfMemory = OutOfMemory

-- the fault of a log whose last catalogue can't be read
abbrev pub fault_of_catalogue : CatalogueFault → OpeningFault
fault_of_catalogue catalogues.NotJson = Refused Foreign
fault_of_catalogue catalogues.NotACatalogue = Refused Foreign
fault_of_catalogue (catalogues.BadElement job element) = Refused Foreign
fault_of_catalogue (catalogues.InJob job fault) = Refused Foreign
fault_of_catalogue catalogues.OutOfMemory = OutOfMemory
