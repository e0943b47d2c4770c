-- A log that was compacted.
use Rattle.std.specs.Prelude.{◌≡◌, ◌⊎◌, Bool, true, false, Option, Some, None, List, [], ◌∷◌, ◌++◌, length, ℕ}
use Rattle.batch_history.specs.Lists.{Each}
use Rattle.batch_history.specs.Rows.{Rows}
use Rattle.batch_history.specs.Walks.{job_named}
use Rattle.durable_log.specs.Format.{LogRecord}
use Rattle.durable_log.specs.Logs.{records_of}
use Rattle.jsl_model.specs.Jobs.{JobTree}
use Rattle.script_engine.specs.Script.{catalogue_at}
use Rattle.script_log.specs.Runs.{History as LogHistory, history_of, last_catalogue}
use Rattle.catalogue_laws.specs.Leaving.{KeepsJobs, is_used}
use Rattle.logged_script.specs.Faults.{HasLogFault, HasOtherCatalogue, IsOpeningFault}
use Rattle.logged_script.specs.Histories.{jobs_at, jobs_read, rows_at}
use Rattle.logged_script.specs.Openings.{IsBegun}
use Rattle.logged_script.specs.declared.compaction.CompactionFault.{CompactionFault}
use Rattle.logged_script.specs.declared.compaction.CompactionFault.TheVariants as compactions
use Rattle.logged_script.specs.declared.fault.LogFault.{LogFault}
use Rattle.logged_script.specs.declared.fault.LogFault.TheVariants.{InUse, Foreign, Later, Damaged, OtherCatalogue, BadBase, OtherReply}
use Rattle.logged_script.specs.declared.opening.OpeningFault.{OpeningFault}
use Rattle.logged_script.specs.declared.opening.OpeningFault.TheVariants.{Refused, OutOfMemory}

-- A LOG'S HISTORY WITHOUT THE PAST of an earlier one: this catalogue, no line, and a base with the rows of the earlier one
pub record IsCompacted (tags : Bool) (earlier : LogHistory) (line : List ℕ) (now : LogHistory) : Type 0 where
  pub catalogue : now.catalogue ≡ line
  pub lines : now.lines ≡ []
  pub rows : rows_at tags now ≡ rows_at tags earlier

-- A LOG'S HISTORY WITHOUT THE PAST of an earlier one, over another catalogue: that may leave out the jobs that no job execution is of,
-- or have other ones under their ids
pub record IsCompactedOver (tags : Bool) (earlier : LogHistory) (line : List ℕ) (now : LogHistory) : Type 0 where
  pub catalogue : now.catalogue ≡ line
  pub lines : now.lines ≡ []
  pub keeps : KeepsJobs (rows_at tags earlier) (jobs_at now)
  pub rows : rows_at tags now ≡ record (rows_at tags earlier) { catalogue = jobs_at now }

-- ---- The jobs that may leave

-- a catalogue has a job as it is, wherever that stands
abbrev pub HasJob : List JobTree → JobTree → Type 0
HasJob given job = job_named given job.id ≡ Some job

-- a job may leave for this catalogue: that has it as it is, or no job execution is of it
abbrev pub MayLeave : Rows → List JobTree → JobTree → Type 0
MayLeave r given job = HasJob given job ⊎ (is_used r job.id ≡ false)

-- the job with this number, from 0, is the first of `kept` that the given catalogue does not have as it is, and of which there is a
-- job execution
pub record IsFirstLeft (r : Rows) (kept given : List JobTree) (number : ℕ) : Type 0 where
  pub before : List JobTree
  pub job : JobTree
  pub others : List JobTree
  pub split : kept ≡ before ++ job ∷ others
  pub place : number ≡ length before
  pub may_leave : Each (MayLeave r given) before
  pub differs : HasJob given job → ⊥
  pub used : is_used r job.id ≡ true

-- ---- A log that is compacted over another catalogue than it goes on with

-- A LOG IS MADE ANEW OVER THIS CATALOGUE: it goes on over the catalogue `kept`, and these are the records of that log, compacted
pub record IsMadeAnew (tags : Bool) (file line : List ℕ) (now : List LogRecord) : Type 0 where
  pub kept : List ℕ
  pub earlier : List LogRecord
  pub begun : IsBegun tags file kept earlier
  pub compacted : IsCompactedOver tags (history_of earlier) line (history_of now)

-- a whole log whose catalogue does not go on with that of the line. It goes on over its own last one, and the job with this number
-- is the first of that which may not leave
pub record HasJobLeft (tags : Bool) (file line : List ℕ) (number : ℕ) : Type 0 where
  pub job : ℕ
  pub other : HasOtherCatalogue file line job
  pub kept : List ℕ
  pub begun : IsBegun tags file kept (records_of file)
  pub first : IsFirstLeft (rows_at tags (history_of (records_of file))) (jobs_at (history_of (records_of file))) (jobs_read (catalogue_at line)) number

-- it can't be made anew over the catalogue of the line: it is refused over its own last catalogue, too; or all its jobs may leave, but
-- what was made isn't restored with the same rows
abbrev pub IsNotMadeAnew : Bool → List ℕ → List ℕ → Type 0
IsNotMadeAnew tags file line =
    ((fault : LogFault) × HasLogFault tags file (last_catalogue [] (records_of file)) fault)
    ⊎ KeepsJobs (rows_at tags (history_of (records_of file))) (jobs_read (catalogue_at line))

-- the number in the fault of another catalogue
abbrev pub other_job : OpeningFault → Option ℕ
other_job (Refused InUse) = None
other_job (Refused Foreign) = None
other_job (Refused Later) = None
other_job (Refused (Damaged number byte)) = None
other_job (Refused (OtherCatalogue job)) = Some job
other_job (Refused (BadBase number)) = None
other_job (Refused (OtherReply number)) = None
other_job OutOfMemory = None

module _ (tags : Bool) (file line : List ℕ) where
  -- the fault of a log by that number: another catalogue's is that of a job which may not leave; or it is that of any log, which can't
  -- be made anew
  abbrev pub IsCompactingFaultBy : Option ℕ → OpeningFault → Type 0
  IsCompactingFaultBy None fault = IsOpeningFault tags file line fault
  IsCompactingFaultBy (Some number) fault =
      HasJobLeft tags file line number ⊎ (IsOpeningFault tags file line fault × IsNotMadeAnew tags file line)

  -- THE FAULT OF A LOG THAT IS NOT RESTORED TO BE COMPACTED: that of any log, but for another catalogue
  abbrev pub IsCompactingFault : OpeningFault → Type 0
  IsCompactingFault fault = IsCompactingFaultBy (other_job fault) fault

-- the fault of a log over this other catalogue, if it isn't restored over its own one
abbrev pub fault_over_own : ℕ → OpeningFault → OpeningFault
fault_over_own job (Refused fault) = Refused (OtherCatalogue job)
fault_over_own job OutOfMemory = OutOfMemory

-- that of one which isn't compacted
abbrev pub fault_of_compaction : ℕ → CompactionFault → OpeningFault
fault_of_compaction job compactions.NotAlike = Refused (OtherCatalogue job)
fault_of_compaction job compactions.OutOfMemory = OutOfMemory
