-- The reasons why a run ends before the end of its lines.
use Rattle.std.specs.Prelude.{ℕ, ◌≡◌, ◌<◌, ◌≤◌, ◌+◌, ◌^◌, List, ◌++◌, length, Bool, true, false, Option, Result, Ok, Err}
use Rattle.durable_log.specs.Format.{LogRecord}
use Rattle.durable_log.specs.Logs.{records_of, waiting_in, behind_gate, link_of}
use Rattle.durable_log.specs.declared.log.Log.{Log}
use Rattle.durable_log.specs.declared.log.CommitFault.{CommitFault}
use Rattle.durable_log.specs.declared.log.CommitFault.TheVariants as commits
use Rattle.script_lines.specs.declared.line.Line.{Line}
use Rattle.script_lines.specs.declared.line_fault.LineFault.{LineFault}
use Rattle.script_lines.specs.declared.line_fault.LineFault.TheVariants as lines
use Rattle.script_log.specs.Runs.{Answering, records_of_lines, history_of}
use Rattle.script_log.specs.Hosts.{State}
use Rattle.script_log.specs.Reading.{Reading, lines_in, HasReadFault}
use Rattle.script_log.specs.declared.fault.RunFault.{RunFault}
use Rattle.script_log.specs.declared.fault.RunFault.TheVariants as faults

-- the fault of a run if there is no next line
abbrev pub run_fault : LineFault → RunFault
run_fault lines.Read = faults.Read
run_fault lines.Write = faults.Write
run_fault lines.OutOfMemory = faults.OutOfMemory

-- the reason why there is no next line
abbrev pub line_fault : RunFault → LineFault
line_fault faults.Read = lines.Read
line_fault faults.Write = lines.Write
line_fault (faults.Log fault) = lines.Write
line_fault faults.OutOfMemory = lines.OutOfMemory

-- the result of a call for the next line
abbrev pub line_result : Result (Option Line) RunFault → Result (Option Line) LineFault
line_result (Ok line) = Ok line
line_result (Err fault) = Err (line_fault fault)

-- whether the file or the listener failed
abbrev pub is_broken : RunFault → Bool
is_broken faults.Read = false
is_broken faults.Write = true
is_broken (faults.Log fault) = true
is_broken faults.OutOfMemory = false

-- whether a run ended as the file or the listener failed
abbrev pub has_broken : Result Unit RunFault → Bool
has_broken (Ok u) = false
has_broken (Err fault) = is_broken fault

-- P holds, unless the file or the listener failed
abbrev pub UnlessBroken : {T : Type 0} → Result T RunFault → Type 0 → Type 0
UnlessBroken (Ok x) P = P
UnlessBroken (Err fault) P = is_broken fault ≡ false → P

-- the records on the disk, and the waiting records
abbrev pub all_records : {D : Type 0} (seen : D → List ℕ) → Log D → List LogRecord
all_records seen log = records_of (seen log.host) ++ waiting_in log

-- THE FILE IS FULL: these are its records with others that wait, and if those were written, it would have
-- 2^62 bytes or more
abbrev pub IsFullWith : List LogRecord → List ℕ → Type 0
IsFullWith records file = (waits : List LogRecord) × (records_of file ++ waits ≡ records) × (2 ^ 62 ≤ length file + length (behind_gate (link_of file) waits))

-- the reason why a commit failed: the file failed, or it is full with all records, those that wait too
abbrev pub HasFailed : List LogRecord → State → State → CommitFault → Type 0
HasFailed records old new commits.Failed = old.file_faults < new.file_faults
HasFailed records old new commits.Full = IsFullWith records new.file

-- the reason why the log is of no more use: the listener failed, or a commit failed
abbrev pub HasBroken : List LogRecord → State → State → RunFault → Type 0
HasBroken records old new faults.Read = Unit {0}
HasBroken records old new faults.Write = old.listener_faults < new.listener_faults
HasBroken records old new (faults.Log fault) = HasFailed records old new fault
HasBroken records old new faults.OutOfMemory = Unit {0}

-- the file is full with these records and those of the first of the lines
abbrev pub IsFullBy : Answering → List LogRecord → List (List ℕ) → List ℕ → Type 0
IsFullBy e records lines file = (done : List (List ℕ)) × (others : List (List ℕ)) × (done ++ others ≡ lines)
    × IsFullWith (records ++ records_of_lines e.keeps e.reply (history_of records) done) file

module _ (e : Answering) (old : State) (x : Reading) (new : State) where
  -- the reason why a run ended: the reader failed, or may not be called again; or the listener or the file
  -- failed since the run's begin, or the file is full
  abbrev pub HasCause : RunFault → Type 0
  HasCause faults.Read = HasReadFault x
  HasCause faults.Write = old.listener_faults < new.listener_faults
  HasCause (faults.Log commits.Failed) = old.file_faults < new.file_faults
  HasCause (faults.Log commits.Full) = IsFullBy e (records_of old.file) (lines_in x) new.file
  HasCause faults.OutOfMemory = Unit {0}
