-- The lines of a log's faults.
use Rattle.std.specs.Prelude.{ℕ, List, codes}
use Rattle.serde_json.specs.Data.{Data, string, object, member, no_members}
use Rattle.script_text.specs.Written.{one, count, line_of}
use Rattle.logged_script.specs.declared.fault.LogFault.{LogFault}
use Rattle.logged_script.specs.declared.fault.LogFault.TheVariants.{InUse, Foreign, Later, Damaged, OtherCatalogue, BadBase, OtherReply}

-- the name that a fault prints as
abbrev pub log_fault_name : LogFault → List ℕ
log_fault_name InUse = codes "LogInUse"
log_fault_name Foreign = codes "LogForeign"
log_fault_name Later = codes "LogLater"
log_fault_name (Damaged number byte) = codes "LogDamaged"
log_fault_name (OtherCatalogue job) = codes "LogOtherCatalogue"
log_fault_name (BadBase number) = codes "LogBadBase"
log_fault_name (OtherReply number) = codes "LogOtherReply"

-- a fault by its name alone
abbrev pub named : LogFault → Data
named fault = one (codes "fault") (string (log_fault_name fault))

-- a fault by its name, and a number that has a name behind it
abbrev pub numbered : LogFault → List ℕ → ℕ → Data
numbered fault name n = object
    (member (codes "fault") (string (log_fault_name fault))
    (member name (count n) no_members))

-- a damaged log, with the numbers of the record and of its byte
abbrev pub damaged : ℕ → ℕ → Data
damaged number byte = object
    (member (codes "byte") (count byte)
    (member (codes "fault") (string (log_fault_name (Damaged number byte)))
    (member (codes "record") (count number) no_members)))

-- a fault by its name, with the numbers of the record, of its byte and of the job
abbrev pub log_fault_data : LogFault → Data
log_fault_data InUse = named InUse
log_fault_data Foreign = named Foreign
log_fault_data Later = named Later
log_fault_data (Damaged number byte) = damaged number byte
log_fault_data (OtherCatalogue job) = numbered (OtherCatalogue job) (codes "job") job
log_fault_data (BadBase number) = numbered (BadBase number) (codes "record") number
log_fault_data (OtherReply number) = numbered (OtherReply number) (codes "record") number

-- the line of a fault
abbrev pub log_fault_text : LogFault → List ℕ
log_fault_text fault = line_of (log_fault_data fault)
