-- The text of a catalogue's faults.
use Rattle.std.specs.Prelude.{ℕ, List, codes}
use Rattle.serde_json.specs.Data.{Data, null, string, object, member, no_members}
use Rattle.jsl_json.specs.Faults.{read_fault_name}
use Rattle.jsl_json.specs.declared.fault.ReadFault.{ReadFault}
use Rattle.jsl_json.specs.declared.fault.ReadFault.TheVariants.{NotJson, NotACatalogue, BadElement, InJob, OutOfMemory}
use Rattle.script_text.specs.Written.{one, count, count_or_null, line_of}

-- a fault by its name, with the numbers of the job and of the element: OutOfMemory has no text
abbrev pub fault_data : ReadFault → Data
fault_data NotJson = one (codes "fault") (string (read_fault_name NotJson))
fault_data NotACatalogue = one (codes "fault") (string (read_fault_name NotACatalogue))
fault_data (BadElement job element) = object
    (member (codes "element") (count_or_null element)
    (member (codes "fault") (string (read_fault_name (BadElement job element)))
    (member (codes "job") (count job) no_members)))
fault_data (InJob job fault) = object
    (member (codes "fault") (string (read_fault_name (InJob job fault)))
    (member (codes "job") (count job) no_members))
fault_data OutOfMemory = null

-- the line of a fault
abbrev pub fault_text : ReadFault → List ℕ
fault_text fault = line_of (fault_data fault)
