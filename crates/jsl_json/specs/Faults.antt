-- The names of a catalogue's faults.
use Rattle.std.specs.Prelude.{ℕ, List, codes}
use Rattle.jsl_model.specs.Faults.{fault_name}
use Rattle.jsl_json.specs.declared.fault.ReadFault.{ReadFault}
use Rattle.jsl_json.specs.declared.fault.ReadFault.TheVariants.{NotJson, NotACatalogue, BadElement, InJob, OutOfMemory}

-- the name that a fault prints as
abbrev pub read_fault_name : ReadFault → List ℕ
read_fault_name NotJson = codes "NotJson"
read_fault_name NotACatalogue = codes "NotACatalogue"
read_fault_name (BadElement job element) = codes "BadElement"
read_fault_name (InJob job fault) = fault_name fault
read_fault_name OutOfMemory = codes "OutOfMemory"
