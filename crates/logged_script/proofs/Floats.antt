-- No fault has a number that is a float.
use Rattle.std.proofs.Common.{◌≡◌, ◌++◌, ◌∷◌, [], false, refl}
use Rattle.serde_json.specs.Data.{Data}
use Rattle.serde_json.specs.Written.{compact_text, has_float}
use Rattle.script_text.specs.Written.{line_of}
use Rattle.logged_script.specs.Texts.{log_fault_data}
use Rattle.logged_script.specs.declared.fault.LogFault.{LogFault}
use Rattle.logged_script.specs.declared.fault.LogFault.TheVariants.{InUse, Foreign, Later, Damaged, OtherCatalogue, BadBase, OtherReply}

pub fault_has_no_float : (fault : LogFault) → has_float (log_fault_data fault) ≡ false
fault_has_no_float InUse = refl
fault_has_no_float Foreign = refl
fault_has_no_float Later = refl
fault_has_no_float (Damaged number byte) = refl
fault_has_no_float (OtherCatalogue job) = refl
fault_has_no_float (BadBase number) = refl
fault_has_no_float (OtherReply number) = refl

-- a line is compact JSON and a line feed
pub line_is : (d : Data) → compact_text d ++ 10 ∷ [] ≡ line_of d
unfolding line_of
line_is d = refl
