-- The element of a fault's number is found.
use Rattle.std.proofs.Common.{◌≡◌, ◌∙◌, ℕ, ◌^◌, ◌<◌, length, slice_get, false, Option, Some, None, option_map, IsSomeAnd, Err, sym, subst}
use Rattle.std.proofs.lemmas.Option.{same_Some, none-some}
use Rattle.serde_json.specs.Data.{Items}
use Rattle.jsl_json.specs.declared.fault.ReadFault.TheVariants.{BadElement}
use Rattle.jsl_json.specs.Elements.{elements_at}
use Rattle.element_numbers.specs.declared.numbering.Found.{Found}
use Rattle.element_numbers.specs.Numbering.{Numbered, IsWrong, all_in}
use Rattle.element_numbers.specs.Ways.{found_of}
use Rattle.element_numbers.proofs.Counting.{wrong_there}

wrong_found : (found : Option Found) (e : Numbered) → option_map found_of found ≡ Some e → IsWrong e → IsSomeAnd found (λ x. IsWrong (found_of x))
wrong_found None e is wrong = absurd (none-some e is)
wrong_found (Some x) e is wrong = subst IsWrong (sym (same_Some (found_of x) e is)) wrong

pub fault_found : (found : Option Found) (ds : Items) (m job : ℕ) → option_map found_of found ≡ slice_get (all_in false 0 ds) m → length (all_in false 0 ds) < 2 ^ 64 → elements_at job ds 0 ≡ Err (BadElement job (Some m))
    → IsSomeAnd found (λ x. IsWrong (found_of x))
fault_found found ds m job is few fails =
    let w = wrong_there job m ds fails few in
    wrong_found found w.0 (is ∙ w.1) w.2
