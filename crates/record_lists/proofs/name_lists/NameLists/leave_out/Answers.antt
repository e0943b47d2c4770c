use Rattle.std.proofs.Common.{◌≡◌, [], refl, arith}
use Rattle.std.proofs.lemmas.Map.Text.{text_keys}
use Rattle.std.proofs.lemmas.Slice.Eq.{bytes_eq-Decides}
use Rattle.record_lists.specs.Numbers.{without_number}
use Rattle.record_lists.proofs.name_lists.NameLists.leave_out.Goals as goal

pub returns-in-Some : goal.returns-in-Some
returns-in-Some c = λ q. grind (arith, text_keys)

pub returns-in_default : goal.returns-in_default
returns-in_default c =
    let none : without_number c.args.number [] ≡ [] = refl in
    λ q. grind (arith, text_keys, bytes_eq-Decides, none)
