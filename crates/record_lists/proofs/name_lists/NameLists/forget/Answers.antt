use Rattle.std.proofs.Common.{arith}
use Rattle.std.proofs.lemmas.Map.Text.{text_keys}
use Rattle.record_lists.proofs.name_lists.NameLists.forget.Goals as goal

pub returns : goal.returns
returns c = λ q. grind (arith, text_keys)
