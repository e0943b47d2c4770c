use Rattle.std.proofs.Common.{arith}
use Rattle.std.proofs.lemmas.Map.Text.{text_keys}
use Rattle.record_lists.proofs.name_lists.NameLists.push.Goals as goal

pub returns-in_err-push-clause-unchanged : goal.returns-in_err-push-clause-unchanged
returns-in_err-push-clause-unchanged c = grind (arith, text_keys)

pub returns-in-Some-clause-added : goal.returns-in-Some-clause-added
returns-in-Some-clause-added c = λ q. grind (arith, text_keys)

pub returns-clause-added : goal.returns-clause-added
returns-clause-added c = λ q. grind (arith, text_keys)
