use Rattle.std.proofs.Common.{arith}
use Rattle.std.proofs.lemmas.Map.Text.{text_keys}
use Rattle.records.proofs.running_names.RunningNames.forget.Goals as goal

pub returns : goal.returns
returns c = λ q. grind (arith, text_keys)
