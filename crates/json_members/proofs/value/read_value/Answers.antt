use Rattle.std.proofs.Common.{rules, sym}
use Rattle.json_members.proofs.ByteLemmas.{data_of-of_text, data_of-of_none}
use Rattle.json_members.proofs.value.read_value.Goals as goal

pub returns-in-Ok : goal.returns-in-Ok
returns-in-Ok c = sym (data_of-of_text c.args.bytes.now _ c.in-Ok.ensures.ok.0 c.in-Ok.ensures.ok.1)

pub returns-in-Err-2 : goal.returns-in-Err-2
returns-in-Err-2 c = sym (data_of-of_none c.args.bytes.now (λ text. c.in-Err.ensures.err (λ memory. search rules) text))
