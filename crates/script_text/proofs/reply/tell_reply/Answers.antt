use Rattle.std.proofs.Common.{rules, OnOk, subst}
use Rattle.serde_json.specs.Data.{Data}
use Rattle.script_text.specs.Telling.{Adds}
use Rattle.script_text.proofs.reply.tell_reply.Goals as goal

pub returns-in-Ok-Execution : goal.returns-in-Ok-Execution
returns-in-Ok-Execution c =
    subst (λ (d : Data). OnOk c.tell_one.result (Adds d c.args.out.now c.tell_one.new.out)) (search rules) c.tell_one.ensures
