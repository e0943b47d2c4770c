use Rattle.std.proofs.Common.{rules, OnOk, subst}
use Rattle.serde_json.specs.Data.{Data}
use Rattle.script_text.specs.Telling.{Adds}
use Rattle.script_text.proofs.reply.tell_single.Goals as goal

pub returns-in-None : goal.returns-in-None
returns-in-None c = subst (λ (d : Data). OnOk c.tell_object.result (Adds d c.args.out.now c.tell_object.new.out)) (search rules) c.tell_object.ensures

pub returns-in-Some : goal.returns-in-Some
returns-in-Some c = subst (λ (d : Data). OnOk c.tell_object-in-Some.result (Adds d c.args.out.now c.tell_object-in-Some.new.out)) (search rules) c.tell_object-in-Some.ensures
