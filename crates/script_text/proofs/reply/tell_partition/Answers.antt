use Rattle.std.proofs.Common.{rules, OnOk, subst}
use Rattle.serde_json.specs.Data.{Data}
use Rattle.script_text.specs.Telling.{Adds}
use Rattle.script_text.proofs.reply.tell_partition.Goals as goal

pub returns : goal.returns
returns c = subst (λ (d : Data). OnOk c.tell_object.result (Adds d c.args.out.now c.tell_object.new.out)) (search rules) c.tell_object.ensures
