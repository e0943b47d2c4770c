use Rattle.std.proofs.Common.{rules, OnOk, subst}
use Rattle.serde_json.specs.Data.{Data}
use Rattle.script_text.specs.Telling.{Adds}
use Rattle.script_text.proofs.answer.tell_answer.Goals as goal

pub returns-in-Ok-JobExecutions : goal.returns-in-Ok-JobExecutions
returns-in-Ok-JobExecutions c =
    subst (λ (d : Data). OnOk c.tell_one-in-Ok-JobExecutions.result (Adds d c.args.out.now c.tell_one-in-Ok-JobExecutions.new.out)) (search rules) c.tell_one-in-Ok-JobExecutions.ensures

pub returns-in-Ok-JobExecution : goal.returns-in-Ok-JobExecution
returns-in-Ok-JobExecution c =
    subst (λ (d : Data). OnOk c.tell_one-in-Ok-JobExecution.result (Adds d c.args.out.now c.tell_one-in-Ok-JobExecution.new.out)) (search rules) c.tell_one-in-Ok-JobExecution.ensures

pub returns-in-Ok-StepExecutions : goal.returns-in-Ok-StepExecutions
returns-in-Ok-StepExecutions c =
    subst (λ (d : Data). OnOk c.tell_one-in-Ok-StepExecutions.result (Adds d c.args.out.now c.tell_one-in-Ok-StepExecutions.new.out)) (search rules) c.tell_one-in-Ok-StepExecutions.ensures
