use Rattle.std.proofs.Common.{◌≡◌, List, IfOk, map, ◌∙◌, subst}
use Rattle.batch_history.specs.declared.rows.WorkRow.{WorkRow}
use Rattle.records.proofs.Stepped.{works_found}
use Rattle.records.proofs.records.Records.works_of_step.Goals as goal

pub returns : goal.returns
returns c i own =
    subst (λ (l : List WorkRow). IfOk c.works_numbered.result (λ found. map (λ row. row.now) found.items ≡ l))
    (works_found i c.args.step.now c.args.self.now.executions c.args.self.now.works c.step_numbers.result.now c.step_numbers.ensures.keyed.works
    (c.step_numbers.ensures.numbers ∙ own c.args.step.now))
    c.works_numbered.ensures
