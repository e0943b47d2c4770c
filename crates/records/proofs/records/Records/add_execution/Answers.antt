use Rattle.std.proofs.Common.{◌≡◌, [], ◌∷◌, ◌++◌, sym, subst}
use Rattle.std.specs.Result.{OnOk, OnErr}
use Rattle.records.specs.Maps.{Maps, AreBelow, execution_numbers}
use Rattle.records.proofs.records.Records.add_execution.Goals as goal

pub put_execution-requires : goal.put_execution-requires
put_execution-requires c = subst (λ (m : Maps). AreBelow c.args.row.execution (execution_numbers m.executions)) (sym c.index_steps.ensures) c.requires

pub returns-in-Ok-clause-added : goal.returns-in-Ok-clause-added
returns-in-Ok-clause-added c =
    subst (λ (m : Maps). OnOk c.put_execution.result (c.put_execution.new.self ≡ record m { executions = m.executions ++ c.args.row ∷ [] })) c.index_steps.ensures c.put_execution.ensures.added

pub returns-in-Ok-clause-unchanged : goal.returns-in-Ok-clause-unchanged
returns-in-Ok-clause-unchanged c =
    subst (λ (m : Maps). OnErr c.put_execution.result (c.put_execution.new.self ≡ m)) c.index_steps.ensures c.put_execution.ensures.unchanged
