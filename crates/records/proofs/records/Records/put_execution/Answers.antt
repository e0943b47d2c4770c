use Rattle.std.proofs.Common.{◌≡◌, ◌++◌, ◌∷◌, [], List, length, sym, ◌∙◌, ap, subst, arith, refl}
use Rattle.batch_history.specs.declared.rows.ExecutionRow.{ExecutionRow}
use Rattle.records.specs.Belonging.{works_of}
use Rattle.records.specs.Indexes.{AreIndexed, AreRunning, numbers_named, numbers_under, AreStepped, has_steps, numbers_of_step}
use Rattle.records.specs.Maps.{Maps, AreBelow, execution_numbers}
use Rattle.records.proofs.Indexing.{execution_added, same_numbers}
use Rattle.batch_history.specs.Answers.{counts_of, total, with_one_more}
use Rattle.batch_history.specs.Replies.{row_status}
use Rattle.records.proofs.Stepped as stepped
use Rattle.records.proofs.Tallies.{counts_added, total_rows}
use Rattle.records.proofs.records.Records.put_execution.Goals as goal

pub add-requires : goal.add-requires
add-requires c =
    let same : total c.self.inside.counts ≡ length c.self.inside.executions.rows = ap total c.self.invariant.2 ∙ total_rows c.self.inside.executions.rows in
    omega (arith, same, c.in-Ok.ensures.few)

pub invariant_of-self-2 : goal.invariant_of-self-2
invariant_of-self-2 c =
    let below = subst (λ (m : Maps). AreBelow c.args.row.execution (execution_numbers m.executions)) (sym c.self.view_is) c.requires in
    let added = c.push_reserved.ensures ∙ ap (λ (l : List ExecutionRow). l ++ c.args.row ∷ []) c.index_execution.ensures.rows in (
      subst (λ (l : List ExecutionRow).
          AreIndexed record { instances = c.self.inside.instances.rows; executions = l; works = c.self.inside.works.rows; checkpoints = c.self.inside.checkpoints }
          (numbers_named c.self.inside.instances_by_name) (numbers_under c.index_execution.new.by_instance) (numbers_under c.self.inside.works_by_execution)) (sym added)
          (execution_added _ _ _ _ _ c.args.row c.self.invariant.0 below
          c.in-Ok.ensures.owned),
      subst (λ (l : List ExecutionRow). AreStepped record { instances = c.self.inside.instances.rows; executions = l; works = c.self.inside.works.rows; checkpoints = c.self.inside.checkpoints } (numbers_of_step c.keep_if.new.self) (has_steps c.keep_if.new.self)) (sym added)
          (stepped.execution_added record { instances = c.self.inside.instances.rows; executions = c.self.inside.executions.rows; works = c.self.inside.works.rows; checkpoints = c.self.inside.checkpoints } (numbers_of_step c.self.inside.works_by_step) _ (has_steps c.self.inside.works_by_step) _ c.has_no_work-has_no_work.result c.args.row c.self.invariant.1
          (λ none. subst (λ (m : Maps). works_of c.args.row.execution m.works ≡ []) (sym c.self.view_is) (c.has_no_work-has_no_work.ensures none)) c.keep_if.ensures.has c.keep_if.ensures.left),
      c.add.ensures
          ∙ (ap (λ s. with_one_more s c.self.inside.counts) c.status.ensures
          ∙ (ap (with_one_more (row_status c.args.row)) c.self.invariant.2
          ∙ (sym (counts_added c.args.row c.self.inside.executions.rows) ∙ ap counts_of (sym added)))),
      subst (λ (l : List ExecutionRow). AreRunning c.add_running.new.running l) (sym added) (c.add_running.ensures c.self.inside.executions.rows c.self.invariant.3),
    )

pub push_reserved-requires-clause-above : goal.push_reserved-requires-clause-above
push_reserved-requires-clause-above c =
    let below = subst (λ (m : Maps). AreBelow c.args.row.execution (execution_numbers m.executions)) (sym c.self.view_is) c.requires in
    subst (λ (l : List ExecutionRow). AreBelow c.args.row.execution (execution_numbers l)) (sym c.index_execution.ensures.rows) below

pub returns-clause-added : goal.returns-clause-added
returns-clause-added c =
    let added = c.push_reserved.ensures ∙ ap (λ (l : List ExecutionRow). l ++ c.args.row ∷ []) c.index_execution.ensures.rows in
    (λ k. record { instances = c.self.inside.instances.rows; executions = added k; works = c.self.inside.works.rows; checkpoints = c.self.inside.checkpoints })
    ∙ ap (λ (m : Maps). record m { executions = m.executions ++ c.args.row ∷ [] }) c.self.view_is

pub invariant_of-self : goal.invariant_of-self
invariant_of-self c =
    let kept = c.in-Err.ensures in (
      subst (λ (l : List ExecutionRow). AreIndexed record { instances = c.self.inside.instances.rows; executions = l; works = c.self.inside.works.rows; checkpoints = c.self.inside.checkpoints }
          (numbers_named c.self.inside.instances_by_name) (numbers_under c.index_execution.new.by_instance) (numbers_under c.self.inside.works_by_execution)) (sym kept.rows)
          (same_numbers _ _ _ _ _ _ _ c.self.invariant.0 (λ q. refl) kept.unowned (λ x. refl)),
      subst (λ (l : List ExecutionRow). AreStepped record { instances = c.self.inside.instances.rows; executions = l; works = c.self.inside.works.rows; checkpoints = c.self.inside.checkpoints } (numbers_of_step c.self.inside.works_by_step) (has_steps c.self.inside.works_by_step)) (sym kept.rows) c.self.invariant.1,
      c.self.invariant.2 ∙ ap counts_of (sym kept.rows),
      subst (AreRunning c.self.inside.running) (sym kept.rows) c.self.invariant.3,
    )

pub returns-in-Err-clause-unchanged : goal.returns-in-Err-clause-unchanged
returns-in-Err-clause-unchanged c = (λ k. record { instances = c.self.inside.instances.rows; executions = c.in-Err.ensures.rows k; works = c.self.inside.works.rows; checkpoints = c.self.inside.checkpoints }) ∙ c.self.view_is

pub push_reserved-requires-clause-room : goal.push_reserved-requires-clause-room
push_reserved-requires-clause-room c = c.in-Ok.ensures.room
