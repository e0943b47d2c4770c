use Rattle.std.proofs.Common.{◌≡◌, ◌++◌, ◌∷◌, [], List, length, sym, ◌∙◌, ap, subst, arith, refl}
use Rattle.batch_history.specs.declared.rows.JobInstance.{JobInstance}
use Rattle.batch_history.specs.declared.rows.ExecutionRow.{ExecutionRow}
use Rattle.records.specs.Belonging.{works_of}
use Rattle.records.specs.Indexes.{AreIndexed, AreRunning, numbers_named, numbers_under, AreStepped, has_steps, numbers_of_step}
use Rattle.records.specs.Maps.{Maps, AreBelow, instance_numbers, execution_numbers}
use Rattle.records.proofs.Indexing.{instance_added, execution_added, name_below, same_numbers}
use Rattle.batch_history.specs.Answers.{counts_of, total, with_one_more}
use Rattle.batch_history.specs.Replies.{row_status}
use Rattle.records.proofs.Stepped as stepped
use Rattle.records.proofs.Tallies.{counts_added, total_rows}
use Rattle.records.proofs.records.Records.add_instance.Goals as goal

pub index_instance-requires : goal.index_instance-requires
index_instance-requires c =
    let below = subst (λ (m : Maps). AreBelow c.args.instance.instance (instance_numbers m.instances)) (sym c.self.view_is) c.requires.instance in
    name_below _ _ _ _ c.args.instance c.self.invariant.0 below

pub add-requires : goal.add-requires
add-requires c =
    let same : total c.self.inside.counts ≡ length c.self.inside.executions.rows = ap total c.self.invariant.2 ∙ total_rows c.self.inside.executions.rows in
    omega (arith, same, c.in-Ok.ensures.few)

pub invariant_of-self-2 : goal.invariant_of-self-2
invariant_of-self-2 c =
    let first_below = subst (λ (m : Maps). AreBelow c.args.first.execution (execution_numbers m.executions)) (sym c.self.view_is) c.requires.first in
    let below = subst (λ (m : Maps). AreBelow c.args.instance.instance (instance_numbers m.instances)) (sym c.self.view_is) c.requires.instance in
    let first_added = c.push_reserved.ensures ∙ ap (λ (l : List ExecutionRow). l ++ c.args.first ∷ []) c.index_instance.ensures.executions in
    let added = c.push_reserved-2.ensures ∙ ap (λ (l : List JobInstance). l ++ c.args.instance ∷ []) c.index_instance.ensures.instances in
    let more = execution_added _ _ _ _ _ c.args.first c.self.invariant.0 first_below c.in-Ok.ensures.owned in (
      subst (λ (l : List JobInstance).
          AreIndexed record { instances = l; executions = c.push_reserved.new.self.rows; works = c.self.inside.works.rows; checkpoints = c.self.inside.checkpoints }
          (numbers_named c.index_instance.new.by_name) (numbers_under c.index_instance.new.by_instance) (numbers_under c.self.inside.works_by_execution)) (sym added)
          (subst (λ (l : List ExecutionRow).
          AreIndexed record { instances = c.self.inside.instances.rows ++ c.args.instance ∷ []; executions = l; works = c.self.inside.works.rows; checkpoints = c.self.inside.checkpoints }
          (numbers_named c.index_instance.new.by_name) (numbers_under c.index_instance.new.by_instance) (numbers_under c.self.inside.works_by_execution)) (sym first_added)
          (instance_added _ _ _ _ _ c.args.instance more below c.in-Ok.ensures.named)),
      subst (λ (l : List ExecutionRow). AreStepped record { instances = c.push_reserved-2.new.self.rows; executions = l; works = c.self.inside.works.rows; checkpoints = c.self.inside.checkpoints } (numbers_of_step c.keep_if.new.self) (has_steps c.keep_if.new.self)) (sym first_added)
          (stepped.execution_added record { instances = c.push_reserved-2.new.self.rows; executions = c.self.inside.executions.rows; works = c.self.inside.works.rows; checkpoints = c.self.inside.checkpoints } (numbers_of_step c.self.inside.works_by_step) _ (has_steps c.self.inside.works_by_step) _ c.has_no_work-has_no_work.result c.args.first c.self.invariant.1
          (λ none. subst (λ (m : Maps). works_of c.args.first.execution m.works ≡ []) (sym c.self.view_is) (c.has_no_work-has_no_work.ensures none)) c.keep_if.ensures.has c.keep_if.ensures.left),
      c.add.ensures
          ∙ (ap (λ s. with_one_more s c.self.inside.counts) c.status.ensures
          ∙ (ap (with_one_more (row_status c.args.first)) c.self.invariant.2
          ∙ (sym (counts_added c.args.first c.self.inside.executions.rows) ∙ ap counts_of (sym first_added)))),
      subst (λ (l : List ExecutionRow). AreRunning c.add_running.new.running l) (sym first_added) (c.add_running.ensures c.self.inside.executions.rows c.self.invariant.3),
    )

pub push_reserved-requires-clause-above : goal.push_reserved-requires-clause-above
push_reserved-requires-clause-above c =
    let below = subst (λ (m : Maps). AreBelow c.args.first.execution (execution_numbers m.executions)) (sym c.self.view_is) c.requires.first in
    subst (λ (l : List ExecutionRow). AreBelow c.args.first.execution (execution_numbers l)) (sym c.index_instance.ensures.executions) below

pub push_reserved-requires-2-clause-above : goal.push_reserved-requires-2-clause-above
push_reserved-requires-2-clause-above c =
    let below = subst (λ (m : Maps). AreBelow c.args.instance.instance (instance_numbers m.instances)) (sym c.self.view_is) c.requires.instance in
    subst (λ (l : List JobInstance). AreBelow c.args.instance.instance (instance_numbers l)) (sym c.index_instance.ensures.instances) below

pub returns-clause-added : goal.returns-clause-added
returns-clause-added c =
    let first_added = c.push_reserved.ensures ∙ ap (λ (l : List ExecutionRow). l ++ c.args.first ∷ []) c.index_instance.ensures.executions in
    let added = c.push_reserved-2.ensures ∙ ap (λ (l : List JobInstance). l ++ c.args.instance ∷ []) c.index_instance.ensures.instances in
    (λ k. record { instances = added k; executions = first_added k; works = c.self.inside.works.rows; checkpoints = c.self.inside.checkpoints })
    ∙ ap (λ (m : Maps). record m { instances = m.instances ++ c.args.instance ∷ []; executions = m.executions ++ c.args.first ∷ [] }) c.self.view_is

pub invariant_of-self : goal.invariant_of-self
invariant_of-self c =
    let kept = c.in-Err.ensures in (
      subst (λ (l : List JobInstance). AreIndexed record { instances = l; executions = c.index_instance.new.executions.rows; works = c.self.inside.works.rows; checkpoints = c.self.inside.checkpoints }
          (numbers_named c.index_instance.new.by_name) (numbers_under c.index_instance.new.by_instance) (numbers_under c.self.inside.works_by_execution)) (sym kept.instances)
          (subst (λ (l : List ExecutionRow). AreIndexed record { instances = c.self.inside.instances.rows; executions = l; works = c.self.inside.works.rows; checkpoints = c.self.inside.checkpoints }
          (numbers_named c.index_instance.new.by_name) (numbers_under c.index_instance.new.by_instance) (numbers_under c.self.inside.works_by_execution)) (sym kept.executions)
          (same_numbers _ _ _ _ _ _ _ c.self.invariant.0 kept.unnamed kept.unowned (λ x. refl))),
      subst (λ (l : List ExecutionRow). AreStepped record { instances = c.self.inside.instances.rows; executions = l; works = c.self.inside.works.rows; checkpoints = c.self.inside.checkpoints } (numbers_of_step c.self.inside.works_by_step) (has_steps c.self.inside.works_by_step)) (sym kept.executions) c.self.invariant.1,
      c.self.invariant.2 ∙ ap counts_of (sym kept.executions),
      subst (AreRunning c.self.inside.running) (sym kept.executions) c.self.invariant.3,
    )

pub returns-in-Err-clause-unchanged : goal.returns-in-Err-clause-unchanged
returns-in-Err-clause-unchanged c =
    let kept = c.in-Err.ensures in
    (λ k. record { instances = kept.instances k; executions = kept.executions k; works = c.self.inside.works.rows; checkpoints = c.self.inside.checkpoints }) ∙ c.self.view_is

pub push_reserved-requires-clause-room : goal.push_reserved-requires-clause-room
push_reserved-requires-clause-room c = c.in-Ok.ensures.execution_room

pub push_reserved-requires-2-clause-room : goal.push_reserved-requires-2-clause-room
push_reserved-requires-2-clause-room c = c.in-Ok.ensures.instance_room
