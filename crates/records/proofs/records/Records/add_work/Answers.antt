use Rattle.std.proofs.Common.{◌++◌, ◌∷◌, [], List, sym, ◌∙◌, ap, subst, refl}
use Rattle.batch_history.specs.declared.rows.WorkRow.{WorkRow}
use Rattle.records.specs.Indexes.{AreIndexed, AreStepped, has_steps, numbers_named, numbers_of_step, numbers_under}
use Rattle.records.specs.Maps.{Maps, AreBelow, work_numbers}
use Rattle.records.proofs.Indexing.{work_added, same_numbers}
use Rattle.records.proofs.Stepped as stepped
use Rattle.records.proofs.records.Records.add_work.Goals as goal

pub index_work-requires : goal.index_work-requires
index_work-requires c =
    let inside : Maps = record { instances = c.self.inside.instances.rows; executions = c.self.inside.executions.rows; works = c.self.inside.works.rows; checkpoints = c.self.inside.checkpoints } in
    let below = subst (λ (m : Maps). AreBelow c.args.row.work (work_numbers m.works)) (sym c.self.view_is) c.requires in
    stepped.owner_below inside (numbers_of_step c.self.inside.works_by_step) (has_steps c.self.inside.works_by_step) c.owner_of-owner.result c.args.row c.self.invariant.1 below

pub invariant_of-self-2 : goal.invariant_of-self-2
invariant_of-self-2 c =
    let inside : Maps = record { instances = c.self.inside.instances.rows; executions = c.self.inside.executions.rows; works = c.self.inside.works.rows; checkpoints = c.self.inside.checkpoints } in
    let below = subst (λ (m : Maps). AreBelow c.args.row.work (work_numbers m.works)) (sym c.self.view_is) c.requires in
    let added = c.push_reserved.ensures ∙ ap (λ (l : List WorkRow). l ++ c.args.row ∷ []) c.index_work.ensures.rows in (
      subst (λ (l : List WorkRow). AreIndexed record { instances = c.self.inside.instances.rows; executions = c.self.inside.executions.rows; works = l; checkpoints = c.self.inside.checkpoints }
          (numbers_named c.self.inside.instances_by_name) (numbers_under c.self.inside.executions_by_instance) (numbers_under c.index_work.new.by_execution)) (sym added)
          (work_added _ _ _ _ _ c.args.row c.self.invariant.0 below c.in-Ok.ensures.owned),
      subst (λ (l : List WorkRow). AreStepped record { instances = c.self.inside.instances.rows; executions = c.self.inside.executions.rows; works = l; checkpoints = c.self.inside.checkpoints } (numbers_of_step c.index_work.new.by_step) (has_steps c.index_work.new.by_step)) (sym added)
          (stepped.work_added inside (numbers_of_step c.self.inside.works_by_step) _ (has_steps c.self.inside.works_by_step) _ c.owner_of-owner.result c.args.row c.self.invariant.1 c.owner_of-owner.ensures c.index_work.ensures.has c.in-Ok.ensures.stepped),
      c.self.invariant.2,
      c.self.invariant.3,
    )

pub returns-clause-added : goal.returns-clause-added
returns-clause-added c =
    let added = c.push_reserved.ensures ∙ ap (λ (l : List WorkRow). l ++ c.args.row ∷ []) c.index_work.ensures.rows in
    (λ k. record { instances = c.self.inside.instances.rows; executions = c.self.inside.executions.rows; works = added k; checkpoints = c.self.inside.checkpoints })
    ∙ ap (λ (m : Maps). record m { works = m.works ++ c.args.row ∷ [] }) c.self.view_is

pub invariant_of-self : goal.invariant_of-self
invariant_of-self c =
    let kept = c.in-Err.ensures in (
      subst (λ (l : List WorkRow). AreIndexed record { instances = c.self.inside.instances.rows; executions = c.self.inside.executions.rows; works = l; checkpoints = c.self.inside.checkpoints }
          (numbers_named c.self.inside.instances_by_name) (numbers_under c.self.inside.executions_by_instance) (numbers_under c.index_work.new.by_execution)) (sym kept.rows)
          (same_numbers _ _ _ _ _ _ _ c.self.invariant.0 (λ q. refl) (λ i. refl) kept.unowned),
      subst (λ (l : List WorkRow). AreStepped record { instances = c.self.inside.instances.rows; executions = c.self.inside.executions.rows; works = l; checkpoints = c.self.inside.checkpoints } (numbers_of_step c.index_work.new.by_step) (has_steps c.index_work.new.by_step)) (sym kept.rows)
          (λ i there q. (let had = sym (kept.has i) ∙ there in kept.unstepped i q had ∙ c.self.invariant.1 i had q)),
      c.self.invariant.2,
      c.self.invariant.3,
    )

pub returns-in-Err-clause-unchanged : goal.returns-in-Err-clause-unchanged
returns-in-Err-clause-unchanged c = (λ k. record { instances = c.self.inside.instances.rows; executions = c.self.inside.executions.rows; works = c.in-Err.ensures.rows k; checkpoints = c.self.inside.checkpoints }) ∙ c.self.view_is

pub push_reserved-requires-clause-room : goal.push_reserved-requires-clause-room
push_reserved-requires-clause-room c = c.in-Ok.ensures.room

pub push_reserved-requires-clause-above : goal.push_reserved-requires-clause-above
push_reserved-requires-clause-above c =
    let below = subst (λ (m : Maps). AreBelow c.args.row.work (work_numbers m.works)) (sym c.self.view_is) c.requires in
    subst (λ (l : List WorkRow). AreBelow c.args.row.work (work_numbers l)) (sym c.index_work.ensures.rows) below
