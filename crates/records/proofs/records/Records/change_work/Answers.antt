use Rattle.std.proofs.Common.{List, is_some, find, sym, ◌∙◌, ap, subst}
use Rattle.batch_history.specs.Lists.{change_first}
use Rattle.batch_history.specs.Works.{is_work}
use Rattle.batch_history.specs.declared.rows.WorkRow.{WorkRow}
use Rattle.records.specs.Maps.{Maps, MayReplaceWork}
use Rattle.records.proofs.Numbered.{work_kept, work_is}
use Rattle.records.proofs.Indexing.{work_replaced}
use Rattle.records.specs.Indexes.{AreIndexed, numbers_named, numbers_under, AreStepped, has_steps, numbers_of_step}
use Rattle.records.proofs.Stepped as stepped
use Rattle.records.proofs.records.Records.change_work.Goals as goal

pub put-requires-clause-there : goal.put-requires-clause-there
put-requires-clause-there c =
    let may = subst (λ (m : Maps). MayReplaceWork m.works c.args.w c.args.row) (sym c.self.view_is) c.requires in
    ap (λ w. is_some (find (is_work w) c.self.inside.works.rows)) c.value.ensures ∙ ap is_some may.1

pub put-requires-clause-same : goal.put-requires-clause-same
put-requires-clause-same c =
    let may = subst (λ (m : Maps). MayReplaceWork m.works c.args.w c.args.row) (sym c.self.view_is) c.requires in
    work_is c.self.inside.works.rows c.args.w c.args.row may ∙ sym c.value.ensures

pub invariant_of-self : goal.invariant_of-self
invariant_of-self c =
    let rows : List WorkRow = c.self.inside.works.rows in
    let may = subst (λ (m : Maps). MayReplaceWork m.works c.args.w c.args.row) (sym c.self.view_is) c.requires in
    let placed = c.put.ensures ∙ ap (λ w. change_first (is_work w) (λ old. c.args.row) rows) c.value.ensures in
    let rises = work_kept rows c.args.w c.args.row c.self.invariant.0.keyed.works may in (
      subst (λ (l : List WorkRow).
          AreIndexed record { instances = c.self.inside.instances.rows; executions = c.self.inside.executions.rows; works = l; checkpoints = c.self.inside.checkpoints }
          (numbers_named c.self.inside.instances_by_name) (numbers_under c.self.inside.executions_by_instance) (numbers_under c.self.inside.works_by_execution)) (sym placed)
          (work_replaced _ _ _ _ c.args.w c.args.row c.self.invariant.0 rises may),
      subst (λ (l : List WorkRow). AreStepped record { instances = c.self.inside.instances.rows; executions = c.self.inside.executions.rows; works = l; checkpoints = c.self.inside.checkpoints } (numbers_of_step c.self.inside.works_by_step) (has_steps c.self.inside.works_by_step)) (sym placed)
          (stepped.work_changed record { instances = c.self.inside.instances.rows; executions = c.self.inside.executions.rows; works = c.self.inside.works.rows; checkpoints = c.self.inside.checkpoints } (numbers_of_step c.self.inside.works_by_step) (has_steps c.self.inside.works_by_step) c.args.w c.args.row c.self.invariant.1 may),
      c.self.invariant.2,
      c.self.invariant.3,
    )

pub returns : goal.returns
returns c =
    let rows : List WorkRow = c.self.inside.works.rows in
    ap (λ (l : List WorkRow). record { instances = c.self.inside.instances.rows; executions = c.self.inside.executions.rows; works = l; checkpoints = c.self.inside.checkpoints })
    (c.put.ensures ∙ ap (λ w. change_first (is_work w) (λ old. c.args.row) rows) c.value.ensures)
    ∙ ap (λ (m : Maps). record m { works = change_first (is_work c.args.w) (λ old. c.args.row) m.works }) c.self.view_is
