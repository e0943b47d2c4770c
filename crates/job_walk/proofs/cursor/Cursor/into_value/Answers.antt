use Rattle.std.proofs.Common.{◌∙◌, ap}
use Rattle.job_walk.specs.declared.kept_list.KeptList.{KeptList}
use Rattle.job_plans.specs.Cursors.{value_in}
use Rattle.walk_rules.specs.Walk.{fact_of}
use Rattle.job_walk.proofs.Reporting.{value_is_kept}
use Rattle.job_walk.proofs.cursor.Cursor.into_value.Goals as goal

pub returns : goal.returns
returns c =
    let kept = value_is_kept (fact_of c.self.inside.known.items) c.self.inside.job.elements c.self.inside.from c.self.inside.lists.items c.swap_remove.result c.self.invariant.same in
    ap (λ (k : KeptList). k.progress.value) c.swap_remove.ensures.value ∙ (kept.0 ∙ ap value_in c.self.view_is)
