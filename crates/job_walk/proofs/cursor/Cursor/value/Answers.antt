use Rattle.std.proofs.Common.{◌∙◌, ap, subst}
use Rattle.job_walk.specs.declared.kept_list.KeptList.{KeptList}
use Rattle.job_plans.specs.Cursors.{IsCursor, value_in}
use Rattle.walk_rules.specs.Walk.{fact_of}
use Rattle.job_walk.proofs.Reporting.{value_is_kept}
use Rattle.job_walk.proofs.cursor.Cursor.value.Goals as goal

pub returns : goal.returns
returns c =
    let kept = value_is_kept (fact_of c.self.inside.known.items) c.self.inside.job.elements c.self.inside.from c.self.inside.lists.items c.index.result.now c.self.invariant.same in
    record {
      value = ap (λ (k : KeptList). k.progress.value) c.index.ensures ∙ (kept.0 ∙ ap value_in c.self.view_is);
      state = subst IsCursor c.self.view_is c.self.invariant.state;
    }
