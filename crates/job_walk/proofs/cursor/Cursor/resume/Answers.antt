use Rattle.std.proofs.Common.{◌≡◌, ◌∙◌, true, sym, ap}
use Rattle.jsl_model.specs.Jobs.{JobTree}
use Rattle.job_plans.specs.Lists.{has_element}
use Rattle.job_walk.proofs.Learning.{begins-walk}
use Rattle.job_walk.proofs.cursor.Cursor.resume.Goals as goal

pub of_known-requires : goal.of_known-requires
of_known-requires c =
    let begins : has_element c.in_ok-job.job.elements c.in_ok-from.from ≡ true =
    ap (λ (j : JobTree). has_element j.elements c.in_ok-from.from) c.in_ok-job.ensures ∙ (ap (has_element c.args.job.now.elements) c.in_ok-from.ensures ∙ c.requires.from) in
    begins-walk c.args.plan.now c.args.known.now c.in_ok-job.job c.in_ok-from.from c.in_ok-known.known.items c.elements.result.now
    (c.elements.ensures.same ∙ ap (λ (j : JobTree). j.elements) (sym c.in_ok-job.ensures)) c.in_ok-known.ensures begins
