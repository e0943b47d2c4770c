use Rattle.std.proofs.Common.{length, ◌∙◌, ap, arith}
use Rattle.jsl_model.proofs.Held.{jobs_push, not_held, is_held, none_not_some, some_not_none}
use Rattle.jsl_model.proofs.catalogue.Catalogue.add.Goals as goal

pub returns-in_err-push-in-None-clause-duplicate :
    goal.returns-in_err-push-in-None-clause-duplicate
returns-in_err-push-in-None-clause-duplicate c = λ room some. absurd (none_not_some _
    (not_held c.args.self.now c.args.job c.as_str.result.now c.job-2.result c.job-2.ensures (c.as_str.ensures.same ∙ c.id.ensures.same) c.in-None.is)
    some)

pub invariant_of-self-in-None : goal.invariant_of-self-in-None
invariant_of-self-in-None c =
    let none = not_held c.args.self.now c.args.job c.as_str.result.now c.job-2.result c.job-2.ensures (c.as_str.ensures.same ∙ c.id.ensures.same) c.in-None.is in
    rw c.in_ok-push-in-None.ensures.ok (jobs_push c.self.inside.jobs c.args.job c.self.invariant c.id.ensures.checked (omega (arith, ap length c.self.view_is)) (rw c.self.view_is none))

pub returns-in-Some-clause-memory : goal.returns-in-Some-clause-memory
returns-in-Some-clause-memory c = λ room none. absurd (some_not_none _ c.in-Some.field-0.now
    (is_held c.args.self.now c.args.job c.as_str.result.now c.job-2.result c.in-Some.field-0 c.job-2.ensures (c.as_str.ensures.same ∙ c.id.ensures.same) c.in-Some.is)
    none)

pub returns-in_ok-push-in-None-clause-duplicate : goal.returns-in_ok-push-in-None-clause-duplicate
returns-in_ok-push-in-None-clause-duplicate c = λ room some. absurd (none_not_some _
    (not_held c.args.self.now c.args.job c.as_str.result.now c.job-2.result c.job-2.ensures (c.as_str.ensures.same ∙ c.id.ensures.same) c.in-None.is)
    some)
