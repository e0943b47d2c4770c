use Rattle.std.proofs.Common.{sym, ◌∙◌}
use Rattle.std.specs.Str.{bytes_eq}
use Rattle.job_plans.proofs.Alls.{any-here, any-later, any-nowhere}
use Rattle.job_walk.proofs.first_facts.is_among.Goals as goal

pub loop-step-preserved : goal.loop-step-preserved
loop-step-preserved c =
    any-later (bytes_eq c.args.id.now) c.args.steps.now c.loop-step.step-index c.step-item.result _ c.loop-step-test.true c.step-item.is (sym c.eq.ensures ∙ c.if-eq.false)
    c.loop-step.invariant

pub returns-then-eq : goal.returns-then-eq
returns-then-eq c =
    any-here (bytes_eq c.args.id.now) c.args.steps.now c.loop-step.step-index c.step-item.result _ c.loop-step-test.true c.step-item.is (sym c.eq.ensures ∙ c.if-eq.true)
    c.loop-step.invariant

pub returns : goal.returns
returns c = any-nowhere (bytes_eq c.args.id.now) c.args.steps.now c.loop-step.step-index _ c.loop-step-test.false c.loop-step.invariant
