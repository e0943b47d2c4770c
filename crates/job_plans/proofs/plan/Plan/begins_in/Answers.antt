use Rattle.std.proofs.Common.{sym, ◌∙◌, ap}
use Rattle.std.specs.Str.{bytes_eq}
use Rattle.jsl_model.specs.declared.element.Element.{Element}
use Rattle.job_plans.specs.Lists.{has_element}
use Rattle.job_plans.proofs.Alls.{any-here, any-later, any-nowhere}
use Rattle.job_plans.proofs.plan.Plan.begins_in.Goals as goal

pub loop-element-preserved : goal.loop-element-preserved
loop-element-preserved c =
    any-later (λ (e : Element). bytes_eq e.id c.args.self.now.from) c.elements-element-items.result.now c.loop-element.element-index c.element-item.result _
    c.loop-element-test.true c.element-item.is (sym c.eq.ensures ∙ c.if-eq.false) c.loop-element.invariant

pub returns-then-eq : goal.returns-then-eq
returns-then-eq c =
    any-here (λ (e : Element). bytes_eq e.id c.args.self.now.from) c.elements-element-items.result.now c.loop-element.element-index c.element-item.result _
    c.loop-element-test.true c.element-item.is (sym c.eq.ensures ∙ c.if-eq.true) c.loop-element.invariant
    ∙ ap (λ es. has_element es c.args.self.now.from) c.elements-element-items.ensures.same

pub returns : goal.returns
returns c =
    any-nowhere (λ (e : Element). bytes_eq e.id c.args.self.now.from) c.elements-element-items.result.now c.loop-element.element-index _
    c.loop-element-test.false c.loop-element.invariant
    ∙ ap (λ es. has_element es c.args.self.now.from) c.elements-element-items.ensures.same
