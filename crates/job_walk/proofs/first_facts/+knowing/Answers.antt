use Rattle.std.proofs.Common.{◌≡◌, ◌++◌, refl, sym, ◌∙◌, ap, arith, subst, OnOk}
use Rattle.std.specs.List.{flat_map}
use Rattle.jsl_model.specs.declared.element.Body.TheVariants.{Flow, Split}
use Rattle.job_plans.specs.Cursors.{known_at_first}
use Rattle.job_plans.specs.Runnables.{leaves, leaves_of_flow, all_leaves}
use Rattle.job_plans.proofs.Beginning.{added-next, added-all, step-known, decision-known}
use Rattle.job_plans.proofs.Leaves.{leaves_of_flow-parts}
use Rattle.job_plans.proofs.Near.{flow-leaves, split-leaves}
use Rattle.job_plans.proofs.Sizes.{nodes-at, nodes-flow, nodes-split}
use Rattle.job_walk.proofs.first_facts.+knowing.Goals as goal

pub add_all-loop-element-preserved : goal.add_all-loop-element-preserved
add_all-loop-element-preserved t c =
    added-next (known_at_first c.args.plan.now c.args.known.now) leaves c.args.elements.now c.loop-element.element-index c.element-item.result
    c.loop-element.facts.items c.add_inside.new.facts.items _ c.loop-element-test.true c.element-item.is c.in_ok-add_inside.ensures c.loop-element.invariant

pub add_all-returns : goal.add_all-returns
add_all-returns t c =
    added-all (known_at_first c.args.plan.now c.args.known.now) leaves c.args.elements.now c.loop-element.element-index c.loop-element.facts.items _
    c.loop-element-test.false c.loop-element.invariant

pub add_inside-loop-flow-init : goal.add_inside-loop-flow-init
add_inside-loop-flow-init t c =
    ap (λ ls. c.args.facts.now.items ++ flat_map (known_at_first c.args.plan.now c.args.known.now) ls)
    (sym (split-leaves c.args.element.now c.as_slice-flow-items.result.now (c.in-Split.is ∙ ap Split (sym c.as_slice-flow-items.ensures))))

pub add_inside-loop-flow-preserved : goal.add_inside-loop-flow-preserved
add_inside-loop-flow-preserved t c =
    let at_first = known_at_first c.args.plan.now c.args.known.now in
    let flow = c.flow-item.result in
    added-next at_first leaves_of_flow c.as_slice-flow-items.result.now c.loop-flow.flow-index flow c.loop-flow.facts.items c.add_all-in-loop-flow.new.facts.items _
    c.loop-flow-test.true c.flow-item.is
    (c.in_ok-add_all-in-Split.ensures
    ∙ ap (λ ls. c.loop-flow.facts.items ++ flat_map at_first ls) (ap all_leaves c.as_slice-in-loop-flow.ensures ∙ sym (leaves_of_flow-parts flow)))
    c.loop-flow.invariant

pub add_inside-returns-in-Step : goal.add_inside-returns-in-Step
add_inside-returns-in-Step t c =
    subst (λ more. OnOk c.add_step.result (c.add_step.new.facts.items ≡ c.args.facts.now.items ++ more))
    (step-known c.args.plan.now c.args.known.now c.args.element.now c.in-Step.step c.in-Step.is) c.add_step.ensures

pub add_inside-returns-in-Decision : goal.add_inside-returns-in-Decision
add_inside-returns-in-Decision t c =
    subst (λ more. OnOk c.add_decision.result (c.add_decision.new.facts.items ≡ c.args.facts.now.items ++ more))
    (decision-known c.args.plan.now c.args.known.now c.args.element.now c.in-Decision.artifact c.in-Decision.is) c.add_decision.ensures

pub add_inside-returns-in-Flow : goal.add_inside-returns-in-Flow
add_inside-returns-in-Flow t c =
    subst (λ ls. OnOk c.add_all.result (c.add_all.new.facts.items ≡ c.args.facts.now.items ++ flat_map (known_at_first c.args.plan.now c.args.known.now) ls))
    (sym (flow-leaves c.args.element.now c.as_slice.result.now (c.in-Flow.is ∙ ap Flow (sym c.as_slice.ensures)))) c.add_all.ensures

pub add_inside-returns-after-loop-flow : goal.add_inside-returns-after-loop-flow
add_inside-returns-after-loop-flow t c =
    added-all (known_at_first c.args.plan.now c.args.known.now) leaves_of_flow c.as_slice-flow-items.result.now c.loop-flow.flow-index c.loop-flow.facts.items _
    c.loop-flow-test.false c.loop-flow.invariant

-- ---- What lies inside

pub add_all-add_inside-requires : goal.add_all-add_inside-requires
add_all-add_inside-requires t c =
    let less = nodes-at c.args.elements.now c.loop-element.element-index c.element-item.result c.loop-element-test.true c.element-item.is in
    (omega (arith, less), tt)

pub add_inside-add_all-requires : goal.add_inside-add_all-requires
add_inside-add_all-requires t c =
    let es = c.as_slice.result.now in
    let less = nodes-flow c.args.element.now es es (c.in-Flow.is ∙ ap Flow (sym c.as_slice.ensures)) refl in
    (omega (arith, less), tt)

pub add_inside-add_all-requires-in-loop-flow : goal.add_inside-add_all-requires-in-loop-flow
add_inside-add_all-requires-in-loop-flow t c =
    let flows = c.as_slice-flow-items.result.now in
    let less = nodes-split c.args.element.now flows flows c.loop-flow.flow-index c.flow-item.result c.as_slice-in-loop-flow.result.now
    (c.in-Split.is ∙ ap Split (sym c.as_slice-flow-items.ensures)) refl c.loop-flow-test.true c.flow-item.is c.as_slice-in-loop-flow.ensures in
    (omega (arith, less), tt)
