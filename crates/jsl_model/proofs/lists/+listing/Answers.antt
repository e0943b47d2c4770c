use Rattle.std.proofs.Common.{◌≡◌, ◌++◌, ◌∙◌, List, sym, subst, ap}
use Rattle.std.specs.List.{flat_map}
use Rattle.std.specs.Result.{OnOk}
use Rattle.jsl_model.specs.Targets.{Item, lists_of, lists_of_flow, lists_inside}
use Rattle.jsl_model.proofs.InnerLists.{outlines, inside-step, inside-decision, inside-flow, inside-split, flow-lists, added-first, added-next, added-all, added-none}
use Rattle.jsl_model.proofs.lists.+listing.Goals as goal

pub add_lists-loop-element-init : goal.add_lists-loop-element-init
add_lists-loop-element-init t c = added-first c.args.lists.now.items c.push.new.self.items c.args.elements c.in_ok-push.ensures.items

pub add_lists-loop-element-preserved : goal.add_lists-loop-element-preserved
add_lists-loop-element-preserved t c =
    added-next lists_inside c.args.elements.now c.loop-element.element-index c.element-item.result (outlines c.loop-element.lists.items) _ _
    c.loop-element-test.true c.element-item.is c.in_ok-add_inside.ensures c.loop-element.invariant

pub add_lists-returns : goal.add_lists-returns
add_lists-returns t c = added-all lists_inside c.args.elements.now c.loop-element.element-index _ _ c.loop-element-test.false c.loop-element.invariant

pub add_inside-returns-in-Step : goal.add_inside-returns-in-Step
add_inside-returns-in-Step t c = added-none _ _ (inside-step c.args.element.now c.in-Step.field-0 c.in-Step.is)

pub add_inside-returns-in-Decision : goal.add_inside-returns-in-Decision
add_inside-returns-in-Decision t c = added-none _ _ (inside-decision c.args.element.now c.in-Decision.artifact c.in-Decision.is)

pub add_inside-returns-in-Flow : goal.add_inside-returns-in-Flow
add_inside-returns-in-Flow t c =
    subst (λ (ls : List (List Item)). OnOk c.add_lists.result (outlines c.add_lists.new.lists.items ≡ outlines c.args.lists.now.items ++ ls))
    (sym (inside-flow c.args.element.now c.in-Flow.elements c.in-Flow.is ∙ ap lists_of (sym c.as_slice.ensures))) c.add_lists.ensures

pub add_inside-loop-flow-init : goal.add_inside-loop-flow-init
add_inside-loop-flow-init t c =
    ap (λ (ls : List (List Item)). outlines c.args.lists.now.items ++ ls)
    (sym (inside-split c.args.element.now c.in-Split.flows c.in-Split.is ∙ ap (flat_map lists_of_flow) (sym c.as_slice-flow-items.ensures)))

pub add_inside-loop-flow-preserved : goal.add_inside-loop-flow-preserved
add_inside-loop-flow-preserved t c =
    added-next lists_of_flow c.as_slice-flow-items.result.now c.loop-flow.flow-index c.flow-item.result (outlines c.loop-flow.lists.items) _ _
    c.loop-flow-test.true c.flow-item.is
    (c.in_ok-add_lists-in-Split.ensures
    ∙ ap (λ (ls : List (List Item)). outlines c.loop-flow.lists.items ++ ls) (sym (flow-lists c.flow-item.result ∙ ap lists_of (sym c.as_slice-in-loop-flow.ensures))))
    c.loop-flow.invariant

pub add_inside-returns-after-loop-flow : goal.add_inside-returns-after-loop-flow
add_inside-returns-after-loop-flow t c =
    added-all lists_of_flow c.as_slice-flow-items.result.now c.loop-flow.flow-index _ _ c.loop-flow-test.false c.loop-flow.invariant
