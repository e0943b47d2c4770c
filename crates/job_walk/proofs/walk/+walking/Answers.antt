use Rattle.std.proofs.Common.{sym, ◌∙◌, ap, arith, ◌≡◌, ◌-◌, ◌+◌, length, map, subst, refl, IfOk}
use Rattle.std.proofs.lemmas.List.{take_all}
use Rattle.jsl_model.specs.declared.element.Body.TheVariants.{Flow, Split}
use Rattle.walk_rules.specs.declared.facts.Value.TheVariants.{Done}
use Rattle.walk_rules.specs.declared.element_result.ElementResult.TheVariants.{ListValue, Outcome}
use Rattle.walk_rules.specs.Walk.{fact_of, walked_element, value_of_continuation, value_of_flow, follow, whole_value, flow_result, split_result}
use Rattle.job_plans.proofs.Following.{follow-begins, follow-ends, follow-none, follow-to_value, follow-on, rows, walked-step, walked-decision, walked-flow, walked-split, flow-parts, whole-none, whole-some, first-among}
use Rattle.job_walk.proofs.KeptAtFirst.{values-more}
use Rattle.job_plans.proofs.Sizes.{nodes-at, nodes-flow, nodes-split}
use Rattle.job_walk.proofs.walk.+walking.Goals as goal

pub walk_value-returns-in_default : goal.walk_value-returns-in_default
walk_value-returns-in_default t c =
    ap Done c.empty.ensures
    ∙ (sym (follow-none (fact_of c.args.known.now) c.args.elements.now c.loop-passed.id c.loop-passed.passed (omega arith) c.in_default.ensures.none)
    ∙ c.loop-passed.invariant)

pub walk_value-returns-in-ListValue : goal.walk_value-returns-in-ListValue
walk_value-returns-in-ListValue t c =
    let e = c.index-elements-place.result in
    let own_result : (walked_element (fact_of c.args.known.now) e).own_result ≡ ListValue c.in-ListValue.value = cc (c.in_ok-value.ensures, c.in-ListValue.is) in
    sym (follow-to_value (fact_of c.args.known.now) c.args.elements.now c.loop-passed.id c.loop-passed.passed c.in-Some.place e c.in-ListValue.value (omega arith) c.in-Some.ensures.some.1 c.in-Some.ensures.some.0 c.index-elements-place.is own_result)
    ∙ c.loop-passed.invariant

pub walk_value-returns-in-WithValue : goal.walk_value-returns-in-WithValue
walk_value-returns-in-WithValue t c =
    let e = c.index-elements-place.result in
    let own_result : (walked_element (fact_of c.args.known.now) e).own_result ≡ Outcome c.in-Outcome.outcome c.in-Outcome.exit = cc (c.in_ok-value.ensures, c.in-Outcome.is) in
    let step = follow-on (fact_of c.args.known.now) c.args.elements.now c.loop-passed.id c.loop-passed.passed c.in-Some.place e c.in-Outcome.outcome c.in-Outcome.exit c.in_ok-value-in-Outcome.field-0 (omega arith) c.in-Some.ensures.some.1 c.in-Some.ensures.some.0 c.index-elements-place.is own_result c.in_ok-value-in-Outcome.ensures.value in
    sym (ap (value_of_continuation (follow (length c.args.elements.now - (c.loop-passed.passed + 1)) (rows (fact_of c.args.known.now) c.args.elements.now))) c.in-WithValue.is)
    ∙ (sym step ∙ c.loop-passed.invariant)

pub walk_value-loop-passed-preserved : goal.walk_value-loop-passed-preserved
walk_value-loop-passed-preserved t c =
    let e = c.index-elements-place.result in
    let own_result : (walked_element (fact_of c.args.known.now) e).own_result ≡ Outcome c.in-Outcome.outcome c.in-Outcome.exit = cc (c.in_ok-value.ensures, c.in-Outcome.is) in
    let step = follow-on (fact_of c.args.known.now) c.args.elements.now c.loop-passed.id c.loop-passed.passed c.in-Some.place e c.in-Outcome.outcome c.in-Outcome.exit c.in_ok-value-in-Outcome.field-0 (omega arith) c.in-Some.ensures.some.1 c.in-Some.ensures.some.0 c.index-elements-place.is own_result c.in_ok-value-in-Outcome.ensures.value in
    sym (ap (value_of_continuation (follow (length c.args.elements.now - (c.loop-passed.passed + 1)) (rows (fact_of c.args.known.now) c.args.elements.now))) c.in-AtElement.is)
    ∙ (sym step ∙ c.loop-passed.invariant)

pub walk_value-loop-passed-init : goal.walk_value-loop-passed-init
walk_value-loop-passed-init t c = follow-begins (fact_of c.args.known.now) c.args.elements.now c.in_ok-id.id c.args.from.now c.in_ok-id.ensures

pub walk_value-returns : goal.walk_value-returns
walk_value-returns t c =
    ap Done c.empty-2.ensures
    ∙ (follow-ends (fact_of c.args.known.now) c.args.elements.now c.loop-passed.id c.loop-passed.passed c.loop-passed-test.false ∙ c.loop-passed.invariant)

-- ---- From the first element

pub whole_value-returns-in-None : goal.whole_value-returns-in-None
whole_value-returns-in-None t c = ap Done c.empty.ensures ∙ whole-none (fact_of c.args.known.now) c.args.elements.now c.in-None.ensures.value

pub whole_value-returns-in-Some : goal.whole_value-returns-in-Some
whole_value-returns-in-Some t c =
    subst (λ whole. IfOk c.walk_value.result (λ value. value ≡ whole)) (whole-some (fact_of c.args.known.now) c.args.elements.now c.in-Some.first.now c.in-Some.ensures.value)
    c.walk_value.ensures

-- ---- An element

pub result_of-returns-in-Step : goal.result_of-returns-in-Step
result_of-returns-in-Step t c =
    subst (λ own. IfOk c.step_result.result (λ made. made ≡ own)) (sym (walked-step (fact_of c.args.known.now) c.args.element.now c.in-Step.step c.in-Step.is)) c.step_result.ensures

pub result_of-returns-in-Decision : goal.result_of-returns-in-Decision
result_of-returns-in-Decision t c =
    subst (λ own. IfOk c.runnable_result.result (λ made. made ≡ own))
    (sym (walked-decision (fact_of c.args.known.now) c.args.element.now c.in-Decision.artifact c.in-Decision.is)) c.runnable_result.ensures

pub result_of-returns-in_ok-value-in-Flow : goal.result_of-returns-in_ok-value-in-Flow
result_of-returns-in_ok-value-in-Flow t c =
    c.flow_result.ensures
    ∙ (ap flow_result c.in_ok-value-in-Flow.ensures
    ∙ sym (walked-flow (fact_of c.args.known.now) c.args.element.now c.as_slice.result.now (c.in-Flow.is ∙ ap Flow (sym c.as_slice.ensures))))

pub result_of-loop-flow-init : goal.result_of-loop-flow-init
result_of-loop-flow-init t c = c.new-values.ensures.items

pub result_of-loop-flow-preserved : goal.result_of-loop-flow-preserved
result_of-loop-flow-preserved t c =
    let facts = fact_of c.args.known.now in
    let flow = c.flow-item.result in
    values-more (value_of_flow facts) c.as_slice-flow-items.result.now c.loop-flow.flow-index flow c.loop-flow.values.items c.push.new.self.items c.in_ok-whole_value-in-Split.field-0
    c.loop-flow-test.true c.flow-item.is c.loop-flow.invariant c.in_ok-push-in-Split.ensures.items
    (c.in_ok-whole_value-in-Split.ensures ∙ (ap (λ es. whole_value (map (walked_element facts) es)) c.as_slice-in-loop-flow.ensures ∙ sym (flow-parts facts flow)))

pub result_of-returns-after-loop-flow : goal.result_of-returns-after-loop-flow
result_of-returns-after-loop-flow t c =
    let facts = fact_of c.args.known.now in
    let flows = c.as_slice-flow-items.result.now in
    let all = c.as_slice-in-Split.ensures.value ∙ (c.loop-flow.invariant ∙ ap (map (value_of_flow facts)) (take_all c.loop-flow.flow-index flows c.loop-flow-test.false)) in
    subst (λ own. IfOk c.split_result.result (λ made. made ≡ own))
    (ap split_result all ∙ sym (walked-split facts c.args.element.now flows (c.in-Split.is ∙ ap Split (sym c.as_slice-flow-items.ensures)))) c.split_result.ensures

-- ---- What lies inside

pub walk_value-result_of-requires : goal.walk_value-result_of-requires
walk_value-result_of-requires t c =
    let less = nodes-at c.args.elements.now c.in-Some.place c.index-elements-place.result c.in-Some.ensures.some.0 c.index-elements-place.is in
    (omega (arith, less), tt)

pub whole_value-walk_value-requires : goal.whole_value-walk_value-requires
whole_value-walk_value-requires t c = (omega arith, first-among c.args.elements.now c.in-Some.first.now c.in-Some.ensures.value)

pub result_of-whole_value-requires : goal.result_of-whole_value-requires
result_of-whole_value-requires t c =
    let es = c.as_slice.result.now in
    let less = nodes-flow c.args.element.now es es (c.in-Flow.is ∙ ap Flow (sym c.as_slice.ensures)) refl in
    (omega (arith, less), tt)

pub result_of-whole_value-requires-in-loop-flow : goal.result_of-whole_value-requires-in-loop-flow
result_of-whole_value-requires-in-loop-flow t c =
    let flows = c.as_slice-flow-items.result.now in
    let less = nodes-split c.args.element.now flows flows c.loop-flow.flow-index c.flow-item.result c.as_slice-in-loop-flow.result.now
    (c.in-Split.is ∙ ap Split (sym c.as_slice-flow-items.ensures)) refl c.loop-flow-test.true c.flow-item.is c.as_slice-in-loop-flow.ensures in
    (omega (arith, less), tt)
