use Rattle.std.proofs.Common.{◌≡◌, ◌++◌, List, [], ◌∷◌, ◌-◌, length, map, set, take, sym, ◌∙◌, ap, arith, subst, refl, IfOk, Vec, Global}
use Rattle.std.proofs.lemmas.List.{take_all, length-map}
use Rattle.jsl_model.specs.Trees.{joined}
use Rattle.jsl_model.specs.declared.element.Element.{Element}
use Rattle.jsl_model.specs.declared.element.SplitFlow.{SplitFlow}
use Rattle.jsl_model.specs.declared.element.Body.TheVariants.{Flow, Split}
use Rattle.job_walk.specs.declared.kept_list.KeptList.{KeptList}
use Rattle.walk_rules.specs.declared.element_result.ElementResult.{ElementResult}
use Rattle.walk_rules.specs.Walk.{fact_of, flow_result, split_result}
use Rattle.job_walk.specs.KeptLists.{kept_element, kept_flow, starts_from, tree_first, value_kept, lists_in}
use Rattle.job_walk.proofs.Reporting.{states}
use Rattle.job_walk.proofs.KeptAtFirst.{lists-more, values-more, starts-more, whole-parts, kept-step, kept-decision, kept-split, list-kept, added-count, added-length, list-there, no-more, on-ok}
use Rattle.job_walk.proofs.Flows.{flow-all, split-once, kept-flow, no-first, its-first, from-first}
use Rattle.walk_rules.proofs.Places.{at-once}
use Rattle.job_plans.proofs.Sizes.{nodes-at, nodes-flow, nodes-split}
use Rattle.job_walk.proofs.keeping.+keeping.Goals as goal
use Rattle.job_walk.proofs.keeping.+keeping.Goals.{keep_first-in-None+in_ok-keep_list-in-None+in-Some-1, keep_first-in-None+in_ok-keep_list-in-None+in-None-1, keep_first-in-Some+in_ok-keep_list-in-Some}

pub keep_element-loop-flow-preserved : goal.keep_element-loop-flow-preserved
keep_element-loop-flow-preserved t c =
    let facts = fact_of c.args.known.now in
    let f : SplitFlow = c.flow-item.result in
    let whole : tree_first (states facts c.as_slice-in-loop-flow.result.now) ≡ kept_flow facts f =
    ap (λ es. tree_first (states facts es)) c.as_slice-in-loop-flow.ensures ∙ sym (whole-parts facts f) in (
      values-more (λ (g : SplitFlow). value_kept (kept_flow facts g)) c.as_slice-flow-items.result.now c.loop-flow.flow-index f c.loop-flow.values.items c.push.new.self.items c.in_ok-keep_first-in-Split.field-0
          (omega arith) c.flow-item.is c.loop-flow.invariant.0 c.in_ok-push-in-Split.ensures.items (c.in_ok-keep_first-in-Split.ensures.value ∙ ap value_kept whole),
      lists-more (λ (g : SplitFlow). lists_in (kept_flow facts g)) c.as_slice-flow-items.result.now c.loop-flow.flow-index f c.args.lists.now.items c.loop-flow.lists.items c.keep_first-in-loop-flow.new.lists.items
          (omega arith) c.flow-item.is c.loop-flow.invariant.1 (c.in_ok-keep_first-in-Split.ensures.lists ∙ ap (λ w. c.loop-flow.lists.items ++ lists_in w) whole),
    )

pub keep_element-returns-after-loop-flow-clause-result : goal.keep_element-returns-after-loop-flow-clause-result
keep_element-returns-after-loop-flow-clause-result t c =
    let facts = fact_of c.args.known.now in
    let flows = c.as_slice-flow-items.result.now in
    let all : take c.loop-flow.flow-index flows ≡ flows = take_all c.loop-flow.flow-index flows c.loop-flow-test.false in
    let split = kept-split facts c.args.element.now flows (c.in-Split.is ∙ ap Split (sym c.as_slice-flow-items.ensures)) in
    let eq : split_result c.as_slice-in-Split.result.now ≡ (kept_element facts c.args.element.now).row.own_result =
    ap split_result (c.as_slice-in-Split.ensures.value ∙ (c.loop-flow.invariant.0 ∙ ap (map (λ (f : SplitFlow). value_kept (kept_flow facts f))) all)) ∙ sym split.0 in
    subst (λ (o : ElementResult). IfOk c.split_result.result (λ own. own ≡ o)) eq c.split_result.ensures

pub keep_element-returns-after-loop-flow-clause-lists : goal.keep_element-returns-after-loop-flow-clause-lists
keep_element-returns-after-loop-flow-clause-lists t c =
    let facts = fact_of c.args.known.now in
    let flows = c.as_slice-flow-items.result.now in
    let all : take c.loop-flow.flow-index flows ≡ flows = take_all c.loop-flow.flow-index flows c.loop-flow-test.false in
    let split = kept-split facts c.args.element.now flows (c.in-Split.is ∙ ap Split (sym c.as_slice-flow-items.ensures)) in
    on-ok c.split_result.result _ (c.loop-flow.invariant.1
    ∙ ap (λ (x : List KeptList). c.args.lists.now.items ++ x) (ap (λ (fs : List SplitFlow). joined (map (λ (f : SplitFlow). lists_in (kept_flow facts f)) fs)) all ∙ sym split.1))

pub keep_each-loop-element-preserved : goal.keep_each-loop-element-preserved
keep_each-loop-element-preserved t c =
    let facts = fact_of c.args.known.now in
    let e : Element = c.element-item.result in
    let es = c.args.elements.now in
    let i = c.loop-element.element-index in (
      lists-more (λ (x : Element). (kept_element facts x).inside) es i e c.args.lists.now.items c.loop-element.lists.items c.keep_element.new.lists.items (omega arith) c.element-item.is c.loop-element.invariant.0 c.in_ok-result.ensures.lists,
      values-more (λ (x : Element). (kept_element facts x).row.own_result) es i e c.loop-element.results c.push-in-loop-element.new.self c.in_ok-result.result (omega arith) c.element-item.is c.loop-element.invariant.1 c.in_ok-push-2.ensures.ok c.in_ok-result.ensures.result,
      starts-more (λ (x : Element). (kept_element facts x).inside) es i e c.loop-element.starts c.push.new.self (c.len.result - c.len-base.result) (omega arith) c.element-item.is c.loop-element.invariant.2 c.in_ok-push.ensures.ok
          (let now : c.len.result ≡ length c.loop-element.lists.items = c.len.ensures ∙ c.loop-element.lists.ok.0 in
          let base : c.len-base.result ≡ length c.args.lists.now.items = c.len-base.ensures ∙ c.args.lists.now.ok.0 in
          let count = added-count c.args.lists.now.items c.loop-element.lists.items _ c.loop-element.invariant.0 in
          omega (arith, now, base, count)),
    )

pub keep_list-returns : goal.keep_list-returns
keep_list-returns t c =
    let facts = fact_of c.args.known.now in
    let now : c.len.result ≡ length c.keep_each.new.lists.items = c.len.ensures ∙ c.keep_each.new.lists.ok.0 in
    let base : c.len-base.result ≡ length c.args.lists.now.items = c.len-base.ensures ∙ c.args.lists.now.ok.0 in
    let pushed : c.push.new.self.items ≡ c.args.lists.now.items ++ c.nothing_kept.result ∷ [] = c.in_ok-push.ensures.items in
    ap (set c.keep_each.new.lists.items c.len-base.result) c.replace.ensures.after ∙ list-kept facts c.args.elements.now c.args.from.now c.args.lists.now.items c.keep_each.new.lists.items c.nothing_kept.result c.len-base.result c.len.result c.in_ok-progress.progress c.keep_each.new.results c.as_slice.result.now c.keep_each.new.starts
    base now
    (c.in_ok-keep_each.ensures.lists ∙ ap (λ (x : List KeptList). x ++ joined (map (λ (y : Element). (kept_element facts y).inside) c.args.elements.now)) pushed)
    c.in_ok-keep_each.ensures.results c.in_ok-keep_each.ensures.starts c.as_slice.ensures c.in_ok-progress.ensures

-- ---- What lies inside

pub keep_each-keep_element-requires : goal.keep_each-keep_element-requires
keep_each-keep_element-requires t c =
    let less = nodes-at c.args.elements.now c.loop-element.element-index c.element-item.result c.loop-element-test.true c.element-item.is in
    (omega (arith, less), (c.requires.each, at-once c.args.elements.now c.loop-element.element-index c.element-item.result c.requires.once c.loop-element-test.true c.element-item.is))

pub keep_element-keep_first-requires : goal.keep_element-keep_first-requires
keep_element-keep_first-requires t c =
    let e = c.args.element.now in
    let es = c.as_slice.result.now in
    let is = c.in-Flow.is ∙ ap Flow (sym c.as_slice.ensures) in
    let less = nodes-flow e es es is refl in
    (omega (arith, less), (c.requires.each, flow-all e es is c.requires.once))

pub keep_element-keep_first-requires-in-loop-flow : goal.keep_element-keep_first-requires-in-loop-flow
keep_element-keep_first-requires-in-loop-flow t c =
    let e = c.args.element.now in
    let flows = c.as_slice-flow-items.result.now in
    let i = c.loop-flow.flow-index in
    let f = c.flow-item.result in
    let es = c.as_slice-in-loop-flow.result.now in
    let these = c.as_slice-in-loop-flow.ensures in
    let is = c.in-Split.is ∙ ap Split (sym c.as_slice-flow-items.ensures) in
    let less = nodes-split e flows flows i f es is refl c.loop-flow-test.true c.flow-item.is these in
    (omega (arith, less), (c.requires.each, λ id. split-once e flows id i f es is (c.requires.once id) c.loop-flow-test.true c.flow-item.is these))

pub keep_each-overflow_sub-len : goal.keep_each-overflow_sub-len
keep_each-overflow_sub-len t c =
    let grown = added-length c.args.lists.now.items c.loop-element.lists.items _ c.loop-element.invariant.0 in
    let now = c.loop-element.lists.ok.0 in
    let before = c.args.lists.now.ok.0 in
    omega (arith, grown, now, before)

pub keep_each-loop-element-init : goal.keep_each-loop-element-init
keep_each-loop-element-init t c = (sym (no-more c.args.lists.now.items), c.requires.results, c.requires.starts)

pub keep_each-returns-clause-lists : goal.keep_each-returns-clause-lists
keep_each-returns-clause-lists t c =
    c.loop-element.invariant.0
    ∙ ap (λ es. c.args.lists.now.items ++ joined (map (λ (e : Element). (kept_element (fact_of c.args.known.now) e).inside) es))
    (take_all c.loop-element.element-index c.args.elements.now c.loop-element-test.false)

pub keep_each-returns-clause-results : goal.keep_each-returns-clause-results
keep_each-returns-clause-results t c =
    c.loop-element.invariant.1
    ∙ ap (map (λ (e : Element). (kept_element (fact_of c.args.known.now) e).row.own_result)) (take_all c.loop-element.element-index c.args.elements.now c.loop-element-test.false)

pub keep_each-returns-clause-starts : goal.keep_each-returns-clause-starts
keep_each-returns-clause-starts t c =
    c.loop-element.invariant.2
    ∙ ap (λ es. starts_from 0 (map (λ (e : Element). (kept_element (fact_of c.args.known.now) e).inside) es))
    (take_all c.loop-element.element-index c.args.elements.now c.loop-element-test.false)

pub keep_element-loop-flow-init : goal.keep_element-loop-flow-init
keep_element-loop-flow-init t c = (c.new-values.ensures.items, sym (no-more c.args.lists.now.items))

pub keep_element-returns-in-Step-clause-result : goal.keep_element-returns-in-Step-clause-result
keep_element-returns-in-Step-clause-result t c =
    let kept = kept-step (fact_of c.args.known.now) c.args.element.now c.in-Step.step c.in-Step.is in
    subst (λ (o : ElementResult). IfOk c.step_kept.result (λ made. made ≡ o)) (sym kept.0) c.step_kept.ensures

pub keep_element-returns-in-Step-clause-lists : goal.keep_element-returns-in-Step-clause-lists
keep_element-returns-in-Step-clause-lists t c =
    let kept = kept-step (fact_of c.args.known.now) c.args.element.now c.in-Step.step c.in-Step.is in
    on-ok c.step_kept.result _ (sym (no-more c.args.lists.now.items) ∙ ap (λ (x : List KeptList). c.args.lists.now.items ++ x) (sym kept.1))

pub keep_element-returns-in-Decision-clause-result : goal.keep_element-returns-in-Decision-clause-result
keep_element-returns-in-Decision-clause-result t c =
    let kept = kept-decision (fact_of c.args.known.now) c.args.element.now c.in-Decision.artifact c.in-Decision.is in
    subst (λ (o : ElementResult). IfOk c.runnable_kept.result (λ made. made ≡ o)) (sym kept.0) c.runnable_kept.ensures

pub keep_element-returns-in-Decision-clause-lists : goal.keep_element-returns-in-Decision-clause-lists
keep_element-returns-in-Decision-clause-lists t c =
    let kept = kept-decision (fact_of c.args.known.now) c.args.element.now c.in-Decision.artifact c.in-Decision.is in
    on-ok c.runnable_kept.result _ (sym (no-more c.args.lists.now.items) ∙ ap (λ (x : List KeptList). c.args.lists.now.items ++ x) (sym kept.1))

pub keep_element-returns-in_ok-value-in-Flow-clause-result : goal.keep_element-returns-in_ok-value-in-Flow-clause-result
keep_element-returns-in_ok-value-in-Flow-clause-result t c =
    let kept = kept-flow (fact_of c.args.known.now) c.args.element.now c.as_slice.result.now (c.in-Flow.is ∙ ap Flow (sym c.as_slice.ensures)) in
    c.flow_result.ensures ∙ (ap flow_result c.in_ok-value-in-Flow.ensures.value ∙ sym kept.0)

pub keep_element-returns-in_ok-value-in-Flow-clause-lists : goal.keep_element-returns-in_ok-value-in-Flow-clause-lists
keep_element-returns-in_ok-value-in-Flow-clause-lists t c =
    let kept = kept-flow (fact_of c.args.known.now) c.args.element.now c.as_slice.result.now (c.in-Flow.is ∙ ap Flow (sym c.as_slice.ensures)) in
    c.in_ok-value-in-Flow.ensures.lists ∙ ap (λ (x : List KeptList). c.args.lists.now.items ++ x) (sym kept.1)

pub keep_first-keep_list-requires : goal.keep_first-keep_list-requires
keep_first-keep_list-requires t c = (omega arith, (c.requires.each, c.requires.once))

pub keep_first-keep_list-requires-in-Some : goal.keep_first-keep_list-requires-in-Some
keep_first-keep_list-requires-in-Some t c = (omega arith, (c.requires.each, c.requires.once))

pub keep_first-index-requires : goal.keep_first-index-requires
keep_first-index-requires t c =
    let facts = fact_of c.args.known.now in
    let es = c.args.elements.now in
    let now = c.match-first.lists.ok.0 in
    let before = c.args.lists.now.ok.0 in
    let all : c.match-first.lists.items ≡ c.args.lists.now.items ++ lists_in (tree_first (states facts es)) =
    elim c.match-first.branch [
      | keep_first-in-None+in_ok-keep_list-in-None+in-Some-1 w ↦
          ap (λ (v : Vec KeptList Global). v.items) w.lists-is ∙ from-first facts es w.empty-from.result c.args.lists.now.items w.keep_list.new.lists.items
          (no-first facts es w.in-None.ensures.value ∙ sym w.empty-from.ensures) w.in_ok-keep_list-in-None.ensures
      | keep_first-in-None+in_ok-keep_list-in-None+in-None-1 w ↦
          ap (λ (v : Vec KeptList Global). v.items) w.lists-is ∙ from-first facts es w.empty-from.result c.args.lists.now.items w.keep_list.new.lists.items
          (no-first facts es w.in-None.ensures.value ∙ sym w.empty-from.ensures) w.in_ok-keep_list-in-None.ensures
      | keep_first-in-Some+in_ok-keep_list-in-Some w ↦
          ap (λ (v : Vec KeptList Global). v.items) w.lists-is ∙ from-first facts es w.in-Some.first.now.id c.args.lists.now.items w.keep_list-in-Some.new.lists.items
          (its-first facts es w.in-Some.first.now w.in-Some.ensures.value) w.in_ok-keep_list-in-Some.ensures
    ] in
    let grown = added-length c.args.lists.now.items c.match-first.lists.items _ all in
    omega (arith, grown, now, before)

pub keep_first-returns : goal.keep_first-returns
keep_first-returns t c =
    let facts = fact_of c.args.known.now in
    let es = c.args.elements.now in
    let all : c.match-first.lists.items ≡ c.args.lists.now.items ++ lists_in (tree_first (states facts es)) =
    elim c.match-first.branch [
      | keep_first-in-None+in_ok-keep_list-in-None+in-Some-1 w ↦
          ap (λ (v : Vec KeptList Global). v.items) w.lists-is ∙ from-first facts es w.empty-from.result c.args.lists.now.items w.keep_list.new.lists.items
          (no-first facts es w.in-None.ensures.value ∙ sym w.empty-from.ensures) w.in_ok-keep_list-in-None.ensures
      | keep_first-in-None+in_ok-keep_list-in-None+in-None-1 w ↦
          ap (λ (v : Vec KeptList Global). v.items) w.lists-is ∙ from-first facts es w.empty-from.result c.args.lists.now.items w.keep_list.new.lists.items
          (no-first facts es w.in-None.ensures.value ∙ sym w.empty-from.ensures) w.in_ok-keep_list-in-None.ensures
      | keep_first-in-Some+in_ok-keep_list-in-Some w ↦
          ap (λ (v : Vec KeptList Global). v.items) w.lists-is ∙ from-first facts es w.in-Some.first.now.id c.args.lists.now.items w.keep_list-in-Some.new.lists.items
          (its-first facts es w.in-Some.first.now w.in-Some.ensures.value) w.in_ok-keep_list-in-Some.ensures
    ] in
    let kept = list-there c.args.lists.now.items c.match-first.lists.items (tree_first (states facts es)) c.len-base.result c.index.result.now
    (c.len-base.ensures ∙ c.args.lists.now.ok.0) all c.index.ensures in
    record {
      value = subst (λ (k : KeptList). IfOk c.try_clone.result (λ value. value ≡ k.progress.value)) kept c.try_clone.ensures;
      lists = on-ok c.try_clone.result _ all;
    }

pub keep_list-keep_each-requires : goal.keep_list-keep_each-requires
keep_list-keep_each-requires t c = (omega arith, (c.requires.each, (c.requires.once, (c.new-results.ensures, c.new-starts.ensures))))

pub keep_list-walk_all-requires-clause-once : goal.keep_list-walk_all-requires-clause-once
keep_list-walk_all-requires-clause-once t c = c.requires.once

pub keep_list-walk_all-requires-clause-same : goal.keep_list-walk_all-requires-clause-same
keep_list-walk_all-requires-clause-same t c =
    ap length (c.as_slice.ensures ∙ c.in_ok-keep_each.ensures.results) ∙ length-map c.args.elements.now (λ (e : Element). (kept_element (fact_of c.args.known.now) e).row.own_result)

pub keep_list-overflow_sub-size : goal.keep_list-overflow_sub-size
keep_list-overflow_sub-size t c =
    let grown = added-length c.push.new.self.items c.keep_each.new.lists.items _ c.in_ok-keep_each.ensures.lists in
    let one = c.in_ok-push.ensures.len in
    let now = c.keep_each.new.lists.ok.0 in
    let before = c.push.new.self.ok.0 in
    omega (arith, grown, one, now, before)

pub keep_list-index_mut-requires : goal.keep_list-index_mut-requires
keep_list-index_mut-requires t c =
    let grown = added-length c.push.new.self.items c.keep_each.new.lists.items _ c.in_ok-keep_each.ensures.lists in
    let one = c.in_ok-push.ensures.len in
    let now = c.keep_each.new.lists.ok.0 in
    let before = c.push.new.self.ok.0 in
    omega (arith, grown, one, now, before)
