use Rattle.std.proofs.Common.{◌≡◌, is_some, true, false, arith, ap, refl, sym, ◌∙◌, Option, Bor}
use Rattle.jsl_model.specs.declared.element.Body.TheVariants.{Flow, Split}
use Rattle.std.specs.Option.{option_map}
use Rattle.jsl_model.specs.declared.element.Body.{Body}
use Rattle.job_plans.specs.Runnables.{Inside, leaves, leaves_in_body, leaves_of_flow, all_leaves, run_with}
use Rattle.job_plans.proofs.Near.{flow-leaves, split-leaves}
use Rattle.job_plans.proofs.Sizes.{nodes-at, nodes-flow, nodes-split}
use Rattle.job_plans.proofs.Leaves.{found-here, found-later, found-nowhere, is_some-map, leaves_of_flow-parts}
use Rattle.job_plans.proofs.runnable.+finding.Goals as goal

abbrev held : Option (Bor Body) → Option Inside
held found = option_map (λ (body : Bor Body). leaves_in_body body.now) found

pub find_inside-returns-then-is_some : goal.find_inside-returns-then-is_some
find_inside-returns-then-is_some t c =
    let some : is_some c.find_body-found.result ≡ true = sym c.is_some.ensures ∙ c.if-is_some.true in
    let here : held c.find_body-found.result ≡ run_with (leaves_of_flow c.flow-item.result) c.args.key.now =
    c.find_body-found.ensures
    ∙ (ap (λ es. run_with (all_leaves es) c.args.key.now) c.as_slice-in-loop-flow.ensures
    ∙ ap (λ ls. run_with ls c.args.key.now) (sym (leaves_of_flow-parts c.flow-item.result))) in
    found-here leaves_of_flow c.as_slice-flow-items.result.now c.loop-flow.flow-index c.flow-item.result c.args.key.now (held c.find_body-found.result) _ (omega arith) c.flow-item.is here
    (is_some-map (λ (body : Bor Body). leaves_in_body body.now) c.find_body-found.result ∙ some) c.loop-flow.invariant

pub find_inside-loop-flow-preserved : goal.find_inside-loop-flow-preserved
find_inside-loop-flow-preserved t c =
    let none : is_some c.find_body-found.result ≡ false = sym c.is_some.ensures ∙ c.if-is_some.false in
    let here : held c.find_body-found.result ≡ run_with (leaves_of_flow c.flow-item.result) c.args.key.now =
    c.find_body-found.ensures
    ∙ (ap (λ es. run_with (all_leaves es) c.args.key.now) c.as_slice-in-loop-flow.ensures
    ∙ ap (λ ls. run_with ls c.args.key.now) (sym (leaves_of_flow-parts c.flow-item.result))) in
    found-later leaves_of_flow c.as_slice-flow-items.result.now c.loop-flow.flow-index c.flow-item.result c.args.key.now (held c.find_body-found.result) _ (omega arith) c.flow-item.is here
    (is_some-map (λ (body : Bor Body). leaves_in_body body.now) c.find_body-found.result ∙ none) c.loop-flow.invariant

pub find_body-returns-then-is_some : goal.find_body-returns-then-is_some
find_body-returns-then-is_some t c =
    let some : is_some c.find_inside-found.result ≡ true = sym c.is_some.ensures ∙ c.if-is_some.true in
    found-here leaves c.args.elements.now c.loop-element.element-index c.element-item.result c.args.key.now (held c.find_inside-found.result) _ (omega arith) c.element-item.is c.find_inside-found.ensures
    (is_some-map (λ (body : Bor Body). leaves_in_body body.now) c.find_inside-found.result ∙ some) c.loop-element.invariant

pub find_body-loop-element-preserved : goal.find_body-loop-element-preserved
find_body-loop-element-preserved t c =
    let none : is_some c.find_inside-found.result ≡ false = sym c.is_some.ensures ∙ c.if-is_some.false in
    found-later leaves c.args.elements.now c.loop-element.element-index c.element-item.result c.args.key.now (held c.find_inside-found.result) _ (omega arith) c.element-item.is c.find_inside-found.ensures
    (is_some-map (λ (body : Bor Body). leaves_in_body body.now) c.find_inside-found.result ∙ none) c.loop-element.invariant

pub find_body-returns : goal.find_body-returns
find_body-returns t c =
    found-nowhere leaves c.args.elements.now c.loop-element.element-index c.args.key.now _ c.loop-element-test.false c.loop-element.invariant

pub find_inside-loop-flow-init : goal.find_inside-loop-flow-init
find_inside-loop-flow-init t c =
    ap (λ ls. run_with ls c.args.key.now) (sym (split-leaves c.args.element.now c.as_slice-flow-items.result.now (c.in-Split.is ∙ ap Split (sym c.as_slice-flow-items.ensures))))

pub find_inside-returns-after-loop-flow : goal.find_inside-returns-after-loop-flow
find_inside-returns-after-loop-flow t c =
    found-nowhere leaves_of_flow c.as_slice-flow-items.result.now c.loop-flow.flow-index c.args.key.now _ c.loop-flow-test.false c.loop-flow.invariant

pub find_inside-returns-in-Flow : goal.find_inside-returns-in-Flow
find_inside-returns-in-Flow t c =
    c.find_body.ensures
    ∙ ap (λ ls. run_with ls c.args.key.now) (sym (flow-leaves c.args.element.now c.as_slice.result.now (c.in-Flow.is ∙ ap Flow (sym c.as_slice.ensures))))

-- ---- What lies inside

pub find_body-find_inside-found-requires : goal.find_body-find_inside-found-requires
find_body-find_inside-found-requires t c =
    let less = nodes-at c.args.elements.now c.loop-element.element-index c.element-item.result c.loop-element-test.true c.element-item.is in
    (omega (arith, less), tt)

pub find_inside-find_body-requires : goal.find_inside-find_body-requires
find_inside-find_body-requires t c =
    let es = c.as_slice.result.now in
    let less = nodes-flow c.args.element.now es es (c.in-Flow.is ∙ ap Flow (sym c.as_slice.ensures)) refl in
    (omega (arith, less), tt)

pub find_inside-find_body-found-requires : goal.find_inside-find_body-found-requires
find_inside-find_body-found-requires t c =
    let flows = c.as_slice-flow-items.result.now in
    let less = nodes-split c.args.element.now flows flows c.loop-flow.flow-index c.flow-item.result c.as_slice-in-loop-flow.result.now
    (c.in-Split.is ∙ ap Split (sym c.as_slice-flow-items.ensures)) refl c.loop-flow-test.true c.flow-item.is c.as_slice-in-loop-flow.ensures in
    (omega (arith, less), tt)
