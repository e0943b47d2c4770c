use Rattle.std.proofs.Common.{◌≡◌, ◌∙◌, [], ◌∷◌, ◌++◌, map, codes, Ok, Err, refl, ap, sym, arith}
use Rattle.std.proofs.lemmas.Result.{err_from_is_err_and}
use Rattle.std.proofs.lemmas.List.{map_push}
use Rattle.serde_json.specs.View.{view, items_view}
use Rattle.serde_json.specs.Data.{items_depth}
use Rattle.jsl_model.specs.declared.element.Element.{Element}
use Rattle.jsl_model.specs.declared.element.SplitFlow.{SplitFlow}
use Rattle.jsl_model.specs.declared.parts.ElementParts.{fold-roll-ElementParts}
use Rattle.jsl_model.specs.declared.parts.SplitFlowParts.{fold-roll-SplitFlowParts}
use Rattle.jsl_model.specs.Parts.{Content, body_tree, element_tree, flow_tree, element_of, flow_of}
use Rattle.jsl_json.specs.MemberViews.{kind_in, own_in, own_flow_in}
use Rattle.jsl_json.specs.Elements.{elements_at, content_at, next_number}
use Rattle.jsl_json.proofs.Nesting.{at_right, flow_wrong, flow_right, element_over, flow_over, list_depth, kind_depth, own_depth, item_depth, element_wrong, element_over-fails, flow_over-fails}
use Rattle.jsl_json.proofs.Lists.{elements_in_turn, flows_in_turn, next_read, next_fails, none_unread}
use Rattle.jsl_json.proofs.element.+elements.Goals as goal

-- ---- what is inside lies less deep

pub body_at-elements_at-requires : goal.body_at-elements_at-requires
body_at-elements_at-requires t c =
    let d : kind_depth (kind_in c.args.kind) ≡ items_depth (items_view c.in-Flow.elements.now) = ap (λ x. kind_depth (kind_in x)) c.in-Flow.is in
    (omega (arith, d), tt)

pub body_at-flows_at-requires : goal.body_at-flows_at-requires
body_at-flows_at-requires t c =
    let d : kind_depth (kind_in c.args.kind) ≡ items_depth (items_view c.in-Split.flows.now) = ap (λ x. kind_depth (kind_in x)) c.in-Split.is in
    (omega (arith, d), tt)

pub element_at-body_at-requires : goal.element_at-body_at-requires
element_at-body_at-requires t c =
    let d = own_depth (view c.args.value.now) (own_in c.in-Ok.own) c.in-Ok.ensures.read c.in-Ok.ensures.inside in
    (omega (arith, d), tt)

pub flow_at-elements_at-requires : goal.flow_at-elements_at-requires
flow_at-elements_at-requires t c =
    let d = list_depth (codes "elements") (view c.args.value.now) (items_view c.in-Some.own.elements.now) c.in-Some.ensures.inside in
    (omega (arith, d), tt)

pub elements_at-element_at-requires : goal.elements_at-element_at-requires
elements_at-element_at-requires t c =
    let d = item_depth c.args.list.now c.loop-value.value-index c.value-item.result c.loop-value-test.true c.value-item.is in
    (omega (arith, d), tt)

pub flows_at-flow_at-requires : goal.flows_at-flow_at-requires
flows_at-flow_at-requires t c =
    let d = item_depth c.args.list.now c.loop-value.value-index c.value-item.result c.loop-value-test.true c.value-item.is in
    (omega (arith, d), tt)

-- ---- an element

pub element_at-returns-in-Err-clause-fault : goal.element_at-returns-in-Err-clause-fault
element_at-returns-in-Err-clause-fault t c =
    element_wrong c.in-Err.fault c.in_element.result c.args.job c.args.number (view c.args.value.now) c.in_element.ensures.wrong c.in_element.ensures.memory
    (λ wrong. c.own_of.ensures.wrong (c.in-Err.is ∙ ap Err wrong))

pub element_at-returns-in_err-body-clause-fault : goal.element_at-returns-in_err-body-clause-fault
element_at-returns-in_err-body-clause-fault t c =
    let own = own_in c.in-Ok.own in
    let p = err_from_is_err_and c.from_residual.result c.from_residual.ensures.1 in
    rw (p.1, p.2) (λ other. at_right c.args.job (view c.args.value.now) c.args.number own c.in-Ok.ensures.read c.in-Ok.ensures.inside
    ∙ element_over-fails own (content_at c.args.job own.kind (next_number c.args.number)) c.in_err-body.field-0.0 (ap (content_at c.args.job own.kind) (sym c.saturating_add-next.ensures) ∙ c.in_err-body.ensures.fault other))

pub element_at-returns-clause-read : goal.element_at-returns-clause-read
element_at-returns-clause-read t c =
    let own = own_in c.in-Ok.own in
    at_right c.args.job (view c.args.value.now) c.args.number own c.in-Ok.ensures.read c.in-Ok.ensures.inside
    ∙ ap (element_over own) (ap (content_at c.args.job own.kind) (sym c.saturating_add-next.ensures) ∙ c.in_ok-body.ensures.read)
    ∙ ap (λ (e : Element). Ok (e, c.in_ok-body.next)) (sym (fold-roll-ElementParts Content Element SplitFlow body_tree element_tree flow_tree
    record { id = c.in-Ok.own.id; body = c.in_ok-body.body }))

-- ---- a flow of a split

pub flow_at-returns-in_default-clause-fault : goal.flow_at-returns-in_default-clause-fault
flow_at-returns-in_default-clause-fault t c = λ other. flow_wrong c.args.job (view c.args.value.now) c.args.number (sym c.in_default.ensures.own) ∙ ap Err (sym (c.in_element.ensures.wrong refl))

pub flow_at-returns-in_err-elements-clause-fault : goal.flow_at-returns-in_err-elements-clause-fault
flow_at-returns-in_err-elements-clause-fault t c =
    let own = own_flow_in c.in-Some.own in
    let p = err_from_is_err_and c.from_residual-in_err-elements.result c.from_residual-in_err-elements.ensures.1 in
    rw (p.1, p.2) (λ other. flow_right c.args.job (view c.args.value.now) c.args.number own (sym c.in-Some.ensures.own) c.in-Some.ensures.inside
    ∙ flow_over-fails own.id (elements_at c.args.job own.elements (next_number c.args.number)) c.in_err-elements.field-0.0 (ap (elements_at c.args.job own.elements) (sym c.saturating_add-next.ensures) ∙ c.in_err-elements.ensures.fault other))

pub flow_at-returns-clause-read : goal.flow_at-returns-clause-read
flow_at-returns-clause-read t c =
    let own = own_flow_in c.in-Some.own in
    flow_right c.args.job (view c.args.value.now) c.args.number own (sym c.in-Some.ensures.own) c.in-Some.ensures.inside
    ∙ ap (flow_over own.id) (ap (elements_at c.args.job own.elements) (sym c.saturating_add-next.ensures) ∙ c.in_ok-elements.ensures.read)
    ∙ ap (λ id. flow_over id (Ok (map element_of c.in_ok-elements.elements, c.in_ok-elements.next))) (sym c.in_ok-id.ensures.ok)
    ∙ ap (λ (f : SplitFlow). Ok (f, c.in_ok-elements.next)) (sym (fold-roll-SplitFlowParts Content Element SplitFlow body_tree element_tree flow_tree
    record { id = c.in_ok-id.id; elements = c.in_ok-elements.elements }))

-- ---- lists

pub elements_at-returns-in_err-element-clause-fault : goal.elements_at-returns-in_err-element-clause-fault
elements_at-returns-in_err-element-clause-fault t c =
    let p = err_from_is_err_and c.from_residual.result c.from_residual.ensures.1 in
    rw (p.1, p.2) (λ other. next_fails (elements_in_turn c.args.job) c.args.list.now c.loop-value.value-index c.value-item.result c.loop-value.next (map element_of c.loop-value.elements.items) _
    c.loop-value-test.true c.value-item.is c.loop-value.invariant c.in_err-element.field-0.0 (c.in_err-element.ensures.fault other))

pub elements_at-loop-value-preserved : goal.elements_at-loop-value-preserved
elements_at-loop-value-preserved t c =
    let es = c.loop-value.elements.items in
    let pushed : map element_of c.push.new.self.items ≡ map element_of es ++ element_of c.in_ok-element.element ∷ [] = rw c.in_ok-push.ensures.items (map_push element_of es c.in_ok-element.element) in
    rw pushed (next_read (elements_in_turn c.args.job) c.args.list.now c.loop-value.value-index c.value-item.result c.loop-value.next (map element_of es) _
    c.loop-value-test.true c.value-item.is c.loop-value.invariant (element_of c.in_ok-element.element) c.in_ok-element.after c.in_ok-element.ensures.read)

pub elements_at-returns-clause-read : goal.elements_at-returns-clause-read
elements_at-returns-clause-read t c =
    none_unread (elements_in_turn c.args.job) c.args.list.now c.loop-value.value-index c.loop-value.next (map element_of c.loop-value.elements.items) _ c.loop-value-test.false c.loop-value.invariant
    ∙ ap (λ es. Ok (map element_of es, c.loop-value.next)) (sym c.from_vec.ensures)

pub flows_at-returns-in_err-flow-clause-fault : goal.flows_at-returns-in_err-flow-clause-fault
flows_at-returns-in_err-flow-clause-fault t c =
    let p = err_from_is_err_and c.from_residual.result c.from_residual.ensures.1 in
    rw (p.1, p.2) (λ other. next_fails (flows_in_turn c.args.job) c.args.list.now c.loop-value.value-index c.value-item.result c.loop-value.next (map flow_of c.loop-value.flows.items) _
    c.loop-value-test.true c.value-item.is c.loop-value.invariant c.in_err-flow.field-0.0 (c.in_err-flow.ensures.fault other))

pub flows_at-loop-value-preserved : goal.flows_at-loop-value-preserved
flows_at-loop-value-preserved t c =
    let fs = c.loop-value.flows.items in
    let pushed : map flow_of c.push.new.self.items ≡ map flow_of fs ++ flow_of c.in_ok-flow.flow ∷ [] = rw c.in_ok-push.ensures.items (map_push flow_of fs c.in_ok-flow.flow) in
    rw pushed (next_read (flows_in_turn c.args.job) c.args.list.now c.loop-value.value-index c.value-item.result c.loop-value.next (map flow_of fs) _
    c.loop-value-test.true c.value-item.is c.loop-value.invariant (flow_of c.in_ok-flow.flow) c.in_ok-flow.after c.in_ok-flow.ensures.read)

pub flows_at-returns-clause-read : goal.flows_at-returns-clause-read
flows_at-returns-clause-read t c =
    none_unread (flows_in_turn c.args.job) c.args.list.now c.loop-value.value-index c.loop-value.next (map flow_of c.loop-value.flows.items) _ c.loop-value-test.false c.loop-value.invariant
    ∙ ap (λ fs. Ok (map flow_of fs, c.loop-value.next)) (sym c.from_vec.ensures)
