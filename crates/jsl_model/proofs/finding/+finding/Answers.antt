use Rattle.std.proofs.Common.{rules, ◌≡◌, ◌∷◌, sym, ◌∙◌, ap, true, false, find, option_copied}
use Rattle.std.specs.Str.{bytes_eq}
use Rattle.jsl_model.specs.declared.element.Element.{Element}
use Rattle.jsl_model.specs.Trees.{all_elements, elements_in_body, elements_in_flow}
use Rattle.jsl_model.proofs.Opening.{in_split_flow}
use Rattle.jsl_model.proofs.Searches.{found_here, found_later, first_is_not, copied_there}
use Rattle.jsl_model.proofs.finding.+finding.Goals as goal

pub find_element-returns-then-is_some : goal.find_element-returns-then-is_some
find_element-returns-then-is_some t c =
    let e = c.element-item.result in
    let test = λ (one : Element). bytes_eq one.id c.args.id.now in
    let fails : bytes_eq e.id c.args.id.now ≡ false = search rules in
    found_here test (λ (one : Element). one ∷ elements_in_body one.body) c.args.elements.now c.loop-element.element-index e (option_copied c.find_in_body-inside.result) _
    c.loop-element-test.true c.element-item.is
    (first_is_not test e (elements_in_body e.body) _ fails c.find_in_body-inside.ensures)
    (copied_there c.find_in_body-inside.result true (search rules)) c.loop-element.invariant

pub find_element-loop-element-preserved : goal.find_element-loop-element-preserved
find_element-loop-element-preserved t c =
    let e = c.element-item.result in
    let test = λ (one : Element). bytes_eq one.id c.args.id.now in
    let fails : bytes_eq e.id c.args.id.now ≡ false = search rules in
    found_later test (λ (one : Element). one ∷ elements_in_body one.body) c.args.elements.now c.loop-element.element-index e (option_copied c.find_in_body-inside.result) _
    c.loop-element-test.true c.element-item.is
    (first_is_not test e (elements_in_body e.body) _ fails c.find_in_body-inside.ensures)
    (copied_there c.find_in_body-inside.result false (search rules)) c.loop-element.invariant

pub find_in_flows-returns-then-is_some : goal.find_in_flows-returns-then-is_some
find_in_flows-returns-then-is_some t c =
    let f = c.flow-item.result in
    let test = λ (one : Element). bytes_eq one.id c.args.id.now in
    let told : option_copied c.find_element-inside.result ≡ find test (elements_in_flow f) =
    c.find_element-inside.ensures ∙ ap (find test) (ap all_elements c.as_slice.ensures ∙ sym (in_split_flow f)) in
    found_here test elements_in_flow c.args.flows.now c.loop-flow.flow-index f (option_copied c.find_element-inside.result) _
    c.loop-flow-test.true c.flow-item.is told
    (copied_there c.find_element-inside.result true (search rules)) c.loop-flow.invariant

pub find_in_flows-loop-flow-preserved : goal.find_in_flows-loop-flow-preserved
find_in_flows-loop-flow-preserved t c =
    let f = c.flow-item.result in
    let test = λ (one : Element). bytes_eq one.id c.args.id.now in
    let told : option_copied c.find_element-inside.result ≡ find test (elements_in_flow f) =
    c.find_element-inside.ensures ∙ ap (find test) (ap all_elements c.as_slice.ensures ∙ sym (in_split_flow f)) in
    found_later test elements_in_flow c.args.flows.now c.loop-flow.flow-index f (option_copied c.find_element-inside.result) _
    c.loop-flow-test.true c.flow-item.is told
    (copied_there c.find_element-inside.result false (search rules)) c.loop-flow.invariant
