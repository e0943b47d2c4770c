use Rattle.std.proofs.Common.{◌≡◌, drop, find}
use Rattle.std.specs.List.{flat_map}
use Rattle.std.specs.Str.{bytes_eq}
use Rattle.jsl_model.specs.declared.element.Element.{Element}
use Rattle.jsl_model.specs.Trees.{all_elements, elements_in_flow}
use Rattle.jsl_model.proofs.finding.+finding.Given as goal

abbrev pub invariant-find_element-loop-element : goal.invariant-find_element-loop-element
invariant-find_element-loop-element l =
    find (λ (e : Element). bytes_eq e.id l.id) (all_elements (drop l.element-index l.elements))
    ≡ find (λ (e : Element). bytes_eq e.id l.id) (all_elements l.elements)

abbrev pub invariant-find_in_flows-loop-flow : goal.invariant-find_in_flows-loop-flow
invariant-find_in_flows-loop-flow l =
    find (λ (e : Element). bytes_eq e.id l.id) (flat_map elements_in_flow (drop l.flow-index l.flows))
    ≡ find (λ (e : Element). bytes_eq e.id l.id) (flat_map elements_in_flow l.flows)
