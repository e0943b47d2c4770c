use Rattle.std.proofs.Common.{◌≡◌, drop, map}
use Rattle.jsl_model.specs.Trees.{any_true}
use Rattle.jsl_model.specs.Emptiness.{element_has_empty, flow_has_empty}
use Rattle.jsl_model.proofs.emptiness.+emptiness.Given as goal

abbrev pub invariant-is_list_lacking-loop-element :
    goal.invariant-is_list_lacking-loop-element
invariant-is_list_lacking-loop-element l =
    any_true (map element_has_empty (drop l.element-index l.elements)) ≡ any_true (map element_has_empty l.elements)

abbrev pub invariant-is_split_lacking-loop-flow : goal.invariant-is_split_lacking-loop-flow
invariant-is_split_lacking-loop-flow l =
    any_true (map flow_has_empty (drop l.flow-index l.flows)) ≡ any_true (map flow_has_empty l.flows)
