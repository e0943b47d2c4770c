use Rattle.std.proofs.Common.{◌≡◌, ◌++◌, map, drop}
use Rattle.jsl_model.specs.Trees.{joined, nodes, nodes_of_flow}
use Rattle.jsl_model.specs.Nodes.{node}
use Rattle.jsl_model.proofs.node.+adding.Given as goal

abbrev pub invariant-add_all-loop-element : goal.invariant-add_all-loop-element
invariant-add_all-loop-element l =
    map node l.found.items ++ nodes (drop l.element-index l.elements) ≡ map node l.fn.found.items ++ nodes l.elements

abbrev pub invariant-add_flows-loop-flow : goal.invariant-add_flows-loop-flow
invariant-add_flows-loop-flow l =
    map node l.found.items ++ joined (map nodes_of_flow (drop l.flow-index l.flows)) ≡ map node l.fn.found.items ++ joined (map nodes_of_flow l.flows)
