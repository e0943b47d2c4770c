use Rattle.std.proofs.Common.{◌≡◌, drop, map, nat_lt}
use Rattle.jsl_model.specs.Trees.{greatest, depth, depth_of_flow}
use Rattle.jsl_model.proofs.depth.+depth.Given as goal

abbrev pub invariant-is_deeper-loop-element : goal.invariant-is_deeper-loop-element
invariant-is_deeper-loop-element l = nat_lt l.most (depth (drop l.element-index l.elements)) ≡ nat_lt l.most (depth l.elements)

abbrev pub invariant-are_flows_deeper-loop-flow : goal.invariant-are_flows_deeper-loop-flow
invariant-are_flows_deeper-loop-flow l =
    nat_lt l.most (greatest (map depth_of_flow (drop l.flow-index l.flows))) ≡ nat_lt l.most (greatest (map depth_of_flow l.flows))
