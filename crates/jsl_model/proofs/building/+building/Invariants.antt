use Rattle.std.proofs.Common.{◌≡◌, drop, map, take}
use Rattle.jsl_model.specs.Trees.{any_true}
use Rattle.jsl_model.specs.Parts.{element_of, flow_of}
use Rattle.jsl_model.specs.LongTexts.{element_has_long, flow_has_long}
use Rattle.jsl_model.proofs.building.+building.Given as goal

abbrev pub invariant-build_elements-loop-element : goal.invariant-build_elements-loop-element
invariant-build_elements-loop-element l =
    (l.built.items ≡ map element_of (take l.element-index l.parts))
    × (any_true (map element_has_long (map element_of (drop l.element-index l.parts))) ≡ any_true (map element_has_long (map element_of l.parts)))

abbrev pub invariant-build_flows-loop-flow : goal.invariant-build_flows-loop-flow
invariant-build_flows-loop-flow l =
    (l.built.items ≡ map flow_of (take l.flow-index l.parts))
    × (any_true (map flow_has_long (map flow_of (drop l.flow-index l.parts))) ≡ any_true (map flow_has_long (map flow_of l.parts)))
