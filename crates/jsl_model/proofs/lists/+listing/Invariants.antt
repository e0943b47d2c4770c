use Rattle.std.proofs.Common.{◌≡◌, ◌++◌, drop}
use Rattle.std.specs.List.{flat_map}
use Rattle.jsl_model.specs.Targets.{lists_of, lists_of_flow, lists_inside}
use Rattle.jsl_model.proofs.InnerLists.{outlines}
use Rattle.jsl_model.proofs.lists.+listing.Given as goal

abbrev pub invariant-add_inside-loop-flow : goal.invariant-add_inside-loop-flow
invariant-add_inside-loop-flow l =
    outlines l.lists.items ++ flat_map lists_of_flow (drop l.flow-index l.flow-items) ≡ outlines l.fn.lists.items ++ lists_inside l.element

abbrev pub invariant-add_lists-loop-element : goal.invariant-add_lists-loop-element
invariant-add_lists-loop-element l =
    outlines l.lists.items ++ flat_map lists_inside (drop l.element-index l.elements) ≡ outlines l.fn.lists.items ++ lists_of l.elements
