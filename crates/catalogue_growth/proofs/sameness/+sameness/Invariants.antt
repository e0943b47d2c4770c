use Rattle.std.proofs.Common.{◌≡◌, take}
use Rattle.catalogue_growth.proofs.sameness.+sameness.Given as goal

abbrev pub invariant-are_same_elements-loop-index : goal.invariant-are_same_elements-loop-index
invariant-are_same_elements-loop-index l = take l.index l.elements ≡ take l.index l.others

abbrev pub invariant-are_same_flows-loop-index : goal.invariant-are_same_flows-loop-index
invariant-are_same_flows-loop-index l = take l.index l.flows ≡ take l.index l.others
