use Rattle.std.proofs.Common.{◌≡◌, map, take}
use Rattle.jsl_model.specs.Targets.{outline, ids}
use Rattle.jsl_model.proofs.Places.{places_among}
use Rattle.jsl_model.proofs.targets.graph_of.Given as goal

abbrev pub invariant-loop-element : goal.invariant-loop-element
invariant-loop-element l = map (λ list. list.items) l.graph.items ≡ map (places_among (ids (outline l.elements))) (outline (take l.element-index l.elements))
