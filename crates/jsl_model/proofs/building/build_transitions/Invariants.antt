use Rattle.std.proofs.Common.{◌≡◌, drop, map, take}
use Rattle.jsl_model.specs.Trees.{any_true}
use Rattle.jsl_model.specs.Parts.{transition_of}
use Rattle.jsl_model.specs.LongTexts.{transition_has_long}
use Rattle.jsl_model.proofs.building.build_transitions.Given as goal

abbrev pub invariant-loop-transition : goal.invariant-loop-transition
invariant-loop-transition l =
    (l.built.items ≡ map transition_of (take l.transition-index l.parts))
    × (any_true (map transition_has_long (map transition_of (drop l.transition-index l.parts))) ≡ any_true (map transition_has_long (map transition_of l.parts)))
