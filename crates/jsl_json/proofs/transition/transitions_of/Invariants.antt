use Rattle.std.proofs.Common.{◌≡◌, drop, map}
use Rattle.serde_json.specs.View.{items_view}
use Rattle.jsl_model.specs.Parts.{transition_of}
use Rattle.jsl_json.specs.Transitions.{transitions_of}
use Rattle.jsl_json.proofs.Lists.{ahead}
use Rattle.jsl_json.proofs.transition.transitions_of.Given as goal

-- the transition elements that were read, ahead of those that are left, are all of them
abbrev pub invariant-loop-value : goal.invariant-loop-value
invariant-loop-value l = ahead (map transition_of l.transitions.items) (transitions_of (items_view (drop l.value-index l.list))) ≡ transitions_of (items_view l.list)
