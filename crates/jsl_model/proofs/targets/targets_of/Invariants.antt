use Rattle.std.proofs.Common.{◌≡◌, take}
use Rattle.jsl_model.specs.Targets.{outline, targets_in}
use Rattle.jsl_model.proofs.Among.{texts}
use Rattle.jsl_model.proofs.targets.targets_of.Given as goal

abbrev pub invariant-loop-element : goal.invariant-loop-element
invariant-loop-element l = texts l.targets.items ≡ targets_in (outline (take l.element-index l.elements))
