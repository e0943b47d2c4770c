use Rattle.std.proofs.Common.{◌≡◌, map, take}
use Rattle.jsl_model.specs.Targets.{outline, ids}
use Rattle.jsl_model.proofs.naming.own_ids.Given as goal

abbrev pub invariant-loop-element : goal.invariant-loop-element
invariant-loop-element l = map (λ id. id.now) l.ids.items ≡ ids (outline (take l.element-index l.elements))
