use Rattle.std.proofs.Common.{◌≡◌, drop, map}
use Rattle.jsl_model.specs.Names.{are_among}
use Rattle.jsl_model.proofs.names.are_among.Given as goal

abbrev pub invariant-loop-name : goal.invariant-loop-name
invariant-loop-name l =
    are_among (map (λ name. name.now) l.held) (map (λ name. name.now) (drop l.name-index l.names))
    ≡ are_among (map (λ name. name.now) l.held) (map (λ name. name.now) l.names)
