use Rattle.std.proofs.Common.{◌≡◌, drop, bytes_eq}
use Rattle.std.specs.HashSet as hash
use Rattle.jsl_model.specs.Names.{has_twice}
use Rattle.jsl_model.proofs.Among.{texts, repeats}
use Rattle.jsl_model.proofs.names.has_twice.Given as goal

abbrev pub invariant-loop-name : goal.invariant-loop-name
invariant-loop-name l =
    repeats (λ name. hash.contains_by (λ key. bytes_eq name key.now) l.seen) (texts (drop l.name-index l.names)) ≡ has_twice (texts l.names)
