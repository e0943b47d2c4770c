use Rattle.std.proofs.Common.{◌≡◌, ◌++◌, drop, bytes_eq}
use Rattle.std.specs.HashSet as hash
use Rattle.jsl_model.specs.Names.{unheld, distinct}
use Rattle.jsl_model.proofs.Among.{texts}
use Rattle.jsl_model.proofs.names.distinct.Given as goal

abbrev pub invariant-loop-name : goal.invariant-loop-name
invariant-loop-name l =
    texts l.kept.items ++ unheld (λ name. hash.contains_by (λ key. bytes_eq name key.now) l.seen) (texts (drop l.name-index l.names)) ≡ distinct (texts l.names)
