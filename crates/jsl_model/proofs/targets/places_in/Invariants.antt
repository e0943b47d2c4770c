use Rattle.std.proofs.Common.{◌≡◌, take, bytes_eq}
use Rattle.std.specs.HashMap as hash
use Rattle.std.specs.List.{filter_map}
use Rattle.jsl_model.proofs.targets.places_in.Given as goal

abbrev pub invariant-loop-name : goal.invariant-loop-name
invariant-loop-name l = l.found.items ≡ filter_map (λ name. hash.get_by (λ key. bytes_eq name.now key.now) l.places) (take l.name-index l.names)
