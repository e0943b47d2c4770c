use Rattle.std.proofs.Common.{◌≡◌, ℕ, List, take, map, bytes_eq}
use Rattle.std.specs.HashSet as hash
use Rattle.jsl_model.specs.Names.{is_among}
use Rattle.jsl_model.proofs.names.set_of.Given as goal

abbrev pub invariant-loop-name : goal.invariant-loop-name
invariant-loop-name l =
    (q : List ℕ) → hash.contains_by (λ key. bytes_eq q key.now) l.set ≡ is_among (map (λ name. name.now) (take l.name-index l.names)) q
