use Rattle.std.proofs.Common.{◌≡◌, ℕ, List, take, bytes_eq}
use Rattle.std.specs.HashMap as hash
use Rattle.jsl_model.specs.Targets.{outline, ids, place_in}
use Rattle.jsl_model.proofs.targets.places_of.Given as goal

abbrev pub invariant-loop-place : goal.invariant-loop-place
invariant-loop-place l = (q : List ℕ) → hash.get_by (λ key. bytes_eq q key.now) l.places ≡ place_in (ids (outline (take l.place l.elements))) q
