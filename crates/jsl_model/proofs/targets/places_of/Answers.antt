use Rattle.std.proofs.Common.{arith, bytes_eq}
use Rattle.std.specs.HashMap as hash
use Rattle.std.proofs.lemmas.Map.Text.{text_keys}
use Rattle.jsl_model.proofs.Places.{place-more}
use Rattle.jsl_model.proofs.targets.places_of.Goals as goal

pub loop-place-preserved : goal.loop-place-preserved
loop-place-preserved c = λ q.
    place-more c.args.elements.now c.loop-place.place c.index-elements-place.result q (hash.get_by (λ key. bytes_eq q key.now) c.loop-place.places) _
    c.loop-place-test.true c.index-elements-place.is (c.loop-place.invariant q)
    (grind (arith, text_keys))
