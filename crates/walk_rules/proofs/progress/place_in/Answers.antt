use Rattle.std.proofs.Common.{◌≡◌, ◌<◌, true, length, rules}
use Rattle.std.specs.Str.{bytes_eq}
use Rattle.walk_rules.proofs.Places.{place_once}
use Rattle.walk_rules.proofs.progress.place_in.Goals as goal

pub returns-then-eq : goal.returns-then-eq
returns-then-eq c =
    let lt : c.place_of-place.result < length c.args.elements.now = search rules in
    let on : bytes_eq c.index-elements-place.result.id c.args.id.now ≡ true = search rules in
    place_once c.args.elements.now c.args.id.now c.place_of-place.result c.index-elements-place.result c.requires.once lt c.index-elements-place.is on
