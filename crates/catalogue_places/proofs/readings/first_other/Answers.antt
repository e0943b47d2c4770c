use Rattle.std.proofs.Common.{◌∙◌, not, bytes_eq, string_bytes, unwrap_or, ap, rules, tests}
use Rattle.std.specs.BTreeMap.{keys}
use Rattle.std.specs.List.{list_any}
use Rattle.std.proofs.lemmas.Iterator.Consumers.{YieldsList-from_rest}
use Rattle.std.proofs.lemmas.Iterator.Search.{position_from_yields_List}
use Rattle.catalogue_places.proofs.readings.first_other.Goals as goal

pub returns : goal.returns
returns c =
    let place = position_from_yields_List (λ key. not (list_any (λ listed. bytes_eq (string_bytes key) listed.now) c.args.names.now)) _ _ c.position-place.result c.position-place.ensures.ran (YieldsList-from_rest (keys c.args.members.now) c.keys.ensures.rest) (λ x b q k. search (rules, tests)) in
    c.unwrap_or.ensures ∙ ap (λ o. unwrap_or o 0) place
