use Rattle.std.proofs.Common.{◌∙◌, option_map, ap, sym}
use Rattle.serde_json.specs.View.{view}
use Rattle.fault_places.proofs.Sited.{not_json}
use Rattle.fault_places.proofs.place.place_of.Goals as goal

pub returns-clause-known : goal.returns-clause-known
returns-clause-known c = λ fails. not_json c.args.text.now c.args.fault (sym c.in_ok-value.ensures ∙ ap (option_map view) c.in-None.is) fails
