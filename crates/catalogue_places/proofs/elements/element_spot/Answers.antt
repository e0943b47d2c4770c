use Rattle.serde_json.specs.View.{view}
use Rattle.catalogue_places.proofs.Laws.{element_agrees}
use Rattle.catalogue_places.proofs.elements.element_spot.Goals as goal

pub returns-clause-law : goal.returns-clause-law
returns-clause-law c = element_agrees (view c.args.value.now)
