use Rattle.serde_json.specs.View.{view}
use Rattle.catalogue_places.proofs.Laws.{catalogue_agrees}
use Rattle.catalogue_places.proofs.objects.catalogue_flaw.Goals as goal

pub returns-clause-law : goal.returns-clause-law
returns-clause-law c = catalogue_agrees (view c.args.value.now)
