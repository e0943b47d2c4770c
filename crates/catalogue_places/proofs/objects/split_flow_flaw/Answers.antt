use Rattle.serde_json.specs.View.{view}
use Rattle.catalogue_places.proofs.Laws.{split_flow_agrees}
use Rattle.catalogue_places.proofs.objects.split_flow_flaw.Goals as goal

pub returns-clause-law : goal.returns-clause-law
returns-clause-law c = split_flow_agrees (view c.args.value.now)
