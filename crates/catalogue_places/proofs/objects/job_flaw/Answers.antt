use Rattle.serde_json.specs.View.{view}
use Rattle.catalogue_places.proofs.Laws.{job_agrees}
use Rattle.catalogue_places.proofs.objects.job_flaw.Goals as goal

pub returns-clause-law : goal.returns-clause-law
returns-clause-law c = job_agrees (view c.args.value.now)
