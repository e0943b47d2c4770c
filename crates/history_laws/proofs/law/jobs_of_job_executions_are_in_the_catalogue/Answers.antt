use Rattle.history_laws.proofs.Laws.{has_job}
use Rattle.history_laws.proofs.law.jobs_of_job_executions_are_in_the_catalogue.Goals as goal

pub returns : goal.returns
returns c = has_job
