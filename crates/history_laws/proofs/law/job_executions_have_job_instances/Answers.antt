use Rattle.history_laws.proofs.Laws.{has_instance}
use Rattle.history_laws.proofs.law.job_executions_have_job_instances.Goals as goal

pub returns : goal.returns
returns c = has_instance
