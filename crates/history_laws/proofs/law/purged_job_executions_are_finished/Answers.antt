use Rattle.history_laws.proofs.Laws.{purged_finished}
use Rattle.history_laws.proofs.law.purged_job_executions_are_finished.Goals as goal

pub returns : goal.returns
returns c = purged_finished
