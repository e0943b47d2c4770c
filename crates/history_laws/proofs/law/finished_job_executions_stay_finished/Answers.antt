use Rattle.history_laws.proofs.Laws.{finished_stays}
use Rattle.history_laws.proofs.law.finished_job_executions_stay_finished.Goals as goal

pub returns : goal.returns
returns c = finished_stays
