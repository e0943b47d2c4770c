use Rattle.history_laws.proofs.Restarts.{one_unfinished}
use Rattle.history_laws.proofs.law.job_instances_have_at_most_one_unfinished_job_execution.Goals as goal

pub returns : goal.returns
returns c = one_unfinished
