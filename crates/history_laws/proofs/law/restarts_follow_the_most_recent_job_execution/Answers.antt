use Rattle.history_laws.proofs.Restarts.{restart_follows}
use Rattle.history_laws.proofs.law.restarts_follow_the_most_recent_job_execution.Goals as goal

pub returns : goal.returns
returns c = restart_follows
