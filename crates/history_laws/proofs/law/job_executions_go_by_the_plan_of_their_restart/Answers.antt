use Rattle.history_laws.proofs.Restarts.{restart_gives, plan_stays}
use Rattle.history_laws.proofs.law.job_executions_go_by_the_plan_of_their_restart.Goals as goal

pub returns-clause-given : goal.returns-clause-given
returns-clause-given c = restart_gives

pub returns-clause-kept : goal.returns-clause-kept
returns-clause-kept c = plan_stays
