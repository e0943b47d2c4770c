use Rattle.history_laws.proofs.Keeping.{kept_where, done_where, plan_keeps}
use Rattle.history_laws.proofs.partitions.partitions_are_kept_until_a_job_execution_is_done.Goals as goal

pub returns-clause-kept : goal.returns-clause-kept
returns-clause-kept c = kept_where

pub returns-clause-done : goal.returns-clause-done
returns-clause-done c = done_where

pub returns-clause-plan : goal.returns-clause-plan
returns-clause-plan c = plan_keeps
