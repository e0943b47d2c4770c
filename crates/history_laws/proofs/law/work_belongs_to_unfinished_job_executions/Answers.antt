use Rattle.history_laws.proofs.Laws.{belongs, once_each}
use Rattle.history_laws.proofs.law.work_belongs_to_unfinished_job_executions.Goals as goal

pub returns-clause-belongs : goal.returns-clause-belongs
returns-clause-belongs c = belongs

pub returns-clause-once : goal.returns-clause-once
returns-clause-once c = once_each
