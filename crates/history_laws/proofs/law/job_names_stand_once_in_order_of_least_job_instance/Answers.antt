use Rattle.history_laws.proofs.Names.{names_grow, names_left}
use Rattle.history_laws.proofs.law.job_names_stand_once_in_order_of_least_job_instance.Goals as goal

pub returns-clause-order : goal.returns-clause-order
returns-clause-order c = names_grow

pub returns-clause-purged : goal.returns-clause-purged
returns-clause-purged c = names_left
