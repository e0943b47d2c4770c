use Rattle.history_laws.proofs.Laws.{has_end_where_over, ended_at}
use Rattle.history_laws.proofs.law.ends_are_moments_of_operations.Goals as goal

pub returns-clause-there : goal.returns-clause-there
returns-clause-there c = has_end_where_over

pub returns-clause-moment : goal.returns-clause-moment
returns-clause-moment c = ended_at
