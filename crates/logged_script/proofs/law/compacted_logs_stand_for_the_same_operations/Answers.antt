use Rattle.logged_script.proofs.Forgetting.{over_other, over_same}
use Rattle.logged_script.proofs.law.compacted_logs_stand_for_the_same_operations.Goals as goal

pub returns-clause-same : goal.returns-clause-same
returns-clause-same c = over_same

pub returns-clause-other : goal.returns-clause-other
returns-clause-other c = over_other
