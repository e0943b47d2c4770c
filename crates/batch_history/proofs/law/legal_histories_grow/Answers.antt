use Rattle.batch_history.proofs.Legal.{legal_grown}
use Rattle.batch_history.proofs.law.legal_histories_grow.Goals as goal

pub returns : goal.returns
returns c = legal_grown
