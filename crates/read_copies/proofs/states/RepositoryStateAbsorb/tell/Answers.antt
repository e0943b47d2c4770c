use Rattle.batch_history.specs.Rows.{history}
use Rattle.read_copies.proofs.states.RepositoryStateAbsorb.tell.Goals as goal

pub returns : goal.returns
returns g c catalogue log stands legal = c.ask.ensures (history catalogue log) stands.stood
