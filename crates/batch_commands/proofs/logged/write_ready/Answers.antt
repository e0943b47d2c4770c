use Rattle.batch_commands.proofs.Readying.{safe-anew}
use Rattle.batch_commands.proofs.logged.write_ready.Goals as goal

pub returns-else-log-clause-any_moment : goal.returns-else-log-clause-any_moment
returns-else-log-clause-any_moment g c = safe-anew _ _ _ _ _ c.if-log.false c.deref-else-log.ensures.value c.make_anew.ensures.any_moment
