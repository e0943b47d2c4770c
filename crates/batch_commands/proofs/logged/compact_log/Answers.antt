use Rattle.std.proofs.Common.{inr}
use Rattle.batch_commands.proofs.logged.compact_log.Goals as goal

pub returns-in-Ok-clause-compacted : goal.returns-in-Ok-clause-compacted
returns-in-Ok-clause-compacted g c = inr (c.in-Ok.ensures.compacted _ c.requires.answers c.requires.jobs)
