use Rattle.std.proofs.Common.{inr, codes}
use Rattle.batch_commands.proofs.Words.{last_word}
use Rattle.batch_commands.proofs.command_line.options_of.Goals as goal

pub returns-in-len1-up : goal.returns-in-len1-up
returns-in-len1-up c = inr (last_word c.args.words.now _ (codes "--") c.eq.result c.in-len1-up.len_at_least c.eq.ensures c.if-eq.true)
