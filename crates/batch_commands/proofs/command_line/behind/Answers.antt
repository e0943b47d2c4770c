use Rattle.batch_commands.proofs.Words.{first_word}
use Rattle.batch_commands.proofs.command_line.behind.Goals as goal

pub returns-in-len1-up : goal.returns-in-len1-up
returns-in-len1-up c = first_word c.args.words.now _ c.args.command.now c.eq.result c.in-len1-up.len_at_least c.eq.ensures c.if-eq.true
