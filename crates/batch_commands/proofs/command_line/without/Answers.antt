use Rattle.std.proofs.Common.{inl, inr}
use Rattle.batch_commands.proofs.Words.{first_word, last_word}
use Rattle.batch_commands.proofs.command_line.without.Goals as goal

pub returns-in-len1-up : goal.returns-in-len1-up
returns-in-len1-up c = inl (first_word c.args.words.now _ c.args.flag.now c.eq.result c.in-len1-up.len_at_least c.eq.ensures c.if-eq.true)

pub returns-in-len1-up-2 : goal.returns-in-len1-up-2
returns-in-len1-up-2 c = inr (last_word c.args.words.now _ c.args.flag.now c.eq-2.result c.in-len1-up.len_at_least c.eq-2.ensures c.if-eq-2.true)
