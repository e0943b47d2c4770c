use Rattle.batch_commands.proofs.logged.answer_logged.Goals as goal

pub returns-then-tags : goal.returns-then-tags
returns-then-tags g c = rw c.if-tags.true c.answer_over.ensures

pub returns-else-tags : goal.returns-else-tags
returns-else-tags g c = rw c.if-tags.false c.answer_over-else-tags.ensures
