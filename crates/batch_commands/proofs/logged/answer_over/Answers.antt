use Rattle.batch_commands.proofs.Readying.{lines-by, no-log-by}
use Rattle.batch_commands.proofs.logged.answer_over.Goals as goal

pub returns-in-Ok-ready : goal.returns-in-Ok-ready
returns-in-Ok-ready g c =
    lines-by _ _ _ _ _ _ _ _ _ _ _ _ _ _ _ c.in-Ok.ensures c.deref.ensures.value c.in-Ok-read_first.ensures.read c.in-Ok-ready.ensures.ready c.answer_in.ensures

pub returns : goal.returns
returns g c =
    no-log-by _ _ _ _ _ _ _ _ _ _ _ _ c.in-Ok.ensures c.deref.ensures.value c.in-Ok-read_first.ensures.read c.in-Err-ready.ensures.unready c.tell_unready-end.ensures
