use Rattle.std.proofs.Common.{refl}
use Rattle.std.proofs.lemmas.Result.{err_from_is_err_and}
use Rattle.batch_commands.proofs.Checking.{unread, checked}
use Rattle.batch_commands.proofs.Starting.{not_write}
use Rattle.batch_commands.proofs.check.check_in.Goals as goal

pub returns-in_err-first : goal.returns-in_err-first
returns-in_err-first g c =
    let r = err_from_is_err_and c.from_residual.result c.from_residual.ensures.1 in
    let line = c.in_err-first.ensures in
    rw (r.1, r.2) (unread _ _ _ _ _ _ c.requires.unread line.line (not_write _ _ refl line.nothing_written))

pub returns : goal.returns
returns g c = checked _ _ _ _ _ _ _ _ c.requires.unread c.in_ok-first.ensures.line c.tell_checked-told.ensures
