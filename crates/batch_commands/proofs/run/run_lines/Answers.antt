use Rattle.std.proofs.Common.{refl}
use Rattle.std.proofs.lemmas.Result.{err_from_is_err_and}
use Rattle.batch_commands.proofs.Opening.{no_first, opened, faulty}
use Rattle.batch_commands.proofs.Starting.{not_write}
use Rattle.batch_commands.proofs.run.run_lines.Goals as goal

pub returns-in_err-first : goal.returns-in_err-first
returns-in_err-first g c =
    let r = err_from_is_err_and c.from_residual.result c.from_residual.ensures.1 in
    let line = c.in_err-first.ensures in
    rw (r.1, r.2) (no_first _ _ _ _ _ _ _ c.requires.unread line.line (not_write _ _ refl line.nothing_written))

pub returns-in-Ok : goal.returns-in-Ok
returns-in-Ok g c = opened _ _ _ _ _ _ _ _ _ _ _ _ _ c.requires.unread c.in_ok-first.ensures.line c.in-Ok.ensures.read c.run_jobs_of-ran.ensures

pub returns-in-Err : goal.returns-in-Err
returns-in-Err g c = faulty _ _ _ _ _ _ _ _ _ _ _ c.requires.unread c.in_ok-first.ensures.line c.in-Err.ensures.fault c.tell_fault.ensures
