use Rattle.std.proofs.lemmas.Result.{err_from_is_err_and}
use Rattle.batch_commands.proofs.Putting.{flush_broken}
use Rattle.batch_commands.proofs.replies.flush.Goals as goal

pub returns-in_err-flush : goal.returns-in_err-flush
returns-in_err-flush g c =
    let r = err_from_is_err_and c.from_residual.result c.from_residual.ensures.1 in
    let flush = c.in_err-flush.ensures in
    rw (r.1, r.2) (flush_broken _ _ _ flush.err flush.err_failures)
