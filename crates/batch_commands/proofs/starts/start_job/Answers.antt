use Rattle.std.proofs.lemmas.Result.{err_from_is_err_and}
use Rattle.batch_commands.proofs.Replying.{start_put, start_failed}
use Rattle.batch_commands.proofs.starts.start_job.Goals as goal

pub returns-in_err-put : goal.returns-in_err-put
returns-in_err-put g c =
    let r = err_from_is_err_and c.from_residual.result c.from_residual.ensures.1 in
    rw (r.1, r.2) (start_failed _ _ _ _ _ _ _ _ _ _ _ c.start-reply.ensures c.in_err-put.ensures)

pub returns : goal.returns
returns g c = start_put _ _ _ _ _ _ _ _ _ _ _ c.start-reply.ensures c.is_ok-is_started.ensures.value c.in_ok-put.ensures
