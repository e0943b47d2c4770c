use Rattle.std.proofs.lemmas.Result.{err_from_is_err_and}
use Rattle.batch_commands.proofs.Ending.{not_begun}
use Rattle.batch_commands.proofs.run.run_jobs.Goals as goal

pub returns-in_err-output : goal.returns-in_err-output
returns-in_err-output g c =
    let r = err_from_is_err_and c.from_residual.result c.from_residual.ensures.1 in
    rw (r.1, r.2) (not_begun _ _)
