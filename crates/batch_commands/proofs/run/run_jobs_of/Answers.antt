use Rattle.std.proofs.lemmas.Result.{err_from_is_err_and}
use Rattle.batch_commands.proofs.Assembling.{nothing_done}
use Rattle.batch_commands.proofs.run.run_jobs_of.Goals as goal

pub returns-in_err-names : goal.returns-in_err-names
returns-in_err-names g c =
    let r = err_from_is_err_and c.from_residual.result c.from_residual.ensures.1 in
    rw (r.1, r.2) (nothing_done _ _ _ _ _)

pub returns-in_err-try_clone : goal.returns-in_err-try_clone
returns-in_err-try_clone g c =
    let r = err_from_is_err_and c.from_residual-in_err-try_clone.result c.from_residual-in_err-try_clone.ensures.1 in
    rw (r.1, r.2) (nothing_done _ _ _ _ _)
