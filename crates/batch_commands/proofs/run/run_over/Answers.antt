use Rattle.std.proofs.lemmas.Result.{err_from_is_err_and}
use Rattle.batch_commands.proofs.Assembling.{nothing_done}
use Rattle.batch_commands.proofs.run.run_over.Goals as goal

pub returns-in_err-operator : goal.returns-in_err-operator
returns-in_err-operator g c =
    let r = err_from_is_err_and c.from_residual.result c.from_residual.ensures.1 in
    rw (r.1, r.2) (nothing_done _ _ _ _ _)
