use Rattle.std.proofs.lemmas.Result.{err_from_is_err_and}
use Rattle.batch_commands.proofs.Putting.{broken, put_behind}
use Rattle.batch_commands.proofs.replies.put.Goals as goal

pub returns-in_err-put : goal.returns-in_err-put
returns-in_err-put g c =
    let r = err_from_is_err_and c.from_residual.result c.from_residual.ensures.1 in
    let put = c.in_err-put.ensures in
    rw (r.1, r.2) (broken _ _ _ _ put.err put.err_failures)

pub returns : goal.returns
returns g c =
    let put = c.in_ok-put.ensures in
    put_behind _ _ _ _ _ put.ok put.ok_grown put.ok_failures
