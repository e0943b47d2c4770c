use Rattle.std.proofs.Common.{arith}
use Rattle.std.proofs.lemmas.Result.{err_from_is_err_and}
use Rattle.batch_commands.proofs.Listing.{one_listed, all_listed, listed_short}
use Rattle.batch_commands.proofs.executions.put_executions.Goals as goal

pub returns-in_err-put_execution : goal.returns-in_err-put_execution
returns-in_err-put_execution g c =
    let r = err_from_is_err_and c.from_residual.result c.from_residual.ensures.1 in
    rw (r.1, r.2) (listed_short _ _ _ _ _ _ _ _ _ _ _ _ _ _ c.new.ensures (omega (arith, c.loop-place-test.true)) c.loop-place.invariant c.in_err-put_execution.ensures)

pub loop-place-preserved : goal.loop-place-preserved
loop-place-preserved g c = one_listed _ _ _ _ _ _ _ _ _ _ _ _ c.new.ensures c.loop-place.invariant c.in_ok-put_execution.ensures

pub returns : goal.returns
returns g c = all_listed _ _ _ _ _ _ _ _ _ (omega (arith, c.loop-place-test.false, c.loop-place.auto.place-end)) c.loop-place.invariant
