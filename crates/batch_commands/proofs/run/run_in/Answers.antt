use Rattle.std.proofs.lemmas.Result.{err_from_is_err_and}
use Rattle.batch_commands.proofs.Assembling.{not_started, not_flushed, pool_not_told, replies_written, pool_told, listed_behind}
use Rattle.batch_commands.proofs.run.run_in.Goals as goal

pub returns-in_err-started : goal.returns-in_err-started
returns-in_err-started g c =
    let r = err_from_is_err_and c.from_residual.result c.from_residual.ensures.1 in
    rw (r.1, r.2) (not_started _ _ c.answer_starts.new.session _ _ _ _ _ _ _ _ _ c.requires.legal c.in_err-started.ensures)

pub returns-in_err-flush : goal.returns-in_err-flush
returns-in_err-flush g c =
    let r = err_from_is_err_and c.from_residual-in_err-flush.result c.from_residual-in_err-flush.ensures.1 in
    rw (r.1, r.2) (not_flushed _ _ c.answer_starts.new.session _ _ _ _ _ _ _ _ _ _ _ _ c.requires.legal c.in_ok-started.ensures c.in_err-flush.ensures)

pub returns-in_err-run_pool : goal.returns-in_err-run_pool
returns-in_err-run_pool g c =
    let r = err_from_is_err_and c.from_residual-in_err-run_pool.result c.from_residual-in_err-run_pool.ensures.1 in
    let pool = c.in_err-run_pool.ensures in
    rw (r.1, r.2) (pool_not_told _ _ c.answer_starts.new.session _ _ _ _ _ _ _ _ _ _ _ _ _ c.requires.legal (replies_written _ _ c.answer_starts.new.session _ _ _ _ _ _ _ _ _ _ _ c.in_ok-started.ensures c.in_ok-flush.ensures) pool.1 pool.2)

pub returns : goal.returns
returns g c =
    let pool = c.in_ok-run_pool.ensures in
    listed_behind _ _ _ _ _ _ _ _ _ _ _ _ _ _ _ _ _ c.requires.legal
    (pool_told _ _ _ _ _ _ _ _ _ _ _ _ _ _ _ (replies_written _ _ c.answer_starts.new.session _ _ _ _ _ _ _ _ _ _ _ c.in_ok-started.ensures c.in_ok-flush.ensures) pool.2) pool.1 c.put_executions.ensures
