use Rattle.std.proofs.Common.{◌∙◌, sym}
use Rattle.std.proofs.lemmas.Result.{err_from_is_err_and}
use Rattle.script_engine.proofs.Opening.{not_begun}
use Rattle.script_engine.proofs.Flushing.{flushed, flush_failed}
use Rattle.script_engine.proofs.run.run_script.Goals as goal

pub returns-in_err-output : goal.returns-in_err-output
returns-in_err-output g c =
    let r = err_from_is_err_and c.from_residual.result c.from_residual.ensures.1 in
    rw (r.1, r.2) (not_begun _ _)

pub returns-in_err-flush : goal.returns-in_err-flush
returns-in_err-flush g c =
    let r = err_from_is_err_and c.from_residual-in_err-flush.result c.from_residual-in_err-flush.ensures.1 in
    let flush = c.in_err-flush.ensures in
    rw (r.1, r.2) (flush_failed _ _ _ _ _ _ _ flush.err.0 (sym c.has_writer_failed.ensures ∙ c.if-has_writer_failed.false) c.run-outcome.ensures flush.err.1 flush.err_failures)

pub returns : goal.returns
returns g c =
    flushed _ _ _ _ _ _ _ (sym c.has_writer_failed.ensures ∙ c.if-has_writer_failed.false) c.run-outcome.ensures c.in_ok-flush.ensures.ok c.in_ok-flush.ensures.ok_failures
