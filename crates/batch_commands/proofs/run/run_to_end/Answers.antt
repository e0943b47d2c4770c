use Rattle.std.proofs.Common.{◌∙◌, sym}
use Rattle.std.proofs.lemmas.Result.{err_from_is_err_and}
use Rattle.batch_commands.proofs.Ending.{from_nothing, finished, failed_before, failed_at_end}
use Rattle.batch_commands.proofs.run.run_to_end.Goals as goal

pub returns-then-has_writer_failed : goal.returns-then-has_writer_failed
returns-then-has_writer_failed g c =
    failed_before _ _ _ _ _ _ (sym c.has_writer_failed.ensures ∙ c.if-has_writer_failed.true) (from_nothing _ _ _ _ _ _ _ c.requires.nothing_waits c.run_source-outcome.ensures)

pub returns-in_err-flush : goal.returns-in_err-flush
returns-in_err-flush g c =
    let r = err_from_is_err_and c.from_residual.result c.from_residual.ensures.1 in
    rw (r.1, r.2) (failed_at_end _ _ _ _ _ _ c.flush.new.output _ _ (sym c.has_writer_failed.ensures ∙ c.if-has_writer_failed.false) (from_nothing _ _ _ _ _ _ _ c.requires.nothing_waits c.run_source-outcome.ensures) c.in_err-flush.ensures)

pub returns : goal.returns
returns g c =
    finished _ _ _ _ _ _ _ _ (sym c.has_writer_failed.ensures ∙ c.if-has_writer_failed.false) (from_nothing _ _ _ _ _ _ _ c.requires.nothing_waits c.run_source-outcome.ensures) c.in_ok-flush.ensures
