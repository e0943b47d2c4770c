use Rattle.job_threads.proofs.Totals.{at-report, one-report}
use Rattle.job_threads.proofs.threads.total.Goals as goal

pub loop-report-preserved : goal.loop-report-preserved
loop-report-preserved c =
    one-report _ _ c.loop-report.total c.with-total.result c.in-Ok.report (at-report _ c.loop-report.report-index _ _ _ c.loop-report.invariant c.loop-report-test.true c.in-Ok.is) c.with-total.ensures.items c.with-total.ensures.gave_up
