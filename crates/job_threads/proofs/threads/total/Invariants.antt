use Rattle.std.proofs.Common.{drop}
use Rattle.job_threads.proofs.Totals.{SoFar}
use Rattle.job_threads.proofs.threads.total.Given as goal

abbrev pub invariant-loop-report : goal.invariant-loop-report
invariant-loop-report l = SoFar l.reports (drop l.report-index l.reports) l.total
