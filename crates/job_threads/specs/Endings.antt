-- The finish of a chunk that ended.
use Rattle.std.specs.Prelude.{ℕ, None}
use Rattle.batch_ids.specs.Metrics.{zero_step}
use Rattle.batch_ids.specs.declared.status.WorkOutcome.{WorkOutcome}
use Rattle.batch_ids.specs.declared.status.WorkOutcome.TheVariants.{Completed as Complete, Failed as Fail, Stopped as Stop}
use Rattle.batch_ids.specs.declared.metric_step.MetricStep.{MetricStep}
use Rattle.job_threads.specs.declared.report.Report.{Report}
use Rattle.job_threads.specs.declared.report.Report.TheVariants.{Finish}
use Rattle.job_threads.specs.declared.chunk.Ending.{Ending}
use Rattle.job_threads.specs.declared.chunk.Ending.TheVariants.{Completed, Stopped, Failed, Unopened}
use Rattle.job_threads.specs.Groups.{counts}

abbrev pub outcome_of : Ending → WorkOutcome
outcome_of Completed = Complete
outcome_of Stopped = Stop
outcome_of Failed = Fail
outcome_of Unopened = Fail

-- a failed chunk counts a rollback, unless an open faulted
abbrev pub counts_of : Ending → MetricStep
counts_of Completed = zero_step
counts_of Stopped = zero_step
counts_of Failed = counts 0 0 0 0 1
counts_of Unopened = zero_step

abbrev pub finish_of : ℕ → ℕ → Ending → Report
finish_of work at e = Finish work (outcome_of e) None (counts_of e) at
