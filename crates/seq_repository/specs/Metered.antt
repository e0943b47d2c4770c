-- The bounds of the counts of work items.
use Rattle.std.specs.Prelude.{ℕ, ◌≤◌, List, map}
use Rattle.batch_ids.specs.Metrics.{IsWithin, sum_of_metrics}
use Rattle.batch_ids.specs.declared.metric_step.MetricStep.{MetricStep}
use Rattle.batch_history.specs.declared.rows.WorkRow.{WorkRow}

-- the sum of each count of these work items is at most this
abbrev pub AreWithin : ℕ → List WorkRow → Type 0
AreWithin most works = IsWithin most (sum_of_metrics (map (λ row. row.metrics) works))

-- a metric step adds at most 4,294,967,295 to each count
pub record IsStep (step : MetricStep) : Type 0 where
  pub read : step.read_count ≤ 4294967295
  pub write : step.write_count ≤ 4294967295
  pub commit : step.commit_count ≤ 4294967295
  pub rollback : step.rollback_count ≤ 4294967295
  pub read_skip : step.read_skip_count ≤ 4294967295
  pub process_skip : step.process_skip_count ≤ 4294967295
  pub filter : step.filter_count ≤ 4294967295
  pub write_skip : step.write_skip_count ≤ 4294967295
