-- The metrics of a step execution.
use Rattle.std.specs.Prelude.{ℕ, ◌+◌, ◌*◌, ◌<◌, ◌≤◌, ◌^◌, Option, List, [], ◌∷◌, codes, find}
use Rattle.std.specs.Str.{bytes_eq}
use Rattle.batch_ids.specs.declared.metric.Metric.{Metric}
use Rattle.batch_ids.specs.declared.metric.Metric.TheVariants.{ReadCount, WriteCount, CommitCount, RollbackCount, ReadSkipCount, ProcessSkipCount, FilterCount, WriteSkipCount}
use Rattle.batch_ids.specs.declared.metrics.Metrics.{Metrics}
use Rattle.batch_ids.specs.declared.metric_step.MetricStep.{MetricStep}

-- the name of a metric
abbrev pub metric_name : Metric → List ℕ
metric_name ReadCount = codes "READ_COUNT"
metric_name WriteCount = codes "WRITE_COUNT"
metric_name CommitCount = codes "COMMIT_COUNT"
metric_name RollbackCount = codes "ROLLBACK_COUNT"
metric_name ReadSkipCount = codes "READ_SKIP_COUNT"
metric_name ProcessSkipCount = codes "PROCESS_SKIP_COUNT"
metric_name FilterCount = codes "FILTER_COUNT"
metric_name WriteSkipCount = codes "WRITE_SKIP_COUNT"

-- every metric
abbrev pub all_metrics : List Metric
all_metrics = ReadCount ∷ WriteCount ∷ CommitCount ∷ RollbackCount ∷ ReadSkipCount ∷ ProcessSkipCount ∷ FilterCount ∷ WriteSkipCount ∷ []

-- the metric with this name, if there is one
abbrev pub metric_named : List ℕ → Option Metric
metric_named text = find (λ metric. bytes_eq (metric_name metric) text) all_metrics

-- the count of a metric
abbrev pub metric_count : Metrics → Metric → ℕ
metric_count metrics ReadCount = metrics.read_count
metric_count metrics WriteCount = metrics.write_count
metric_count metrics CommitCount = metrics.commit_count
metric_count metrics RollbackCount = metrics.rollback_count
metric_count metrics ReadSkipCount = metrics.read_skip_count
metric_count metrics ProcessSkipCount = metrics.process_skip_count
metric_count metrics FilterCount = metrics.filter_count
metric_count metrics WriteSkipCount = metrics.write_skip_count

-- the metric step with another number for one metric
abbrev pub step_with : MetricStep → Metric → ℕ → MetricStep
step_with step ReadCount n = record step { read_count = n }
step_with step WriteCount n = record step { write_count = n }
step_with step CommitCount n = record step { commit_count = n }
step_with step RollbackCount n = record step { rollback_count = n }
step_with step ReadSkipCount n = record step { read_skip_count = n }
step_with step ProcessSkipCount n = record step { process_skip_count = n }
step_with step FilterCount n = record step { filter_count = n }
step_with step WriteSkipCount n = record step { write_skip_count = n }

-- the metrics of a step execution that begins: each count is 0
abbrev pub zero_metrics : Metrics
zero_metrics = record { read_count = 0; write_count = 0; commit_count = 0; rollback_count = 0; read_skip_count = 0; process_skip_count = 0; filter_count = 0; write_skip_count = 0 }

-- the metric step that adds nothing
abbrev pub zero_step : MetricStep
zero_step = record { read_count = 0; write_count = 0; commit_count = 0; rollback_count = 0; read_skip_count = 0; process_skip_count = 0; filter_count = 0; write_skip_count = 0 }

-- the metrics with each number of a metric step added to its count
abbrev pub added : Metrics → MetricStep → Metrics
added metrics step = record {
  read_count = metrics.read_count + step.read_count;
  write_count = metrics.write_count + step.write_count;
  commit_count = metrics.commit_count + step.commit_count;
  rollback_count = metrics.rollback_count + step.rollback_count;
  read_skip_count = metrics.read_skip_count + step.read_skip_count;
  process_skip_count = metrics.process_skip_count + step.process_skip_count;
  filter_count = metrics.filter_count + step.filter_count;
  write_skip_count = metrics.write_skip_count + step.write_skip_count;
}

-- the sums of two metrics, count by count
abbrev pub both_metrics : Metrics → Metrics → Metrics
both_metrics one other = record {
  read_count = one.read_count + other.read_count;
  write_count = one.write_count + other.write_count;
  commit_count = one.commit_count + other.commit_count;
  rollback_count = one.rollback_count + other.rollback_count;
  read_skip_count = one.read_skip_count + other.read_skip_count;
  process_skip_count = one.process_skip_count + other.process_skip_count;
  filter_count = one.filter_count + other.filter_count;
  write_skip_count = one.write_skip_count + other.write_skip_count;
}

-- the sums of all these metrics
abbrev pub sum_of_metrics : List Metrics → Metrics
sum_of_metrics [] = zero_metrics
sum_of_metrics (metrics ∷ rest) = both_metrics metrics (sum_of_metrics rest)

-- each sum of the two metrics fits in 64 bits
pub record HaveRoom (one other : Metrics) : Type 0 where
  pub read : one.read_count + other.read_count < 2 ^ 64
  pub write : one.write_count + other.write_count < 2 ^ 64
  pub commit : one.commit_count + other.commit_count < 2 ^ 64
  pub rollback : one.rollback_count + other.rollback_count < 2 ^ 64
  pub read_skip : one.read_skip_count + other.read_skip_count < 2 ^ 64
  pub process_skip : one.process_skip_count + other.process_skip_count < 2 ^ 64
  pub filter : one.filter_count + other.filter_count < 2 ^ 64
  pub write_skip : one.write_skip_count + other.write_skip_count < 2 ^ 64

-- each sum of the metrics and the metric step fits in 64 bits
pub record HasRoom (metrics : Metrics) (step : MetricStep) : Type 0 where
  pub read : metrics.read_count + step.read_count < 2 ^ 64
  pub write : metrics.write_count + step.write_count < 2 ^ 64
  pub commit : metrics.commit_count + step.commit_count < 2 ^ 64
  pub rollback : metrics.rollback_count + step.rollback_count < 2 ^ 64
  pub read_skip : metrics.read_skip_count + step.read_skip_count < 2 ^ 64
  pub process_skip : metrics.process_skip_count + step.process_skip_count < 2 ^ 64
  pub filter : metrics.filter_count + step.filter_count < 2 ^ 64
  pub write_skip : metrics.write_skip_count + step.write_skip_count < 2 ^ 64

-- the most that a count can be after so many metric steps, each of which adds at most 4,294,967,295
abbrev pub most_after : ℕ → ℕ
most_after steps = steps * 4294967295

-- each count is at most `most`
pub record IsWithin (most : ℕ) (metrics : Metrics) : Type 0 where
  pub read : metrics.read_count ≤ most
  pub write : metrics.write_count ≤ most
  pub commit : metrics.commit_count ≤ most
  pub rollback : metrics.rollback_count ≤ most
  pub read_skip : metrics.read_skip_count ≤ most
  pub process_skip : metrics.process_skip_count ≤ most
  pub filter : metrics.filter_count ≤ most
  pub write_skip : metrics.write_skip_count ≤ most
