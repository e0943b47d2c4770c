-- Metrics in JSON: an object of counts by the metrics' names. A count of zero may be left out when metrics
-- are read, and is left out when they are written.
use Rattle.std.specs.Prelude.{ℕ, ◌^◌, List, [], ◌∷◌, nat_lt, codes, Option, Some, None, if◌then◌else◌}
use Rattle.serde_json.specs.Data.{Data}
use Rattle.batch_ids.specs.Metrics.{metric_name, zero_step}
use Rattle.batch_ids.specs.declared.metric.Metric.{Metric}
use Rattle.batch_ids.specs.declared.metric.Metric.TheVariants.{ReadCount, WriteCount, CommitCount, RollbackCount, ReadSkipCount, ProcessSkipCount, FilterCount, WriteSkipCount}
use Rattle.batch_ids.specs.declared.metric_step.MetricStep.{MetricStep}
use Rattle.batch_ids.specs.declared.metrics.Metrics.{Metrics}
use Rattle.json_members.specs.Members.{has_only, optional_number, optional_object}
use Rattle.json_members.specs.Chains.{◌>>=◌}
use Rattle.script_text.specs.Written.{counts_data}

-- a count of 32 bits: one that is left out is 0
abbrev pub small_count : Option ℕ → Option ℕ
small_count None = Some 0
small_count (Some n) = if nat_lt n (2 ^ 32) then Some n else None

-- the count of this metric
abbrev pub metric_at : Metric → Data → Option ℕ
metric_at metric d = optional_number (metric_name metric) d >>= small_count

-- the names of the metrics
abbrev pub metric_names : List (List ℕ)
metric_names =
    metric_name ReadCount ∷ metric_name WriteCount ∷ metric_name CommitCount ∷ metric_name RollbackCount
    ∷ metric_name ReadSkipCount ∷ metric_name ProcessSkipCount ∷ metric_name FilterCount ∷ metric_name WriteSkipCount ∷ []

-- the metric step in an object of counts
unfoldable pub step_of : Data → Option MetricStep
step_of d =
    if has_only metric_names d
    then (do
      read_count ← metric_at ReadCount d
      write_count ← metric_at WriteCount d
      commit_count ← metric_at CommitCount d
      rollback_count ← metric_at RollbackCount d
      read_skip_count ← metric_at ReadSkipCount d
      process_skip_count ← metric_at ProcessSkipCount d
      filter_count ← metric_at FilterCount d
      write_skip_count ← metric_at WriteSkipCount d
      Some (record {
        read_count = read_count;
        write_count = write_count;
        commit_count = commit_count;
        rollback_count = rollback_count;
        read_skip_count = read_skip_count;
        process_skip_count = process_skip_count;
        filter_count = filter_count;
        write_skip_count = write_skip_count;
      }))
    else None

-- the metric step in an object that may be left out
abbrev pub step_given : Option Data → Option MetricStep
step_given None = Some zero_step
step_given (Some d) = step_of d

-- the metric step of the member `metrics`: if it is left out, nothing is added
abbrev pub metrics_at : Data → Option MetricStep
metrics_at d = optional_object (codes "metrics") d >>= step_given

-- the counts of metrics by the names of the metrics
abbrev pub metric_counts : Metrics → List (List ℕ × ℕ)
metric_counts metrics =
    (metric_name ReadCount, metrics.read_count) ∷ (metric_name WriteCount, metrics.write_count)
    ∷ (metric_name CommitCount, metrics.commit_count) ∷ (metric_name RollbackCount, metrics.rollback_count)
    ∷ (metric_name ReadSkipCount, metrics.read_skip_count) ∷ (metric_name ProcessSkipCount, metrics.process_skip_count)
    ∷ (metric_name FilterCount, metrics.filter_count) ∷ (metric_name WriteSkipCount, metrics.write_skip_count) ∷ []

-- metrics as they are written
abbrev pub metrics_data : Metrics → Data
metrics_data metrics = counts_data (metric_counts metrics)
