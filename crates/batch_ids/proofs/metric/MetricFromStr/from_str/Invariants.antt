use Rattle.std.proofs.Common.{◌≡◌, drop, find}
use Rattle.std.specs.Str.{bytes_eq}
use Rattle.batch_ids.specs.Metrics.{metric_name, metric_named}
use Rattle.batch_ids.proofs.metric.MetricFromStr.from_str.Given as goal

abbrev pub invariant-loop-metric : goal.invariant-loop-metric
invariant-loop-metric l =
    find (λ metric. bytes_eq (metric_name metric) l.text) (drop l.metric-index l.metric-items) ≡ metric_named l.text
