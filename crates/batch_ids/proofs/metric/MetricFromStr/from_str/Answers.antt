use Rattle.std.proofs.Common.{sym, ap, ◌∙◌}
use Rattle.std.specs.Str.{bytes_eq}
use Rattle.batch_ids.specs.Metrics.{metric_name, all_metrics}
use Rattle.batch_ids.proofs.Found.{find_past}
use Rattle.batch_ids.proofs.metric.MetricFromStr.from_str.Goals as goal

pub loop-metric-preserved : goal.loop-metric-preserved
loop-metric-preserved c =
    find_past (λ metric. bytes_eq (metric_name metric) c.args.text.now) all_metrics c.loop-metric.metric-index _ c.loop-metric-test.true
    (ap (λ name. bytes_eq name c.args.text.now) (sym c.name.ensures.name) ∙ (sym c.eq.ensures ∙ c.if-eq.false))
    ∙ c.loop-metric.invariant
