use Rattle.std.proofs.Common.{◌≡◌, map, drop}
use Rattle.batch_ids.specs.Metrics.{both_metrics, sum_of_metrics}
use Rattle.seq_repository.proofs.steps.sum_of.Given as goal

abbrev pub invariant-loop-row : goal.invariant-loop-row
invariant-loop-row l =
    both_metrics l.sum (sum_of_metrics (map (λ row. row.metrics) (map (λ row. row.now) (drop l.row-index l.items))))
    ≡ sum_of_metrics (map (λ row. row.metrics) (map (λ row. row.now) l.items))
