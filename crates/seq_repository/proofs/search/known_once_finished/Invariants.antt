use Rattle.std.proofs.Common.{ℕ, ◌≡◌, ◌++◌, map, cond}
use Rattle.batch_ids.specs.declared.metric_step.MetricStep.{MetricStep}
use Rattle.batch_history.specs.NextRows.{over_as}
use Rattle.batch_history.specs.Lists.{change_first}
use Rattle.batch_history.specs.Walks.{known_elements}
use Rattle.batch_history.specs.Works.{is_work}
use Rattle.records.specs.Left.{works_left}
use Rattle.restart_rules.proofs.Reading.{known_by}
use Rattle.seq_repository.proofs.search.known_once_finished.Given as goal

abbrev pub invariant-loop-row : goal.invariant-loop-row
invariant-loop-row l = (step : MetricStep) (at number : ℕ) →
    l.known.items ++ map known_by (cond l.met (works_left l.row-iterator) (change_first (is_work l.w) (over_as l.outcome l.exit step at number) (works_left l.row-iterator)))
    ≡ known_elements l.fn.x (change_first (is_work l.w) (over_as l.outcome l.exit step at number) l.records.works)
