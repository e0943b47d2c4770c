use Rattle.std.proofs.Common.{sym, ap, ◌∙◌}
use Rattle.batch_ids.specs.Statuses.{is_unfinished}
use Rattle.seq_repository.proofs.Shown.{end_left, end_over, shown_going, shown_over}
use Rattle.seq_repository.proofs.steps.shown_partitions.Goals as goal
use Rattle.seq_repository.proofs.steps.shown_partitions.Goals.{then-left, else-left}

pub returns-then-goes_on : goal.returns-then-goes_on
returns-then-goes_on c =
    shown_going c.args.owner.now c.args.left c.is_unfinished.result _ c.args.first.now c.in_ok-step.step c.sum_of-metrics.result (c.is_unfinished.ensures ∙ ap is_unfinished c.status.ensures)
    (sym c.if-goes_on.ensures) c.in_ok-step.ensures c.sum_of-metrics.ensures

pub returns : goal.returns
returns c =
    shown_over c.args.owner.now c.args.left c.is_unfinished.result _ c.args.first.now c.in_ok-step.step c.in_ok-within.field-0 c.sum_of-metrics.result c.status_over-status.result c.if-left.end
    (c.is_unfinished.ensures ∙ ap is_unfinished c.status.ensures) (sym c.if-goes_on.ensures) c.in_ok-step.ensures c.sum_of-metrics.ensures c.status_over-status.ensures (c.in_ok-within.ensures ∙ c.name.ensures.name)
    (elim c.if-left.branch [
      | then-left w ↦ end_left c.args.left c.if-left.end _ _ (sym w.if-left.true) w.end-is
      | else-left w ↦ end_over c.args.left c.if-left.end _ _ (sym w.if-left.false) (w.end-is ∙ w.last_end-end.ensures)
    ])
