use Rattle.std.proofs.Common.{◌==◌, List, sym, ◌∙◌, ap}
use Rattle.batch_history.specs.Answers.{counts_of}
use Rattle.batch_history.specs.Rows.{executions_there}
use Rattle.batch_history.specs.declared.query.CountsByStatus.{CountsByStatus}
use Rattle.batch_history.specs.declared.rows.ExecutionRow.{ExecutionRow}
use Rattle.records.specs.Left.{executions_left}
use Rattle.records.specs.Maps.{Maps}
use Rattle.records.proofs.Tallies.{both, counts_split}
use Rattle.records.proofs.records.Records.counts_without.Goals as goal

pub loop-row-init : goal.loop-row-init
loop-row-init c =
    let rows : List ExecutionRow = c.args.self.now.executions in
    let others : CountsByStatus = counts_of (executions_there (λ j. j == c.args.i) rows) in
    ap (λ (l : List ExecutionRow). both (counts_of l) others) (ap executions_left c.into_iter-row-iterator.ensures.into_iter_gives ∙ c.executions_of-row-items.ensures)
    ∙ (counts_split c.args.i rows
    ∙ (ap (λ (m : Maps). counts_of m.executions) (sym c.self.view_is) ∙ sym c.self.invariant.2))
