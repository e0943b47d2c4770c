use Rattle.std.proofs.Common.{sym}
use Rattle.seq_repository.proofs.Shown.{last_behind, last_here}
use Rattle.seq_repository.proofs.steps.last_ended.Goals as goal

pub returns-then-are_ended_by : goal.returns-then-are_ended_by
returns-then-are_ended_by c =
    last_here (λ row. row.now) c.args.items.now c.loop-row.row-index c.row-item.result c.loop-row-test.true c.row-item.is (sym c.if-are_ended_by.ensures) c.loop-row.invariant

pub loop-row-preserved : goal.loop-row-preserved
loop-row-preserved c =
    last_behind (λ row. row.now) c.args.items.now c.loop-row.row-index c.row-item.result c.loop-row-test.true c.row-item.is (sym c.if-are_ended_by.ensures) c.loop-row.invariant
