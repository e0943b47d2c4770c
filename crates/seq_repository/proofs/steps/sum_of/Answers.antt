use Rattle.seq_repository.proofs.Metering.{joined_at, room_at}
use Rattle.seq_repository.proofs.steps.sum_of.Goals as goal

pub join-requires : goal.join-requires
join-requires c =
    room_at (λ row. row.now) c.args.items.now c.loop-row.row-index c.row-item.result c.loop-row.sum c.loop-row-test.true c.row-item.is c.requires c.loop-row.invariant

pub loop-row-preserved : goal.loop-row-preserved
loop-row-preserved c =
    joined_at (λ row. row.now) c.args.items.now c.loop-row.row-index c.row-item.result c.loop-row.sum c.join.new.self c.loop-row-test.true c.row-item.is c.join.ensures c.loop-row.invariant
