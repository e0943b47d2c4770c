use Rattle.records.specs.Slots.{rows_left}
use Rattle.seq_repository.proofs.Showing.{same_more}
use Rattle.seq_repository.proofs.bound_rows.has_same_instances.Goals as goal

pub loop-row-preserved : goal.loop-row-preserved
loop-row-preserved c =
    same_more c.args.records.now.instances (rows_left c.loop-row.row-iterator) (rows_left c.next.new.self) c.args.others.now.instances (rows_left c.loop-row.rest) (rows_left c.next-in-loop-row.new.self)
    c.in-Some.row.now c.in-Some-next.other.now c.in-Some.ensures.steps c.in-Some-next.ensures.steps (c.is_same_instance.ensures.0 c.if-is_same_instance.true) c.loop-row.invariant
