use Rattle.std.proofs.Common.{List, Bor, map, ap}
use Rattle.batch_history.specs.declared.rows.CheckpointRow.{CheckpointRow}
use Rattle.row_repository.specs.Shown.{with_shown_checkpoint}
use Rattle.seq_repository.proofs.Showing.{checkpoints_add, showing_more, with_checkpoints}
use Rattle.seq_repository.proofs.bound_rows.show_checkpoints.Goals as goal

pub loop-row-preserved : goal.loop-row-preserved
loop-row-preserved g c =
    let rows : List (Bor CheckpointRow) → List CheckpointRow = λ items. map (λ (r : Bor CheckpointRow). r.now) items in
    showing_more g.S.RowSink.taken with_checkpoints with_shown_checkpoint checkpoints_add c.args.records.now.checkpoints (rows c.loop-row.row-iterator.rest.items) (rows c.next.new.self.rest.items) c.in-Some.row.now
    c.args.sink.now c.loop-row.sink c.take_checkpoint.new.self (ap rows c.in-Some.ensures.steps.0) c.loop-row.invariant c.in_ok-take_checkpoint.ensures
