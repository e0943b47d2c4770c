use Rattle.records.specs.Slots.{rows_left}
use Rattle.row_repository.specs.Shown.{with_shown_work}
use Rattle.seq_repository.proofs.Showing.{works_add, showing_more, with_works}
use Rattle.seq_repository.proofs.bound_rows.show_works.Goals as goal

pub loop-row-preserved : goal.loop-row-preserved
loop-row-preserved g c =
    showing_more g.S.RowSink.taken with_works with_shown_work works_add c.args.records.now.works (rows_left c.loop-row.row-iterator) (rows_left c.next.new.self) c.in-Some.row.now
    c.args.sink.now c.loop-row.sink c.take_work.new.self c.in-Some.ensures.steps c.loop-row.invariant c.in_ok-take_work.ensures
