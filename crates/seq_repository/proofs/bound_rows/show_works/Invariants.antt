use Rattle.records.specs.Slots.{rows_left}
use Rattle.seq_repository.proofs.Showing.{IsShowing, with_works}
use Rattle.seq_repository.proofs.bound_rows.show_works.Given as goal

abbrev pub invariant-loop-row : goal.invariant-loop-row
invariant-loop-row g l = IsShowing g.S.RowSink.taken with_works l.records.works (rows_left l.row-iterator) l.initial.sink l.sink
