use Rattle.records.specs.Slots.{rows_left}
use Rattle.seq_repository.proofs.Showing.{IsShowing, with_executions}
use Rattle.seq_repository.proofs.bound_rows.show_executions.Given as goal

abbrev pub invariant-loop-row : goal.invariant-loop-row
invariant-loop-row g l = IsShowing g.S.RowSink.taken with_executions l.records.executions (rows_left l.row-iterator) l.initial.sink l.sink
