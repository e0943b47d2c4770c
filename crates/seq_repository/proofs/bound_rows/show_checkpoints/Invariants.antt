use Rattle.std.proofs.Common.{map}
use Rattle.seq_repository.proofs.Showing.{IsShowing, with_checkpoints}
use Rattle.seq_repository.proofs.bound_rows.show_checkpoints.Given as goal

abbrev pub invariant-loop-row : goal.invariant-loop-row
invariant-loop-row g l = IsShowing g.S.RowSink.taken with_checkpoints l.records.checkpoints (map (λ r. r.now) l.row-iterator.rest.items) l.initial.sink l.sink
