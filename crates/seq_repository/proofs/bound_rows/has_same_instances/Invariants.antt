use Rattle.records.specs.Slots.{rows_left}
use Rattle.seq_repository.proofs.Showing.{AreSameSoFar}
use Rattle.seq_repository.proofs.bound_rows.has_same_instances.Given as goal

abbrev pub invariant-loop-row : goal.invariant-loop-row
invariant-loop-row l = AreSameSoFar l.records.instances (rows_left l.row-iterator) l.others.instances (rows_left l.rest)
