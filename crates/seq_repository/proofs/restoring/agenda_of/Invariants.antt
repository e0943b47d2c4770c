use Rattle.records.specs.Slots.{rows_left}
use Rattle.seq_repository.proofs.Gathering.{IsGathered}
use Rattle.seq_repository.proofs.restoring.agenda_of.Given as goal

abbrev pub invariant-loop-row : goal.invariant-loop-row
invariant-loop-row l = IsGathered l.catalogue l.records.works l.records.executions (rows_left l.row-iterator) l.agenda.keys
