use Rattle.std.proofs.Common.{◌≡◌, length}
use Rattle.records.specs.Left.{names_left}
use Rattle.records.specs.Slots.{rows_left}
use Rattle.records.proofs.readers.NamesIterator.next.Given as goal

abbrev pub invariant-loop-first : goal.invariant-loop-first
invariant-loop-first l = names_left l.self ≡ names_left l.initial.self

abbrev pub decreases-loop-first : goal.decreases-loop-first
decreases-loop-first l = length (rows_left l.self.rows)
