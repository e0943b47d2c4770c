use Rattle.std.proofs.Common.{◌≡◌, length}
use Rattle.records.specs.Slots.{rows_left}
use Rattle.records.proofs.row_list.RowsLeftIterator.next.Given as goal

abbrev pub invariant-loop-first : goal.invariant-loop-first
invariant-loop-first g l = rows_left l.self ≡ rows_left l.initial.self

abbrev pub decreases-loop-first : goal.decreases-loop-first
decreases-loop-first g l = length l.self.slots.now
