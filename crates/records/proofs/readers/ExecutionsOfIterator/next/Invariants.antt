use Rattle.std.proofs.Common.{◌≡◌, length}
use Rattle.records.specs.Left.{executions_left}
use Rattle.records.proofs.readers.ExecutionsOfIterator.next.Given as goal

abbrev pub invariant-loop-first : goal.invariant-loop-first
invariant-loop-first l = executions_left l.self ≡ executions_left l.initial.self

abbrev pub decreases-loop-first : goal.decreases-loop-first
decreases-loop-first l = length l.self.numbers.now
