use Rattle.std.proofs.Common.{◌≡◌, length}
use Rattle.records.specs.Left.{instances_left}
use Rattle.records.proofs.readers.InstancesOfIterator.next.Given as goal

abbrev pub invariant-loop-first : goal.invariant-loop-first
invariant-loop-first l = instances_left l.self ≡ instances_left l.initial.self

abbrev pub decreases-loop-first : goal.decreases-loop-first
decreases-loop-first l = length l.self.numbers.now
