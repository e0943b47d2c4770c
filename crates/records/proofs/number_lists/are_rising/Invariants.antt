use Rattle.std.proofs.Common.{ℕ, List, ◌-◌, ◌≤◌, length, drop}
use Rattle.records.specs.Maps.{AreRising}
use Rattle.records.proofs.number_lists.are_rising.Given as goal

pub record Risen (place : ℕ) (numbers : List ℕ) : Type 0 where
  pub within : place ≤ length numbers
  pub rising : AreRising (drop (place - 1) numbers)

abbrev pub invariant-loop-place : goal.invariant-loop-place
invariant-loop-place l = Risen l.place l.numbers

abbrev pub decreases-loop-place : goal.decreases-loop-place
decreases-loop-place l = l.place
