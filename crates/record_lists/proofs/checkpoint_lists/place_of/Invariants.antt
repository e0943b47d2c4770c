use Rattle.std.proofs.Common.{◌≡◌, ◌++◌, ℕ, List, take, drop}
use Rattle.record_lists.specs.Placed.{with_mark}
use Rattle.record_lists.proofs.checkpoint_lists.place_of.Given as goal

abbrev pub invariant-loop-place : goal.invariant-loop-place
invariant-loop-place l =
    (mark : List ℕ) → with_mark record { instance = l.i; step = l.step } mark l.rows
    ≡ take l.place l.rows ++ with_mark record { instance = l.i; step = l.step } mark (drop l.place l.rows)
