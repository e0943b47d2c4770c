use Rattle.std.proofs.Common.{◌≡◌, ◌++◌, List, ℕ, take, drop}
use Rattle.batch_ids.specs.Parameters.{with_pair}
use Rattle.batch_ids.proofs.parameters.SortedParameters.place.Given as goal

abbrev pub invariant-loop-at : goal.invariant-loop-at
invariant-loop-at l =
    (value : List ℕ) → with_pair l.parameter-items (l.key, value) ≡ take l.at l.parameter-items ++ with_pair (drop l.at l.parameter-items) (l.key, value)
