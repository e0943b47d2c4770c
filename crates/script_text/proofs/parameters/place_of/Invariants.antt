use Rattle.std.proofs.Common.{◌≡◌, ◌++◌, ◌-◌, ◌<◌, ◌≤◌, List, ℕ, length, take, drop, get_or, Greater}
use Rattle.batch_ids.specs.Parameters.{Pair, key_cmp, pairs_of, with_pair}
use Rattle.script_text.proofs.parameters.place_of.Given as goal

abbrev pub invariant-loop-low : goal.invariant-loop-low
invariant-loop-low l =
    (l.low ≤ l.high) × (l.high ≤ length l.pairs)
    × ((text : List ℕ) → with_pair (pairs_of l.pairs) (l.name, text) ≡ take l.low (pairs_of l.pairs) ++ with_pair (drop l.low (pairs_of l.pairs)) (l.name, text))
    × ((d : Pair) × ((text : List ℕ) → l.high < length (pairs_of l.pairs) → key_cmp (get_or (pairs_of l.pairs) l.high d) (l.name, text) ≡ Greater))

abbrev pub decreases-loop-low : goal.decreases-loop-low
decreases-loop-low l = l.high - l.low
