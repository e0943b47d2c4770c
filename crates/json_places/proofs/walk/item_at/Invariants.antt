use Rattle.std.proofs.Common.{◌≡◌, ℕ, ◌+◌}
use Rattle.json.specs.Json.{Json, Items}
use Rattle.json.specs.Find.{BeginsWith, InItems}
use Rattle.json_places.specs.Inside.{after, item_in, item_of}
use Rattle.json_places.specs.Walk.{tokens_from}
use Rattle.json_places.proofs.walk.item_at.Given as goal

-- the item that is looked for is one of those that are left
abbrev pub invariant-loop-next : goal.invariant-loop-next
invariant-loop-next l =
    (j : Json) → BeginsWith (tokens_from l.at l.nodes) j → (k : ℕ) × (js : Items) × (l.next ≡ l.at + k) × InItems (tokens_from l.next l.nodes) js × (item_of l.index j ≡ after k (item_in l.left js))

abbrev pub decreases-loop-next : goal.decreases-loop-next
decreases-loop-next l = l.left
