use Rattle.std.proofs.Common.{◌≡◌, drop}
use Rattle.json.specs.Json.{Json}
use Rattle.json.specs.Find.{BeginsWith}
use Rattle.json_places.specs.Inside.{after, value_at}
use Rattle.json_places.specs.Walk.{tokens_from}
use Rattle.json_places.proofs.walk.token_of.Given as goal

-- the value is at the end of the steps that are left
abbrev pub invariant-loop-step : goal.invariant-loop-step
invariant-loop-step l =
    (j : Json) → BeginsWith (tokens_from 0 l.nodes) j → (i : Json) × BeginsWith (tokens_from l.at l.nodes) i × (value_at l.path j ≡ after l.at (value_at (drop l.step-index l.path) i))
