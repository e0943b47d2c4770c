-- Places in the tokens of a text. Only private clauses cite it.
use Rattle.std.specs.Prelude.{◌≡◌, ℕ, ◌+◌, List, map, drop, Option, Some, None, MatchOption}
use Rattle.json.specs.Token.{Token}
use Rattle.json.specs.Json.{Json}
use Rattle.json.specs.Find.{BeginsWith}
use Rattle.json.specs.Tape.{node_token}
use Rattle.json.specs.declared.tape.Node.{Node}
use Rattle.json_places.specs.Inside.{Found}

-- the tokens from a node on
abbrev pub tokens_from : ℕ → List Node → List Token
tokens_from at nodes = drop at (map node_token nodes)

-- the place is that of the value, if there is one: so many tokens after `at`
abbrev pub StandsAt : List Node → ℕ → Option ℕ → Found → Type 0
StandsAt nodes at place wanted =
    MatchOption place (wanted ≡ None) (λ i. (n : ℕ) × (j : Json) × (wanted ≡ Some (n, j)) × (i ≡ at + n) × BeginsWith (tokens_from i nodes) j)
