-- The values that the tokens of a text are read as.
use Rattle.std.specs.Prelude.{ℕ, List, Option, None, Some, option_map}
use Rattle.json.specs.Token.{Token}
use Rattle.json.specs.Json.{members, value}
use Rattle.serde_json.specs.Data.{Data, null, boolean, number, unsigned, string, Members}
use Rattle.serde_json.specs.Read.{of_json, of_members, converted}
use Rattle.lent_json.specs.Flat.{count_in}

-- the value at the beginning of tokens, nested so deep at most, and the tokens after it
abbrev pub value_read : ℕ → List Token → Option (Data × List Token)
value_read depth ts = converted of_json (value depth ts)

-- the members at the beginning of tokens, nested so deep at most, put into those already found, and the
-- tokens after them
abbrev pub members_read : ℕ → ℕ → Members → List Token → Option (Members × List Token)
members_read depth turns found ts = converted (λ js. of_members js found) (members (value depth) turns ts)

-- the scalar of a token, if it is one
abbrev pub scalar_of : Token → Option Data
scalar_of Token.begin_object = None
scalar_of Token.end_object = None
scalar_of Token.begin_array = None
scalar_of Token.end_array = None
scalar_of (Token.key s) = None
scalar_of (Token.string s) = Some (string s)
scalar_of (Token.number s) = option_map (λ n. number (unsigned n)) (count_in s)
scalar_of (Token.boolean b) = Some (boolean b)
scalar_of Token.null = Some null
scalar_of Token.bad = None
