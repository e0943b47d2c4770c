-- The parameters of a job execution in JSON: an object whose members are texts.
use Rattle.std.specs.Prelude.{ℕ, List, [], ◌∷◌, map, codes, Option, Some, None, option_map, unwrap_or, if◌then◌else◌}
use Rattle.serde_json.specs.Data.{Data, string, object, Members, no_members, member}
use Rattle.serde_json.specs.Find.{as_str, as_object}
use Rattle.batch_ids.specs.Parameters.{Pair, parameters_of, is_too_large}
use Rattle.json_members.specs.Members.{optional_object}
use Rattle.json_members.specs.Chains.{◌>>=◌}
pub use Rattle.lent_json.specs.TextObjects.{are_texts, has_texts}
use Rattle.script_text.specs.Written.{with_members}

-- the name and the text of each of these members
abbrev pub text_pairs : Members → List Pair
text_pairs no_members = []
text_pairs (member name d ms) = (name, unwrap_or (as_str d) []) ∷ text_pairs ms

-- the keys and values of an object of texts
abbrev pub given_pairs : Data → List Pair
given_pairs d = unwrap_or (option_map text_pairs (as_object d)) []

-- the keys and values of an object that may be left out, if it is one of texts
abbrev pub pairs_given : Option Data → Option (List Pair)
pairs_given None = Some []
pairs_given (Some d) = if has_texts d then Some (given_pairs d) else None

-- the keys and values of the member `parameters`, none if it is left out
abbrev pub parameters_at : Data → Option (List Pair)
parameters_at d = optional_object (codes "parameters") d >>= pairs_given

-- the parameters of these keys and values, if all are within their bounds
abbrev pub parameters_within : List Pair → Option (List Pair)
parameters_within given = if is_too_large given then None else Some (parameters_of given)

-- a key with its text
abbrev pub text_named : Pair → List ℕ × Data
text_named pair = (pair.0, string pair.1)

-- parameters as they are written: an object of texts by their keys
abbrev pub parameters_data : List Pair → Data
parameters_data pairs = object (with_members no_members (map text_named pairs))
