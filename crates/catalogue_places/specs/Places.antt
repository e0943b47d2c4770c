-- The place of a value in a text.
use Rattle.std.specs.Prelude.{◌≡◌, ℕ, List, Option, Some}
use Rattle.json.specs.Json.{Json, document}
use Rattle.serde_json.specs.Data.{Data}
use Rattle.serde_json.specs.Read.{of_json}
use Rattle.json_places.specs.declared.path.Step.{Step}
use Rattle.json_places.specs.Inside.{value_at}
use Rattle.json_places.specs.Starts.{BeginsAt}

-- the value stands at the end of the path in the text, and its first token begins at the byte that was found
pub record IsPlaced (text : List ℕ) (path : List Step) (e : Data) (found : Option ℕ) : Type 0 where
  pub byte : ℕ
  pub found_there : found ≡ Some byte
  pub root : Json
  pub whole : document text ≡ Some root
  pub token : ℕ
  pub value : Json
  pub at_path : value_at path root ≡ Some (token, value)
  pub same : of_json value ≡ Some e
  pub begins : BeginsAt text token byte
