-- The member `parameters`, by the object of texts that it is.
use Rattle.std.proofs.Common.{◌≡◌, ℕ, List, [], Bool, true, false, cond, Option, Some, None, option_map, refl, ap, ◌∙◌}
use Rattle.serde_json.specs.Data.{Data, null, boolean, number, string, array, object, Members}
use Rattle.serde_json.specs.Find.{get}
use Rattle.json_members.specs.Members.{if_there, as_object_value, optional_object}
use Rattle.json_members.specs.Chains.{◌>>=◌}
use Rattle.batch_ids.specs.Parameters.{Pair}
use Rattle.lent_json.specs.TextObjects.{are_texts, as_texts_value, optional_texts, texts_data}
use Rattle.lent_json.specs.declared.texts.Texts.{Texts}
use Rattle.script_text.specs.Parameters.{given_pairs, pairs_given}
use Rattle.script_text.specs.RawCommands.{pairs_in}

-- the keys and values of an object of texts that may be left out
abbrev texts_given : Option Data → List Pair
texts_given None = []
texts_given (Some d) = given_pairs d

in-texts : (found : Option (Option Texts)) → option_map pairs_in found ≡ option_map texts_given (option_map (option_map texts_data) found)
in-texts None = refl
in-texts (Some None) = refl
in-texts (Some (Some texts)) = refl

by-texts : (d : Data) (b : Bool) → option_map texts_given (option_map Some (cond b (Some d) None)) ≡ cond b (Some (given_pairs d)) None
by-texts d true = refl
by-texts d false = refl

given-by : (d : Data) → option_map texts_given (if_there as_texts_value (Some d)) ≡ (if_there as_object_value (Some d) >>= pairs_given)
given-by null = refl
given-by (boolean b) = refl
given-by (number n) = refl
given-by (string s) = refl
given-by (array ds) = refl
given-by (object ms) = by-texts (object ms) (are_texts ms)

-- an object of texts is an object, and one of texts
given : (found : Option Data) → option_map texts_given (if_there as_texts_value found) ≡ (if_there as_object_value found >>= pairs_given)
given None = refl
given (Some d) = given-by d

-- the keys and values of a member, by the object of texts that was found
pub given-found : (found : Option (Option Texts)) (name : List ℕ) (d : Data) → option_map (option_map texts_data) found ≡ optional_texts name d
    → option_map pairs_in found ≡ (optional_object name d >>= pairs_given)
given-found found name d is = in-texts found ∙ ap (option_map texts_given) is ∙ given (get name d)
