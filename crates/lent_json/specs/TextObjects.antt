-- Objects of texts, and objects of whole numbers.
use Rattle.std.specs.Prelude.{ℕ, ◌&&◌, List, Bool, true, false, is_some, Option, Some, None, option_map, unwrap_or, if◌then◌else◌}
use Rattle.serde_json.specs.Data.{Data, object, Members, no_members, member}
use Rattle.serde_json.specs.Find.{as_str, as_object, get}
use Rattle.serde_json.specs.View.{members_view}
use Rattle.json_members.specs.Members.{if_there}
use Rattle.lent_json.specs.Flat.{scalars_data}
use Rattle.lent_json.specs.declared.texts.Texts.{Texts}
use Rattle.lent_json.specs.declared.texts.Texts.TheVariants.{Own, Lent}

-- whether each of these members is a text
abbrev pub are_texts : Members → Bool
are_texts no_members = true
are_texts (member name d ms) = is_some (as_str d) && are_texts ms

-- whether it is an object of texts
abbrev pub has_texts : Data → Bool
has_texts d = unwrap_or (option_map are_texts (as_object d)) false

-- the value itself if it is an object of texts
abbrev pub as_texts_value : Data → Option Data
as_texts_value d = if has_texts d then Some d else None

-- the object of texts of a member that may be left out
abbrev pub optional_texts : List ℕ → Data → Option (Option Data)
optional_texts name d = if_there as_texts_value (get name d)

-- the value of an object of texts
abbrev pub texts_data : Texts → Data
texts_data (Own map) = object (members_view map.now.entries)
texts_data (Lent ms) = scalars_data ms.now.members.items
