-- The members of a JSON object. The definitions are about the value of a text: a member that comes twice has
-- its last value, and names are compared after their escapes are read.
use Rattle.std.specs.Prelude.{ℕ, ◌&&◌, List, Bool, true, false, bytes_eq, Option, Some, None, option_map, option_and_then, unwrap_or, if◌then◌else◌}
use Rattle.std.specs.List.{list_any}
use Rattle.std.specs.Str.{is_utf8}
use Rattle.serde_json.specs.Data.{Data, null, boolean, number, string, array, object, Items, Members, no_members, member}
use Rattle.serde_json.specs.Read.{read}
use Rattle.serde_json.specs.Find.{get, as_bool, as_str, as_number, as_u64, as_array, as_object}

-- the value of the bytes, if they are UTF-8 and one JSON value
unfoldable pub data_of : List ℕ → Option Data
data_of bytes = if is_utf8 bytes then read bytes else None

-- whether the name of each member is among these
abbrev pub names_among : List (List ℕ) → Members → Bool
names_among names no_members = true
names_among names (member name d ms) = list_any (bytes_eq name) names && names_among names ms

-- whether it is an object that has no other members than these
abbrev pub has_only : List (List ℕ) → Data → Bool
has_only names d = unwrap_or (option_map (names_among names) (as_object d)) false

-- the number of a value: a whole number from 0 to 2^64 - 1, written without sign, point and exponent
abbrev pub as_count : Data → Option ℕ
as_count d = option_and_then as_u64 (as_number d)

-- the value itself if it is an object
abbrev pub as_object_value : Data → Option Data
as_object_value null = None
as_object_value (boolean b) = None
as_object_value (number n) = None
as_object_value (string s) = None
as_object_value (array ds) = None
as_object_value (object ms) = Some (object ms)

-- the text of the member of this name
abbrev pub text_at : List ℕ → Data → Option (List ℕ)
text_at name d = option_and_then as_str (get name d)

-- the number of the member of this name
abbrev pub number_at : List ℕ → Data → Option ℕ
number_at name d = option_and_then as_count (get name d)

-- the truth value of the member of this name
abbrev pub truth_at : List ℕ → Data → Option Bool
truth_at name d = option_and_then as_bool (get name d)

-- the list of the member of this name
abbrev pub list_at : List ℕ → Data → Option Items
list_at name d = option_and_then as_array (get name d)

-- the object of the member of this name
abbrev pub object_at : List ℕ → Data → Option Data
object_at name d = option_and_then as_object_value (get name d)

-- whether the member of this name is this text
abbrev pub is_text : List ℕ → List ℕ → Data → Bool
is_text name text d = unwrap_or (option_map (λ found. bytes_eq found text) (text_at name d)) false

-- the value of a member that may be left out: Some None if it is left out, None if it is there and of another
-- kind
abbrev pub if_there : {A : Type 0} → (Data → Option A) → Option Data → Option (Option A)
if_there kind None = Some None
if_there kind (Some d) = option_map Some (kind d)

-- the text of a member that may be left out
abbrev pub optional_text : List ℕ → Data → Option (Option (List ℕ))
optional_text name d = if_there as_str (get name d)

-- the number of a member that may be left out
abbrev pub optional_number : List ℕ → Data → Option (Option ℕ)
optional_number name d = if_there as_count (get name d)

-- the truth value of a member that may be left out
abbrev pub optional_truth : List ℕ → Data → Option (Option Bool)
optional_truth name d = if_there as_bool (get name d)

-- the list of a member that may be left out
abbrev pub optional_list : List ℕ → Data → Option (Option Items)
optional_list name d = if_there as_array (get name d)

-- the object of a member that may be left out
abbrev pub optional_object : List ℕ → Data → Option (Option Data)
optional_object name d = if_there as_object_value (get name d)
