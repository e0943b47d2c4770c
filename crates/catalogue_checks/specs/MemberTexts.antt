-- The text of a place's member, as `jobs[2].elements[0].next`. A name of letters, digits, `-` and `_` stands behind a
-- dot. Another name stands in brackets, as a JSON text.
use Rattle.std.specs.Prelude.{ℕ, List, [], ◌∷◌, ◌++◌, map, Bool, false, ◌&&◌, ◌||◌, ◌==◌, length, nat_le, codes, Option, Some, None, if◌then◌else◌}
use Rattle.std.specs.Fmt.{decimal}
use Rattle.std.specs.List.{list_all}
use Rattle.serde_json.specs.Data.{string}
use Rattle.serde_json.specs.Written.{compact_text}
use Rattle.catalogue_places.specs.declared.member.Member.{Member}
use Rattle.catalogue_places.specs.Names.{name_of}
use Rattle.element_numbers.specs.Numbering.{Key, nth, named, key_of}
use Rattle.fault_places.specs.declared.place.Place.{Place}

-- whether a byte is from the first to the last of these
abbrev pub is_between : ℕ → ℕ → ℕ → Bool
is_between first last b = nat_le first b && nat_le b last

abbrev pub is_letter : ℕ → Bool
is_letter b = is_between 97 122 b || is_between 65 90 b

-- a letter, a digit, `-` or `_`
abbrev pub is_plain_byte : ℕ → Bool
is_plain_byte b = is_letter b || (is_between 48 57 b || (b == 45 || b == 95))

-- a name that needs no brackets
abbrev pub is_plain : List ℕ → Bool
is_plain name = if length name == 0 then false else list_all is_plain_byte name

-- a dot, unless the text begins with the name
abbrev pub with_dot : List ℕ → List ℕ
with_dot text = if length text == 0 then text else text ++ codes "."

-- an item by its number
abbrev pub with_item : List ℕ → ℕ → List ℕ
with_item text n = ((text ++ codes "[") ++ decimal n) ++ codes "]"

-- a member by its name
abbrev pub with_plain : List ℕ → List ℕ → List ℕ
with_plain text name = with_dot text ++ name

abbrev pub with_name : List ℕ → List ℕ → List ℕ
with_name text name = if is_plain name then with_plain text name else ((text ++ codes "[") ++ compact_text (string name)) ++ codes "]"

abbrev pub with_key : List ℕ → Key → List ℕ
with_key text (nth n) = with_item text n
with_key text (named name) = with_name text name

-- the steps of a path, one after another
abbrev pub path_text_from : List ℕ → List Key → List ℕ
path_text_from text [] = text
path_text_from text (key ∷ keys) = path_text_from (with_key text key) keys

-- the member that the value at the end of the path lacks
abbrev pub with_lacking : List ℕ → Option Member → List ℕ
with_lacking text None = text
with_lacking text (Some m) = with_name text (name_of m)

-- THE TEXT OF A PLACE'S MEMBER
abbrev pub member_text : Place → List ℕ
member_text place = with_lacking (path_text_from [] (map key_of place.path.items)) place.lacks
