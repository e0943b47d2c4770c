-- Written JSON. Each line is compact JSON, the members of an object in rising order of the bytes of their
-- names.
use Rattle.std.specs.Prelude.{ℕ, ◌==◌, Bool, not, List, [], ◌∷◌, ◌++◌, map, filter, codes, Option, Some, None}
use Rattle.serde_json.specs.Data.{Data, null, number, unsigned, string, array, object, Members, member, no_members, put}
use Rattle.serde_json.specs.View.{items_of}
use Rattle.serde_json.specs.Written.{compact_text}

-- a line of a value, with its line feed
unfoldable pub line_of : Data → List ℕ
line_of d = compact_text d ++ 10 ∷ []

-- an object of one member
abbrev pub one : List ℕ → Data → Data
one name d = object (member name d no_members)

-- a count, a number or a moment
abbrev pub count : ℕ → Data
count n = number (unsigned n)

-- a list of values
abbrev pub list_of : List Data → Data
list_of ds = array (items_of ds)

-- a text, or null if there is none
abbrev pub text_or_null : Option (List ℕ) → Data
text_or_null None = null
text_or_null (Some text) = string text

-- a moment, or null if there is none
abbrev pub count_or_null : Option ℕ → Data
count_or_null None = null
count_or_null (Some n) = count n

-- the members with these added, in rising order of the bytes of their names
abbrev pub with_members : Members → List (List ℕ × Data) → Members
with_members ms [] = ms
with_members ms (named ∷ rest) = with_members (put named.0 named.1 ms) rest

-- whether a count is shown: one of zero is left out
abbrev pub is_shown : List ℕ × ℕ → Bool
is_shown named = not (named.1 == 0)

-- a name with its count
abbrev pub count_named : List ℕ × ℕ → List ℕ × Data
count_named named = (named.0, count named.1)

-- counts by their names, as an object
abbrev pub counts_data : List (List ℕ × ℕ) → Data
counts_data counts = object (with_members no_members (map count_named (filter is_shown counts)))

-- a refusal by its name
abbrev pub refused : List ℕ → Data
refused name = one (codes "refused") (string name)
