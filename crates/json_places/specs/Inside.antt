-- The values inside a JSON value, by their paths. Each is found with the number of tokens before it. If a name
-- comes twice in an object, the last member counts.
use Rattle.std.specs.Prelude.{ℕ, zero, suc, ◌+◌, List, [], ◌∷◌, length, bytes_eq, string_bytes, Option, Some, None, option_map, option_and_then, if◌then◌else◌}
use Rattle.std.specs.Option.{option_or}
use Rattle.json.specs.Json.{Json, null, boolean, number, string, array, object, Items, no_items, item, Members, no_members, member}
use Rattle.json.specs.Tree.{json_tokens}
use Rattle.json_places.specs.declared.path.Step.{Step}
use Rattle.json_places.specs.declared.path.Step.TheVariants.{Item, Member}

-- a value, and the number of tokens before it
abbrev pub Found : Type 0
Found = Option (ℕ × Json)

-- what was found, with so many tokens more before it
abbrev pub after : ℕ → Found → Found
after n found = option_map (λ p. (n + p.0, p.1)) found

-- the item of this number, from 0
abbrev pub item_in : ℕ → Items → Found
item_in n no_items = None
item_in zero (item j js) = Some (0, j)
item_in (suc n) (item j js) = after (length (json_tokens j)) (item_in n js)

-- the last member of this name. A name is one token
abbrev pub member_in : List ℕ → Members → Found
member_in name no_members = None
member_in name (member k j ms) =
    option_or (after (1 + length (json_tokens j)) (member_in name ms)) (if bytes_eq k name then Some (1, j) else None)

-- the item of an array, after its bracket
abbrev pub item_of : ℕ → Json → Found
item_of n null = None
item_of n (boolean b) = None
item_of n (number s) = None
item_of n (string s) = None
item_of n (array js) = after 1 (item_in n js)
item_of n (object ms) = None

-- the member of an object, after its brace
abbrev pub member_of : List ℕ → Json → Found
member_of name null = None
member_of name (boolean b) = None
member_of name (number s) = None
member_of name (string s) = None
member_of name (array js) = None
member_of name (object ms) = after 1 (member_in name ms)

-- the value after one step
abbrev pub step_of : Step → Json → Found
step_of (Item n) j = item_of n j
step_of (Member name) j = member_of (string_bytes name) j

-- the value at the end of a path
abbrev pub value_at : List Step → Json → Found
value_at [] j = Some (0, j)
value_at (s ∷ ss) j = option_and_then (λ p. after p.0 (value_at ss p.1)) (step_of s j)
