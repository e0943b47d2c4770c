-- The elements of a job as they are counted: in written order, each one before those inside it. The flows of
-- splits are among them. The number of an element is the number of those before it.
use Rattle.std.specs.Prelude.{◌≡◌, ℕ, ◌+◌, List, [], ◌∷◌, ◌++◌, map, Bool, true, false, codes, bytes_eq, string_bytes, Option, Some, None, option_and_then, if◌then◌else◌}
use Rattle.serde_json.specs.Data.{Data, array, object, Items, no_items, item, Members, no_members, member}
use Rattle.serde_json.specs.Find.{get, at}
use Rattle.json_members.specs.Members.{is_text}
use Rattle.jsl_json.specs.Members.{own_of, own_flow_of}
use Rattle.json_places.specs.declared.path.Step.{Step}
use Rattle.json_places.specs.declared.path.Step.TheVariants.{Item, Member}

-- what a step leads to: the item of this number, or the member of this name
pub data Key : Type 0 where
  nth : ℕ → Key
  named : List ℕ → Key

abbrev pub key_of : Step → Key
key_of (Item n) = nth n
key_of (Member name) = named (string_bytes name)

-- the value at the end of a path
abbrev pub value_by : List Key → Data → Option Data
value_by [] d = Some d
value_by (nth n ∷ keys) d = option_and_then (value_by keys) (at n d)
value_by (named name ∷ keys) d = option_and_then (value_by keys) (get name d)

-- an element, or a flow of a split, and the path to it
pub record Numbered : Type 0 where
  pub path : List Key
  pub in_split : Bool
  pub value : Data

-- the same, with this key before its path
abbrev pub behind : Key → Numbered → Numbered
behind key e = record { path = key ∷ e.path; in_split = e.in_split; value = e.value }

-- the own members of the element, or of the flow of a split, are wrong
abbrev pub OwnWrong : Bool → Data → Type 0
OwnWrong true d = own_flow_of d ≡ None
OwnWrong false d = own_of d ≡ None

abbrev pub IsWrong : Numbered → Type 0
IsWrong e = OwnWrong e.in_split e.value

unfoldable mutual
  -- the elements of a list, or the flows of a split, of which the first one is the item of this number
  pub all_in : Bool → ℕ → Items → List Numbered
  all_in in_split n no_items = []
  all_in in_split n (item d ds) =
      map (behind (nth n)) (record { path = []; in_split = in_split; value = d } ∷ all_inside d) ++ all_in in_split (n + 1) ds

  -- those inside an element: a flow has elements, and a split has flows
  pub all_inside : Data → List Numbered
  all_inside (object ms) =
      if is_text (codes "kind") (codes "flow") (object ms) then all_of (codes "elements") false ms
      else (if is_text (codes "kind") (codes "split") (object ms) then all_of (codes "flows") true ms else [])
  all_inside d = []

  -- those in the list that is the member of this name
  pub all_of : List ℕ → Bool → Members → List Numbered
  all_of name in_split no_members = []
  all_of name in_split (member k d ms) =
      if bytes_eq name k then map (behind (named name)) (all_at in_split d) else all_of name in_split ms

  -- those in a list
  pub all_at : Bool → Data → List Numbered
  all_at in_split (array ds) = all_in in_split 0 ds
  all_at in_split d = []
