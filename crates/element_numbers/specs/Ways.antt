-- How the code holds what is counted.
use Rattle.std.specs.Prelude.{ℕ, zero, suc, List, [], ◌∷◌, map, reverse, Bool, Option, Some, None, Result, Ok, Err}
use Rattle.serde_json.specs.Data.{Data, Items}
use Rattle.serde_json.specs.View.{view}
use Rattle.element_numbers.specs.declared.numbering.Numbered.{Numbered as Held}
use Rattle.element_numbers.specs.declared.numbering.Found.{Found}
use Rattle.element_numbers.specs.declared.numbering.Way.{Way}
use Rattle.element_numbers.specs.declared.numbering.Way.TheVariants.{Back, Left}
use Rattle.element_numbers.specs.Numbering.{Key, nth, named, key_of, Numbered, behind, all_in, all_inside}

-- an element without its path
abbrev pub bare : Numbered → Bool × Data
bare e = (e.in_split, e.value)

abbrev pub bare_of : Held → Bool × Data
bare_of e = (e.in_split, view e.value.now)

-- an element with its path
abbrev pub found_of : Found → Numbered
found_of f = record { path = map key_of f.path.items; in_split = f.numbered.in_split; value = view f.numbered.value.now }

-- the item of this number of a list, and the elements inside it
abbrev pub from_item : Bool → ℕ → Data → List Numbered
from_item in_split n d = map (behind (nth n)) (record { path = []; in_split = in_split; value = d } ∷ all_inside d)

-- the elements in a list that is the member of this name, if there is one
abbrev pub all_by : List ℕ → Bool → Option Items → List Numbered
all_by name in_split None = []
all_by name in_split (Some ds) = map (behind (named name)) (all_in in_split 0 ds)

-- the path of the element of this number, or its number after all these
abbrev pub way_to : ℕ → List Numbered → Result (List Key) ℕ
way_to n [] = Err n
way_to zero (e ∷ es) = Ok e.path
way_to (suc n) (e ∷ es) = way_to n es

abbrev pub way_of : Way → Result (List Key) ℕ
way_of (Back back) = Ok (map key_of (reverse back.items))
way_of (Left n) = Err n

-- with this key before the path
abbrev pub outside : Key → Result (List Key) ℕ → Result (List Key) ℕ
outside key (Ok path) = Ok (key ∷ path)
outside key (Err n) = Err n
