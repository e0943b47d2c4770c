-- The values inside a value, by their paths, as the catalogue is read from it.
use Rattle.std.specs.Prelude.{◌≡◌, ◌⊎◌, ℕ, List, [], ◌∷◌, string_bytes, Option, Some, option_and_then}
use Rattle.serde_json.specs.Data.{Data}
use Rattle.serde_json.specs.Find.{get, at}
use Rattle.json_places.specs.declared.path.Step.{Step}
use Rattle.json_places.specs.declared.path.Step.TheVariants.{Item, Member}
use Rattle.catalogue_places.specs.declared.flaws.Inside.TheVariants.{Own}
use Rattle.catalogue_places.specs.declared.flaws.Spot.{Spot}
use Rattle.catalogue_places.specs.Flaws.{within, element_spot, split_flow_flaw}

-- the value at the end of a path
abbrev pub data_at : List Step → Data → Option Data
data_at [] d = Some d
data_at (Item n ∷ ss) d = option_and_then (data_at ss) (at n d)
data_at (Member name ∷ ss) d = option_and_then (data_at ss) (get (string_bytes name) d)

-- the value is an element, or a flow of a split, that has this flaw
abbrev pub IsFlawed : Data → Spot → Type 0
IsFlawed d spot = (element_spot d ≡ Some spot) ⊎ (within Own (split_flow_flaw d) ≡ Some spot)

-- at the end of the path stands a value that has this flaw
abbrev pub Reaches : List Step → Data → Spot → Type 0
Reaches path d spot = (e : Data) × (data_at path d ≡ Some e) × IsFlawed e spot

-- the same of a path that begins at the item of this number
abbrev pub ReachesFrom : ℕ → List Step → Data → Spot → Type 0
ReachesFrom n path d spot = (ss : List Step) × (path ≡ Item n ∷ ss) × Reaches ss d spot
