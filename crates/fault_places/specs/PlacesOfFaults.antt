-- The place of a fault in the text of a catalogue.
use Rattle.std.specs.Prelude.{◌≡◌, ℕ, List, map, Option, Some, None}
use Rattle.serde_json.specs.Data.{Data}
use Rattle.fault_places.specs.declared.place.Place.{Place}
use Rattle.element_numbers.specs.Numbering.{key_of, value_by}
use Rattle.fault_places.specs.Sites.{Site}
use Rattle.catalogue_places.specs.Places.{IsPlaced}

-- the place has the path and the missing member of the site, and the byte at which the value at the end of the
-- path begins
pub record IsAt (text : List ℕ) (d : Data) (site : Site) (place : Place) : Type 0 where
  pub path : map key_of place.path.items ≡ site.path
  pub lacks : place.lacks ≡ site.lacks
  pub value : Data
  pub leads : value_by site.path d ≡ Some value
  pub begins : IsPlaced text place.path.items value (Some place.byte)

-- the place of a site was found, and none if there is no site
abbrev pub IsPlaceOf : List ℕ → Data → Option Site → Option Place → Type 0
IsPlaceOf text d None found = found ≡ None
IsPlaceOf text d (Some site) found = (place : Place) × (found ≡ Some place) × IsAt text d site place
