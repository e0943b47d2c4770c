-- The value that a look shows.
use Rattle.std.specs.Prelude.{Bool, true, false}
use Rattle.serde_json.specs.Data.{Data}
use Rattle.serde_json.specs.View.{view}
use Rattle.lent_json.specs.Flat.{flat_data, scalars_data, scalar_data}
use Rattle.lent_json.specs.declared.look.Look.{Look}
use Rattle.lent_json.specs.declared.look.Look.TheVariants.{Own, Flat, Counts, Texts, Scalar}

-- whether it is inside an object that was read in one pass, or has memory of its own
abbrev pub is_inside : Look → Bool
is_inside (Own value) = true
is_inside (Flat o) = false
is_inside (Counts ms) = true
is_inside (Texts ms) = true
is_inside (Scalar s) = true

-- the value that it shows
abbrev pub shown : Look → Data
shown (Own value) = view value.now
shown (Flat o) = flat_data o.now.members.items
shown (Counts ms) = scalars_data ms.now.members.items
shown (Texts ms) = scalars_data ms.now.members.items
shown (Scalar s) = scalar_data s
