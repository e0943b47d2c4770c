-- The value of an object's member, borrowed by the function that writes it.
use Rattle.std.specs.Prelude.{ℕ, List, map}
use Rattle.std.specs.Borrow.{Bor}
use Rattle.serde_json.specs.Data.{Data, null, string, Members, no_members}
use Rattle.script_text.specs.Written.{count, with_members}
use Rattle.script_text.specs.Metrics.{metrics_data}
use Rattle.script_text.specs.declared.objects.Shown.{Shown}
use Rattle.script_text.specs.declared.objects.Shown.TheVariants.{Null, Count, Text, Metrics}

-- the value that is shown
abbrev pub shown_data : Shown → Data
shown_data Null = null
shown_data (Count n) = count n
shown_data (Text text) = string text.now
shown_data (Metrics metrics) = metrics_data metrics.now

-- a member by its name
abbrev pub shown_named : Bor (List ℕ) × Shown → List ℕ × Data
shown_named named = (named.0.now, shown_data named.1)

-- these members, in rising order of the bytes of their names
abbrev pub shown_members : List (Bor (List ℕ) × Shown) → Members
shown_members named = with_members no_members (map shown_named named)
