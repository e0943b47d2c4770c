-- The head of a base: the counts of the repository whose rows follow.
use Rattle.std.specs.Prelude.{ℕ, List, [], ◌∷◌, codes, Option, Some, None, if◌then◌else◌}
use Rattle.serde_json.specs.Data.{Data}
use Rattle.json_members.specs.Members.{has_only, number_at, optional_object}
use Rattle.json_members.specs.Chains.{◌>>=◌}
use Rattle.base_text.specs.declared.head.BaseHead.{BaseHead}

-- the members of the counts
abbrev pub count_names : List (List ℕ)
count_names = codes "count" ∷ codes "execution" ∷ codes "instance" ∷ codes "rows" ∷ codes "work" ∷ []

-- the counts in an object: the operations, the last numbers given, and the lines that follow
unfoldable pub counts_of : Data → Option BaseHead
counts_of d =
    if has_only count_names d
    then (do
      count ← number_at (codes "count") d
      instance ← number_at (codes "instance") d
      execution ← number_at (codes "execution") d
      work ← number_at (codes "work") d
      rows ← number_at (codes "rows") d
      Some (record {
        count = count;
        last = record { instance = instance; execution = execution; work = work };
        rows = rows;
      }))
    else None

-- the counts in an object, if there is one
abbrev pub counts_given : Option Data → Option BaseHead
counts_given None = None
counts_given (Some d) = counts_of d

-- the head in a value: an object of the one member `base`
unfoldable pub head_of : Data → Option BaseHead
head_of d =
    if has_only (codes "base" ∷ []) d
    then optional_object (codes "base") d >>= counts_given
    else None
