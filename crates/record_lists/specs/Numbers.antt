-- Lists of numbers by name.
use Rattle.std.specs.Prelude.{ℕ, ◌==◌, ◌≤◌, List, [], ◌∷◌, IfSome, slice_get, unwrap_or, if◌then◌else◌}
use Rattle.indexmap.specs.IndexMap.{get_by_text}
use Rattle.record_lists.specs.declared.name_lists.NameLists.{NameLists}

-- the numbers under a name
abbrev pub numbers_named : NameLists → List ℕ → List ℕ
numbers_named index q = unwrap_or (get_by_text index.lists q) []

-- the numbers without the first occurrence of this one
abbrev pub without_number : ℕ → List ℕ → List ℕ
without_number number [] = []
without_number number (n ∷ rest) = if n == number then rest else n ∷ without_number number rest

-- no name has a first number above this one
abbrev pub AreFirstsUpTo : ℕ → NameLists → Type 0
AreFirstsUpTo bound index = (q : List ℕ) → IfSome (slice_get (numbers_named index q) 0) (λ n. n ≤ bound)
