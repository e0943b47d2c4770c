-- Names in a list: whether a name is there twice, whether each is in another list, and each of them once.
use Rattle.std.specs.Prelude.{ℕ, ◌||◌, Bool, false, List, [], ◌∷◌, bytes_eq, if◌then◌else◌}
use Rattle.std.specs.List.{list_any, list_all}

-- whether a name is in the list `held`
abbrev pub is_among : List (List ℕ) → List ℕ → Bool
is_among held name = list_any (bytes_eq name) held

-- whether a name is there twice
abbrev pub has_twice : List (List ℕ) → Bool
has_twice [] = false
has_twice (name ∷ rest) = is_among rest name || has_twice rest

-- whether each name is in the list `held`
abbrev pub are_among : List (List ℕ) → List (List ℕ) → Bool
are_among held names = list_all (is_among held) names

-- each name that fails the test `held`, once, in the order of first use
abbrev pub unheld : (List ℕ → Bool) → List (List ℕ) → List (List ℕ)
unheld held [] = []
unheld held (name ∷ rest) =
    if held name then unheld held rest else name ∷ unheld (λ other. bytes_eq other name || held other) rest

-- each of these names once, in the order of first use
abbrev pub distinct : List (List ℕ) → List (List ℕ)
distinct names = unheld (λ name. false) names
