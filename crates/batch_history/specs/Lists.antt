-- Lists with one element changed, and numbers that may be missing.
use Rattle.std.specs.Prelude.{ℕ, ◌==◌, Bool, false, Option, Some, None, List, [], ◌∷◌, if◌then◌else◌}

-- a list with the first element that passes a test changed
abbrev pub change_first : {R : Type 0} → (R → Bool) → (R → R) → List R → List R
change_first p f [] = []
change_first p f (r ∷ rest) = if p r then f r ∷ rest else r ∷ change_first p f rest

-- whether it is this number
abbrev pub is_at : ℕ → Option ℕ → Bool
is_at x None = false
is_at x (Some y) = y == x

-- P holds of each element of a list
abbrev pub Each : {X : Type 0} → (X → Type 0) → List X → Type 0
Each P [] = Unit {0}
Each P (x ∷ xs) = P x × Each P xs
