-- A catalogue that is another one with more jobs after its own.
use Rattle.std.specs.Prelude.{◌≡◌, ℕ, List, ◌∷◌, ◌++◌, length}
use Rattle.jsl_model.specs.Jobs.{JobTree}

-- the given catalogue begins with the jobs of the other one, each equal
abbrev pub IsGrown : List JobTree → List JobTree → Type 0
IsGrown kept given = (more : List JobTree) × (given ≡ kept ++ more)

-- the job with this number, from 0, is the first of `kept` that the given catalogue does not have in the same
-- place
pub record IsFirstOther (kept given : List JobTree) (number : ℕ) : Type 0 where
  pub before : List JobTree
  pub job : JobTree
  pub others : List JobTree
  pub rest : List JobTree
  pub split : kept ≡ before ++ job ∷ others
  pub place : number ≡ length before
  pub begins : given ≡ before ++ rest
  pub differs : (more : List JobTree) → rest ≡ job ∷ more → ⊥
