-- The elements at which the walks of job executions begin.
use Rattle.std.specs.Prelude.{ℕ, ◌≡◌, true, IfSome, List, [], ◌∷◌, find}
use Rattle.jsl_model.specs.Jobs.{JobTree}
use Rattle.batch_history.specs.Replies.{is_execution}
use Rattle.batch_history.specs.declared.rows.ExecutionRow.{ExecutionRow}
use Rattle.row_repository.specs.Placed.{is_placed}
pub use Rattle.row_repository.specs.Placed.{begins_in_job, is_placed}

-- job execution x, if it exists, has its job in the catalogue, and its walk begins at an element of the job's
-- own list
abbrev pub IsPlaced : List JobTree → List ExecutionRow → ℕ → Type 0
IsPlaced catalogue executions x = IfSome (find (is_execution x) executions) (λ row. is_placed catalogue row ≡ true)

-- each job execution has its job in the catalogue, and its walk begins at an element of the job's own list
abbrev pub ArePlaced : List JobTree → List ExecutionRow → Type 0
ArePlaced catalogue [] = Unit {0}
ArePlaced catalogue (row ∷ rest) = (is_placed catalogue row ≡ true) × ArePlaced catalogue rest
