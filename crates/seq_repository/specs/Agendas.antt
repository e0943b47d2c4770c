-- The agenda of a repository: the numbers of the job executions that have something to do, as an ordered set.
use Rattle.std.specs.Prelude.{ℕ, Bool, true, false, Option, None, Some, List, filter}
use Rattle.std.specs.BTreeSet.{insert_key}
use Rattle.std.specs.Ordering.{nat_cmp, is_eq}
use Rattle.std.specs.Set.{remove_key}
use Rattle.batch_history.specs.declared.rows.ExecutionRow.{ExecutionRow}
use Rattle.batch_history.specs.declared.rows.WorkRow.{WorkRow}
use Rattle.jsl_model.specs.Jobs.{JobTree}
use Rattle.records.specs.Maps.{execution_numbers}
use Rattle.seq_repository.specs.Searches.{has_ready}

-- the numbers of the job executions that have something to do, in the order of their rows
abbrev pub agenda_of : List JobTree → List WorkRow → List ExecutionRow → List ℕ
agenda_of catalogue works executions = execution_numbers (filter (has_ready catalogue works) executions)

-- an ordered set without this number
abbrev pub without_number : ℕ → List ℕ → List ℕ
without_number x numbers = remove_key (λ y. is_eq (nat_cmp x y)) numbers

-- an ordered set with this number if the flag is true, else without it
abbrev pub put_number : Bool → ℕ → List ℕ → List ℕ
put_number true x numbers = insert_key nat_cmp numbers x
put_number false x numbers = without_number x numbers

-- whether there is a job execution, and something to do for it
abbrev pub is_ready_row : List JobTree → List WorkRow → Option ExecutionRow → Bool
is_ready_row catalogue works None = false
is_ready_row catalogue works (Some row) = has_ready catalogue works row
