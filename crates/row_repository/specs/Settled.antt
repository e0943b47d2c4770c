-- What the rows of job executions show of their walks.
use Rattle.std.specs.Prelude.{ℕ, ◌≡◌, true, IfSome, List, find, is_some}
use Rattle.jsl_model.specs.Jobs.{JobTree}
use Rattle.batch_history.specs.Rows.{is_execution}
use Rattle.batch_history.specs.Statuses.{batch_status, exit_status, is_finished}
use Rattle.batch_history.specs.Walks.{walk_value}
use Rattle.batch_history.specs.declared.rows.ExecutionRow.{ExecutionRow}
use Rattle.batch_history.specs.declared.rows.WorkRow.{WorkRow}
use Rattle.walk_rules.specs.declared.facts.Value.{Value}

-- a row shows the statuses that a walk of this value comes to, and has an end if it is finished
pub record Shows (value : Value) (row : ExecutionRow) : Type 0 where
  pub bare : row.bare ≡ batch_status row.stop row.start value
  pub exit : row.exit ≡ exit_status row.stop row.start value
  pub end : is_finished row.bare ≡ true → is_some row.end ≡ true

-- a row shows what its walk comes to
abbrev pub IsSettled : List JobTree → List WorkRow → ExecutionRow → Type 0
IsSettled catalogue works row = Shows (walk_value catalogue works row.execution row.job row.plan) row

-- each job execution's row does
abbrev pub AreSettled : List JobTree → List WorkRow → List ExecutionRow → Type 0
AreSettled catalogue works executions = (x : ℕ) → IfSome (find (is_execution x) executions) (IsSettled catalogue works)
