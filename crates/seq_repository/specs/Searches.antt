-- The job executions that have something to do, and the job instances on a page.
use Rattle.std.specs.Prelude.{ℕ, ◌-◌, Bool, false, nat_lt, List, if◌then◌else◌}
use Rattle.jsl_model.specs.Jobs.{JobTree}
use Rattle.batch_history.specs.declared.rows.ExecutionRow.{ExecutionRow}
use Rattle.batch_history.specs.declared.rows.WorkRow.{WorkRow}
use Rattle.batch_history.specs.Replies.{has_something_by, row_status}
use Rattle.batch_history.specs.Walks.{walk_value}

-- whether there is something to do for a job execution, from the catalogue and the work items
abbrev pub has_ready : List JobTree → List WorkRow → ExecutionRow → Bool
has_ready catalogue works row = has_something_by (row_status row) (walk_value catalogue works row.execution row.job row.plan)

-- whether a job instance is on a page of at most `count`, without the `start` newest, if `newer` are newer
-- than it
abbrev pub is_on_page : ℕ → ℕ → ℕ → Bool
is_on_page start count newer = if nat_lt newer start then false else nat_lt (newer - start) count
