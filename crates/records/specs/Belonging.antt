-- The rows that belong to a job instance or to a job execution, as filters of all rows.
use Rattle.std.specs.Prelude.{ℕ, ◌==◌, Bool, List, filter}
use Rattle.batch_history.specs.Lists.{is_at}
use Rattle.batch_history.specs.Replies.{instance_in}
use Rattle.batch_history.specs.declared.rows.ExecutionRow.{ExecutionRow}
use Rattle.batch_history.specs.declared.rows.WorkRow.{WorkRow}

-- the job executions of a job instance
abbrev pub executions_of : ℕ → List ExecutionRow → List ExecutionRow
executions_of i rows = filter (λ row. row.instance == i) rows

-- the work items of a job execution
abbrev pub works_of : ℕ → List WorkRow → List WorkRow
works_of x rows = filter (λ row. row.execution == x) rows

-- whether a work item belongs to a job execution of this job instance
abbrev pub is_work_of_instance : ℕ → List ExecutionRow → WorkRow → Bool
is_work_of_instance i executions work = is_at i (instance_in executions work.execution)

-- the work items of a job instance
abbrev pub works_of_instance : ℕ → List ExecutionRow → List WorkRow → List WorkRow
works_of_instance i executions works = filter (is_work_of_instance i executions) works
