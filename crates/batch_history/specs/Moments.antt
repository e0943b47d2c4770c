-- The moments of a job execution: start, end and last update.
use Rattle.std.specs.Prelude.{ℕ, ◌||◌, Bool, true, false, Option, Some, None, List, [], ◌∷◌, if◌then◌else◌}
use Rattle.batch_history.specs.Executions.{makes_job_execution}
use Rattle.batch_history.specs.Lists.{is_at}
use Rattle.batch_history.specs.Operations.{taken_up_by}
use Rattle.batch_history.specs.Statuses.{stop_requested, batch_status, is_finished}
use Rattle.batch_history.specs.Restarts.{walk_of_execution}
use Rattle.batch_history.specs.Works.{work_items, execution_of_operation}
use Rattle.batch_history.specs.declared.call.Entry.{Entry}
use Rattle.batch_ids.specs.declared.status.BatchStatus.{BatchStatus}
use Rattle.jsl_model.specs.Jobs.{JobTree}

-- the earlier moment if there is one, else this one if it counts
abbrev pub first_moment : Option ℕ → Bool → ℕ → Option ℕ
first_moment (Some t) counts at = Some t
first_moment None true at = Some at
first_moment None false at = None

-- start: the moment of the first entry whose reply is work of the job execution, or closes it
abbrev pub start_moment : List Entry → ℕ → Option ℕ
start_moment [] x = None
start_moment (e ∷ older) x = first_moment (start_moment older x) (is_at x (taken_up_by e.reply)) e.at

-- the batch status of job execution x, apart from abandonment
abbrev pub status_unless_abandoned : List JobTree → List Entry → ℕ → BatchStatus
status_unless_abandoned catalogue past x = batch_status (stop_requested past x) (start_moment past x) (walk_of_execution catalogue past x)

-- end: the moment of the first entry after which the job execution was finished
abbrev pub end_moment : List JobTree → List Entry → ℕ → Option ℕ
end_moment catalogue [] x = None
end_moment catalogue (e ∷ older) x =
    first_moment (end_moment catalogue older x) (is_finished (status_unless_abandoned catalogue (e ∷ older) x)) e.at

-- whether an entry after these is on job execution x: it makes it, names it, takes it up, or reports work of
-- it
abbrev pub is_operation_on : List Entry → ℕ → Entry → Bool
is_operation_on older x e = makes_job_execution older x e.call || is_at x (execution_of_operation (work_items older) e.call e.reply)

-- updated: the moment of the last entry on the job execution
abbrev pub updated_moment : List Entry → ℕ → ℕ
updated_moment [] x = 0
updated_moment (e ∷ older) x = if is_operation_on older x e then e.at else updated_moment older x
