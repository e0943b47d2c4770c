-- The elements at which the walks of job executions begin.
use Rattle.std.specs.Prelude.{Bool, false, Option, Some, None, List}
use Rattle.jsl_model.specs.Jobs.{JobTree}
use Rattle.job_plans.specs.Cursors.{begins_in}
use Rattle.job_plans.specs.declared.plan.Plan.{Plan}
use Rattle.batch_history.specs.Walks.{job_named}
use Rattle.batch_history.specs.declared.rows.ExecutionRow.{ExecutionRow}

-- whether there is a job, and a walk by this plan begins at an element of the job's own list
abbrev pub begins_in_job : Plan → Option JobTree → Bool
begins_in_job plan None = false
begins_in_job plan (Some job) = begins_in plan job

-- whether the job of a job execution is in the catalogue, and its walk begins at an element of the job's own list
abbrev pub is_placed : List JobTree → ExecutionRow → Bool
is_placed catalogue row = begins_in_job row.plan (job_named catalogue row.job)
