-- The queries of a script (`ask`), one definition for each entry of the table: the members that a line has,
-- and no others. A text may be of any length here.
use Rattle.std.specs.Prelude.{ℕ, List, [], ◌∷◌, Bool, bytes_eq, codes, Option, Some, None, option_map, if◌then◌else◌}
use Rattle.serde_json.specs.Data.{Data}
use Rattle.json_members.specs.Members.{has_only, text_at, number_at}
use Rattle.json_members.specs.Chains.{◌>>=◌}
use Rattle.batch_history.specs.declared.query.Query.{Query}
use Rattle.batch_history.specs.declared.query.Query.TheVariants.{JobNames, JobInstanceCount, JobInstances, RunningExecutions, Parameters, JobInstance, JobExecutions, JobExecution, StepExecutions, StatusCounts}

-- a query with nothing more
abbrev pub is_alone : Data → Bool
is_alone d = has_only (codes "ask" ∷ []) d

-- a query about a job
abbrev pub job_asked : Data → Option (List ℕ)
job_asked d = if has_only (codes "ask" ∷ codes "job" ∷ []) d then text_at (codes "job") d else None

-- a query about a job execution
abbrev pub execution_asked : Data → Option ℕ
execution_asked d = if has_only (codes "ask" ∷ codes "execution" ∷ []) d then number_at (codes "execution") d else None

-- a query about a job instance
abbrev pub instance_asked : Data → Option ℕ
instance_asked d = if has_only (codes "ask" ∷ codes "instance" ∷ []) d then number_at (codes "instance") d else None

-- job_instances: a job, the number of the newest ones to leave out, and the most to return
unfoldable pub job_instances_of : Data → Option Query
job_instances_of d =
    if has_only (codes "ask" ∷ codes "job" ∷ codes "start" ∷ codes "count" ∷ []) d
    then (do
      job ← text_at (codes "job") d
      start ← number_at (codes "start") d
      count ← number_at (codes "count") d
      Some (JobInstances job start count))
    else None

-- the query of a line whose `ask` is this word
unfoldable pub query_named : List ℕ → Data → Option Query
query_named word d =
    if bytes_eq word (codes "job_names") then (if is_alone d then Some JobNames else None)
    else (if bytes_eq word (codes "job_instance_count") then option_map JobInstanceCount (job_asked d)
    else (if bytes_eq word (codes "job_instances") then job_instances_of d
    else (if bytes_eq word (codes "running_executions") then option_map RunningExecutions (job_asked d)
    else (if bytes_eq word (codes "parameters") then option_map Parameters (execution_asked d)
    else (if bytes_eq word (codes "job_instance") then option_map JobInstance (execution_asked d)
    else (if bytes_eq word (codes "job_executions") then option_map JobExecutions (instance_asked d)
    else (if bytes_eq word (codes "job_execution") then option_map JobExecution (execution_asked d)
    else (if bytes_eq word (codes "step_executions") then option_map StepExecutions (execution_asked d)
    else (if bytes_eq word (codes "status_counts") then (if is_alone d then Some StatusCounts else None)
    else None)))))))))
