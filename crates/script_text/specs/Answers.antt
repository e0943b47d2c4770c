-- The text of the answers to queries.
use Rattle.std.specs.Prelude.{ℕ, List, [], ◌∷◌, codes, map, Result, Ok, Err}
use Rattle.serde_json.specs.Data.{Data, string, object, member, no_members}
use Rattle.batch_ids.specs.Refusals.{refusal_name}
use Rattle.batch_ids.specs.Statuses.{status_name}
use Rattle.batch_ids.specs.declared.refusal.Refusal.{Refusal}
use Rattle.batch_ids.specs.declared.status.BatchStatus.TheVariants.{Starting, Started, Stopping, Stopped, Failed, Completed, Abandoned}
use Rattle.batch_history.specs.declared.rows.JobInstance.{JobInstance as InstanceRecord}
use Rattle.batch_history.specs.declared.query.JobExecution.{JobExecution as ExecutionRecord}
use Rattle.batch_history.specs.declared.query.StepExecution.{StepExecution as StepRecord}
use Rattle.batch_history.specs.declared.query.CountsByStatus.{CountsByStatus}
use Rattle.batch_history.specs.declared.query.Answer.{Answer}
use Rattle.batch_history.specs.declared.query.Answer.TheVariants.{JobNames, JobInstanceCount, JobInstances, RunningExecutions, Parameters, JobInstance, JobExecutions, JobExecution, StepExecutions, StatusCounts}
use Rattle.script_text.specs.Written.{line_of, one, count, list_of, text_or_null, count_or_null, counts_data, refused}
use Rattle.script_text.specs.Parameters.{parameters_data}
use Rattle.script_text.specs.Metrics.{metrics_data}

-- a job instance
abbrev pub instance_data : InstanceRecord → Data
instance_data i = object
    (member (codes "instance") (count i.instance)
    (member (codes "job") (string i.job) no_members))

-- the record of a job execution
abbrev pub execution_data : ExecutionRecord → Data
execution_data e = object
    (member (codes "create") (count e.create)
    (member (codes "end") (count_or_null e.end)
    (member (codes "execution") (count e.execution)
    (member (codes "exit") (text_or_null e.exit)
    (member (codes "instance") (count e.instance)
    (member (codes "job") (string e.job)
    (member (codes "start") (count_or_null e.start)
    (member (codes "status") (string (status_name e.status))
    (member (codes "updated") (count e.updated) no_members)))))))))

-- the record of a step execution
abbrev pub step_data : StepRecord → Data
step_data s = object
    (member (codes "end") (count_or_null s.end)
    (member (codes "execution") (count s.execution)
    (member (codes "exit") (text_or_null s.exit)
    (member (codes "metrics") (metrics_data s.metrics)
    (member (codes "start") (count s.start)
    (member (codes "status") (string (status_name s.status))
    (member (codes "step") (string s.step)
    (member (codes "work") (count s.work) no_members))))))))

-- the counts of job executions by the names of their statuses
abbrev pub status_counts : CountsByStatus → List (List ℕ × ℕ)
status_counts counts =
    (status_name Starting, counts.starting) ∷ (status_name Started, counts.started)
    ∷ (status_name Stopping, counts.stopping) ∷ (status_name Stopped, counts.stopped)
    ∷ (status_name Failed, counts.failed) ∷ (status_name Completed, counts.completed)
    ∷ (status_name Abandoned, counts.abandoned) ∷ []

-- the answer to a query
abbrev pub answer_data : Result Answer Refusal → Data
answer_data (Ok (JobNames names)) = one (codes "names") (list_of (map string names))
answer_data (Ok (JobInstanceCount n)) = one (codes "count") (count n)
answer_data (Ok (JobInstances instances)) = one (codes "instances") (list_of (map instance_data instances))
answer_data (Ok (RunningExecutions executions)) = one (codes "running") (list_of (map count executions))
answer_data (Ok (Parameters pairs)) = one (codes "parameters") (parameters_data pairs)
answer_data (Ok (JobInstance instance)) = instance_data instance
answer_data (Ok (JobExecutions executions)) = one (codes "job_executions") (list_of (map execution_data executions))
answer_data (Ok (JobExecution execution)) = one (codes "job_execution") (execution_data execution)
answer_data (Ok (StepExecutions steps)) = one (codes "step_executions") (list_of (map step_data steps))
answer_data (Ok (StatusCounts counts)) = one (codes "counts") (counts_data (status_counts counts))
answer_data (Err refusal) = refused (refusal_name refusal)

-- the line of a query's answer
abbrev pub answer_text : Result Answer Refusal → List ℕ
answer_text answer = line_of (answer_data answer)
