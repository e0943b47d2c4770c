-- The answers of queries after a history.
use Rattle.std.specs.Prelude.{ℕ, ◌+◌, ◌==◌, ◌&&◌, Bool, Option, Some, None, Result, Ok, Err, List, [], ◌∷◌, length, map, find, filter, filter_map, reverse, take, drop, if◌then◌else◌}
use Rattle.std.specs.List.{list_any}
use Rattle.std.specs.Str.{bytes_eq}
use Rattle.batch_ids.specs.Statuses.{is_unfinished, outcome_status}
use Rattle.batch_ids.specs.declared.status.BatchStatus.{BatchStatus}
use Rattle.batch_ids.specs.declared.status.BatchStatus.TheVariants.{Starting, Started, Stopping, Stopped, Failed, Completed, Abandoned}
use Rattle.batch_ids.specs.declared.refusal.Refusal.{Refusal}
use Rattle.batch_ids.specs.declared.refusal.Refusal.TheVariants.{NoSuchJobException, NoSuchJobInstanceException, NoSuchJobExecutionException}
use Rattle.jsl_model.specs.Names.{distinct}
use Rattle.batch_history.specs.declared.call.WorkKind.{WorkKind}
use Rattle.batch_history.specs.declared.call.WorkKind.TheVariants.{Batchlet, Chunk, Decision}
use Rattle.batch_history.specs.declared.query.JobExecution.{JobExecution}
use Rattle.batch_history.specs.declared.query.StepExecution.{StepExecution}
use Rattle.batch_history.specs.declared.query.CountsByStatus.{CountsByStatus}
use Rattle.batch_history.specs.declared.query.Query.{Query}
use Rattle.batch_history.specs.declared.query.Query.TheVariants.{JobNames, JobInstanceCount, JobInstances, RunningExecutions, Parameters, JobInstance as AskJobInstance, JobExecutions, JobExecution as AskJobExecution, StepExecutions, StatusCounts}
use Rattle.batch_history.specs.declared.query.Answer.{Answer}
use Rattle.batch_history.specs.declared.query.Answer.TheVariants.{JobNames as AreNames, JobInstanceCount as IsCount, JobInstances as AreInstances, RunningExecutions as AreRunning, Parameters as AreParameters, JobInstance as IsJobInstance, JobExecutions as AreJobExecutions, JobExecution as IsJobExecution, StepExecutions as AreStepExecutions, StatusCounts as AreCounts}
use Rattle.batch_history.specs.declared.rows.JobInstance.{JobInstance}
use Rattle.batch_history.specs.declared.rows.ExecutionRow.{ExecutionRow}
use Rattle.batch_history.specs.declared.rows.WorkRow.{WorkRow}
use Rattle.batch_history.specs.declared.rows.WorkState.{WorkState}
use Rattle.batch_history.specs.declared.rows.WorkState.TheVariants.{Busy, Over}
use Rattle.batch_history.specs.Replies.{is_execution, row_status}
use Rattle.batch_history.specs.Rows.{History, Rows, rows}
use Rattle.batch_history.specs.StepExecutions.{step_executions}

-- ---- Shown records

-- the record of a job execution
abbrev pub record_of : ExecutionRow → JobExecution
record_of row =
    record {
      execution = row.execution;
      instance = row.instance;
      job = row.job;
      status = row_status row;
      create = row.create;
      start = row.start;
      end = row.end;
      exit = row.exit;
      updated = row.updated;
    }

-- ---- Answers by the rows

-- the job instances of a job
abbrev pub instances_of_job : List ℕ → List JobInstance → List JobInstance
instances_of_job name instances = filter (λ i. bytes_eq i.job name) instances

-- this answer, or `NoSuchJobException` if there is no job instance
abbrev pub if_job_known : List JobInstance → Answer → Result Answer Refusal
if_job_known [] answer = Err NoSuchJobException
if_job_known (i ∷ rest) answer = Ok answer

-- at most `count` entries, without the first `start`
abbrev pub page : {A : Type 0} → ℕ → ℕ → List A → List A
page start count all = take count (drop start all)

-- whether it is an unfinished job execution of this job
abbrev pub is_running_of : List ℕ → ExecutionRow → Bool
is_running_of name row = bytes_eq row.job name && is_unfinished (row_status row)

abbrev pub running_executions : List ℕ → List ExecutionRow → List ℕ
running_executions name executions = map (λ row. row.execution) (filter (is_running_of name) executions)

-- the answer about a job execution, or `NoSuchJobExecutionException` if there is none
abbrev pub if_execution_known : Option ExecutionRow → (ExecutionRow → Answer) → Result Answer Refusal
if_execution_known None answer = Err NoSuchJobExecutionException
if_execution_known (Some row) answer = Ok (answer row)

abbrev pub instance_shown : ExecutionRow → JobInstance
instance_shown row = record { instance = row.instance; job = row.job }

-- the records of the job executions of a job instance, the newest first
abbrev pub records_of : ℕ → List ExecutionRow → List JobExecution
records_of i executions = map record_of (reverse (filter (λ row. row.instance == i) executions))

abbrev pub no_counts : CountsByStatus
no_counts = record { starting = 0; started = 0; stopping = 0; stopped = 0; failed = 0; completed = 0; abandoned = 0 }

-- the counts with one more of this status
abbrev pub with_one_more : BatchStatus → CountsByStatus → CountsByStatus
with_one_more Starting counts = record counts { starting = counts.starting + 1 }
with_one_more Started counts = record counts { started = counts.started + 1 }
with_one_more Stopping counts = record counts { stopping = counts.stopping + 1 }
with_one_more Stopped counts = record counts { stopped = counts.stopped + 1 }
with_one_more Failed counts = record counts { failed = counts.failed + 1 }
with_one_more Completed counts = record counts { completed = counts.completed + 1 }
with_one_more Abandoned counts = record counts { abandoned = counts.abandoned + 1 }

-- the count of this status
abbrev pub counted : BatchStatus → CountsByStatus → ℕ
counted Starting counts = counts.starting
counted Started counts = counts.started
counted Stopping counts = counts.stopping
counted Stopped counts = counts.stopped
counted Failed counts = counts.failed
counted Completed counts = counts.completed
counted Abandoned counts = counts.abandoned

-- the sum of all counts
abbrev pub total : CountsByStatus → ℕ
total counts =
    counts.starting + counts.started + counts.stopping + counts.stopped + counts.failed + counts.completed + counts.abandoned

-- the number of these job executions with each status
abbrev pub counts_of : List ExecutionRow → CountsByStatus
counts_of [] = no_counts
counts_of (row ∷ rest) = with_one_more (row_status row) (counts_of rest)

-- the answer of a query by these rows
abbrev pub answer_by : Rows → Query → Result Answer Refusal
answer_by r JobNames = Ok (AreNames (distinct (map (λ i. i.job) r.instances)))
answer_by r (JobInstanceCount name) = if_job_known (instances_of_job name r.instances) (IsCount (length (instances_of_job name r.instances)))
answer_by r (JobInstances name start count) =
    if_job_known (instances_of_job name r.instances) (AreInstances (page start count (reverse (instances_of_job name r.instances))))
answer_by r (RunningExecutions name) = if_job_known (instances_of_job name r.instances) (AreRunning (running_executions name r.executions))
answer_by r (Parameters x) = if_execution_known (find (is_execution x) r.executions) (λ row. AreParameters row.parameters)
answer_by r (AskJobInstance x) = if_execution_known (find (is_execution x) r.executions) (λ row. IsJobInstance (instance_shown row))
answer_by r (JobExecutions i) =
    if list_any (λ instance. instance.instance == i) r.instances
    then Ok (AreJobExecutions (records_of i r.executions))
    else Err NoSuchJobInstanceException
answer_by r (AskJobExecution x) = if_execution_known (find (is_execution x) r.executions) (λ row. IsJobExecution (record_of row))
answer_by r (StepExecutions x) = if_execution_known (find (is_execution x) r.executions) (λ row. AreStepExecutions (step_executions r row))
answer_by r StatusCounts = Ok (AreCounts (counts_of r.executions))

-- THE ANSWER: the answer of a query after a history
abbrev pub answer : History → Query → Result Answer Refusal
answer h query = answer_by (rows h) query
