-- Step executions of partitioned steps (Jakarta Batch 2.1, "StepExecution" and "Step Partitioning"): their
-- ends and their outcomes.
use Rattle.std.specs.Option.{option_and_then}
use Rattle.std.specs.Prelude.{ℕ, ◌≡◌, ◌≢◌, ◌⊎◌, true, false, Option, None, Some, List, ◌∷◌, [], ◌++◌, find, reverse}
use Rattle.std.specs.Str.{bytes_eq}
use Rattle.batch_ids.specs.Statuses.{outcome_name, outcome_status}
use Rattle.batch_ids.specs.declared.status.BatchStatus.TheVariants.{Started}
use Rattle.batch_ids.specs.declared.status.WorkOutcome.{WorkOutcome}
use Rattle.jsl_model.specs.Jobs.{JobTree}
use Rattle.jsl_model.specs.declared.element.Task.{Task}
use Rattle.walk_rules.specs.Keys.{key_of}
use Rattle.walk_rules.specs.Walk.{step_result}
use Rattle.walk_rules.specs.declared.element_result.ElementResult.{ElementResult}
use Rattle.walk_rules.specs.declared.element_result.ElementResult.TheVariants.{Outcome}
use Rattle.walk_rules.specs.declared.facts.Fact.{Fact}
use Rattle.walk_rules.specs.declared.work_key.WorkKey.{WorkKey}
use Rattle.job_plans.specs.Plans.{is_kept}
use Rattle.job_plans.specs.Runnables.{all_leaves}
use Rattle.job_plans.specs.declared.plan.Plan.{Plan}
use Rattle.job_plans.specs.declared.runnable.Runnable.TheVariants.{Step as RunsStep}
use Rattle.batch_history.specs.Rows.{History, all_rows}
use Rattle.batch_history.specs.StepExecutions.{is_busy, step_executions}
use Rattle.batch_history.specs.Walks.{facts_by_work, is_work_of, job_named, planned_facts}
use Rattle.batch_history.specs.declared.call.Entry.{Entry}
use Rattle.batch_history.specs.declared.query.StepExecution.{StepExecution}
use Rattle.batch_history.specs.declared.rows.ExecutionRow.{ExecutionRow}
use Rattle.batch_history.specs.declared.rows.WorkRow.{WorkRow}
use Rattle.history_laws.specs.Laws.{beginning, partitions_for, row_in, run_for, works_in}

-- the step executions of a job execution
abbrev pub steps_in : History → ExecutionRow → List StepExecution
steps_in h row = step_executions (all_rows h.catalogue (reverse h.log)) row

-- the step execution of this step among these
abbrev pub step_among : List ℕ → List StepExecution → Option StepExecution
step_among step steps = find (λ s. bytes_eq s.step step) steps

-- the step execution of a step in job execution x, if x was made and has one
abbrev pub step_in : History → ℕ → List ℕ → Option StepExecution
step_in h x step = option_and_then (λ row. step_among step (steps_in h row)) (row_in h x)

-- a step, in n partitions, of the job of job execution x
pub record IsPartitioned (h : History) (x : ℕ) (step : List ℕ) (n : ℕ) : Type 0 where
  pub owner : ExecutionRow
  pub found : row_in h x ≡ Some owner
  pub task : Task
  pub runs : run_for h owner (key_of step 0) ≡ Some (RunsStep task)
  pub partitions : partitions_for h owner (key_of step 0) ≡ Some n

-- ---- The end

-- the end is the moment of the first operation after which the step execution is not STARTED
pub record StepEnds (h : History) (x : ℕ) (step : List ℕ) (end : Option ℕ) : Type 0 where
  pub before : List Entry
  pub entry : Entry
  pub after : List Entry
  pub cut : h.log ≡ before ++ entry ∷ after
  pub moment : end ≡ Some entry.at
  pub then_shown : StepExecution
  pub found : step_in (beginning h (before ++ entry ∷ [])) x step ≡ Some then_shown
  pub stopped : then_shown.status ≢ Started
  pub until : (first rest : List Entry) → before ≡ first ++ rest → (earlier : StepExecution)
      → step_in (beginning h first) x step ≡ Some earlier → earlier.status ≡ Started

-- ---- The outcome

-- a work key has a work item in job execution x, and it is over
pub record IsOverIn (h : History) (x : ℕ) (key : WorkKey) : Type 0 where
  pub work : WorkRow
  pub found : find (is_work_of x key) (works_in h) ≡ Some work
  pub idle : is_busy work.state ≡ false

-- a partition of a step is kept by the job execution, or is over in it
abbrev pub IsThrough : History → ExecutionRow → List ℕ → ℕ → Type 0
IsThrough h owner step p = (is_kept owner.plan (key_of step p) ≡ true) ⊎ IsOverIn h owner.execution (key_of step p)

-- the fact of each work key of a job, by its plan and by the facts from its work items
abbrev pub facts_of_job : Plan → (WorkKey → Fact) → Option JobTree → WorkKey → Fact
facts_of_job plan worked None = worked
facts_of_job plan worked (Some job) = planned_facts plan (all_leaves job.elements) worked

-- the own result of a step in n partitions, in the walk of a job execution
abbrev pub result_in : History → ExecutionRow → List ℕ → ℕ → ElementResult
result_in h owner step n =
    step_result (facts_of_job owner.plan (facts_by_work owner.execution (works_in h)) (job_named h.catalogue owner.job)) step (Some n)

-- the step execution has the outcome that the walk gives the step, and the outcome's name as the exit status
pub record HasResult (h : History) (owner : ExecutionRow) (step : List ℕ) (n : ℕ) (shown : StepExecution) : Type 0 where
  pub outcome : WorkOutcome
  pub result : result_in h owner step n ≡ Outcome outcome (outcome_name outcome)
  pub status : shown.status ≡ outcome_status outcome
  pub exit : shown.exit ≡ Some (outcome_name outcome)

-- ---- The query

-- these are the step executions of job execution x
pub record AreStepsOf (h : History) (x : ℕ) (steps : List StepExecution) : Type 0 where
  pub row : ExecutionRow
  pub found : row_in h x ≡ Some row
  pub same : steps ≡ steps_in h row
