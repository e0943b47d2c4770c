-- The facts of a job execution's steps and decisions, and the value of its walk (Jakarta Batch 2.1, "Job
-- Specification Language").
use Rattle.std.specs.Option.{option_map}
use Rattle.std.specs.Prelude.{ℕ, ◌==◌, ◌&&◌, Bool, true, false, Option, Some, None, List, [], ◌∷◌, find, if◌then◌else◌}
use Rattle.batch_history.specs.declared.rows.WorkRow.{WorkRow}
use Rattle.batch_history.specs.declared.rows.WorkState.{WorkState}
use Rattle.batch_history.specs.declared.rows.WorkState.TheVariants.{Busy, Over}
use Rattle.std.specs.Str.{bytes_eq}
use Rattle.job_plans.specs.Runnables.{Leaf, all_leaves, partitions_with, runnable_with}
use Rattle.walk_rules.specs.Keys.{is_same_key}
use Rattle.job_plans.specs.Plans.{planned_fact}
use Rattle.walk_rules.specs.Walk.{value_of}
use Rattle.walk_rules.specs.declared.work_key.WorkKey.{WorkKey}
use Rattle.batch_history.specs.Works.{work_key}
use Rattle.walk_rules.specs.declared.facts.Fact.{Fact}
use Rattle.walk_rules.specs.declared.facts.Fact.TheVariants.{Nothing as FactNothing, Busy as FactBusy, Over as FactOver}
use Rattle.walk_rules.specs.declared.facts.Known.{Known}
use Rattle.walk_rules.specs.declared.facts.Value.{Value}
use Rattle.walk_rules.specs.declared.facts.Value.TheVariants.{Done as IsDone}
use Rattle.job_plans.specs.declared.plan.Plan.{Plan}
use Rattle.job_plans.specs.declared.runnable.Runnable.{Runnable}
use Rattle.job_plans.specs.declared.runnable.Runnable.TheVariants.{Step as RunsStep, Decision as RunsDecision}
use Rattle.jsl_model.specs.Jobs.{JobTree}
use Rattle.jsl_model.specs.declared.element.Element.{Element}

-- the fact of an element whose work item has this state
abbrev pub fact_of_state : WorkState → Fact
fact_of_state Busy = FactBusy
fact_of_state (Over outcome exit) = FactOver outcome exit

-- whether a work item is of this work key in job execution x
abbrev pub is_work_of : ℕ → WorkKey → WorkRow → Bool
is_work_of x key row = row.execution == x && is_same_key (work_key row) key

-- the fact of a work key by its work item, if there is one
abbrev pub fact_by_work : Option WorkRow → Fact
fact_by_work None = FactNothing
fact_by_work (Some row) = fact_of_state row.state

-- the fact of each work key of job execution x by its work items
abbrev pub facts_by_work : ℕ → List WorkRow → WorkKey → Fact
facts_by_work x works key = fact_by_work (find (is_work_of x key) works)

-- the facts of job execution x's work keys, in the order of its work items
abbrev pub known_elements : ℕ → List WorkRow → List Known
known_elements x [] = []
known_elements x (row ∷ rest) =
    if row.execution == x then record { key = work_key row; fact = fact_of_state row.state } ∷ known_elements x rest else known_elements x rest

-- the fact of a work key of a step in so many partitions, or of a decision, by the plan and by its work item.
-- A decision is taken anew in each job execution
abbrev pub runnable_fact : Plan → Option ℕ → WorkKey → Fact → Option Runnable → Fact
runnable_fact plan partitions key worked (Some (RunsStep task)) = planned_fact plan partitions key worked
runnable_fact plan partitions key worked (Some (RunsDecision artifact)) = worked
runnable_fact plan partitions key worked None = FactNothing

-- the fact of each work key of a job
abbrev pub planned_facts : Plan → List Leaf → (WorkKey → Fact) → WorkKey → Fact
planned_facts plan leaves worked key = runnable_fact plan (partitions_with leaves key) key (worked key) (runnable_with leaves key)

-- the id of the first element of a list
abbrev pub first_element : List Element → List ℕ
first_element [] = []
first_element (e ∷ rest) = e.id

-- the id of a job's first element
abbrev pub first_of_job : Option JobTree → List ℕ
first_of_job None = []
first_of_job (Some job) = first_element job.elements

-- the job of this id in the catalogue
abbrev pub job_named : List JobTree → List ℕ → Option JobTree
job_named catalogue name = find (λ job. bytes_eq job.id name) catalogue

-- the value of a job by a plan and by the facts from its work items
abbrev pub walk_of : Plan → (WorkKey → Fact) → Option JobTree → Value
walk_of plan worked None = IsDone []
walk_of plan worked (Some job) = value_of (planned_facts plan (all_leaves job.elements) worked) job.elements plan.from

-- the value of the walk of a job execution of this job, by its plan and these work items
abbrev pub walk_value : List JobTree → List WorkRow → ℕ → List ℕ → Plan → Value
walk_value catalogue works x job plan = walk_of plan (facts_by_work x works) (job_named catalogue job)
