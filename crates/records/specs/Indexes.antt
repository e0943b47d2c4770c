-- Indexes: the numbers of rows, by the number or name of the row that they belong to.
use Rattle.std.specs.Prelude.{◌≡◌, ℕ, ◌==◌, Bool, true, Option, None, Some, is_some, List, [], ◌∷◌, nat_eq, filter, unwrap_or, if◌then◌else◌}
use Rattle.indexmap.specs.IndexMap.{get, get_by_text}
use Rattle.batch_history.specs.Answers.{instances_of_job, running_executions}
use Rattle.record_lists.specs.declared.name_lists.NameLists.{NameLists}
pub use Rattle.record_lists.specs.Numbers.{numbers_named, without_number}
use Rattle.batch_history.specs.Replies.{is_running_in}
use Rattle.batch_history.specs.Restarts.{works_of_step}
use Rattle.batch_history.specs.declared.rows.ExecutionRow.{ExecutionRow}
use Rattle.records.specs.declared.number_lists.NumberLists.{NumberLists}
use Rattle.records.specs.declared.running.RunningLists.{RunningLists}
use Rattle.records.specs.declared.running_names.RunningNames.{RunningNames}
use Rattle.records.specs.declared.step_lists.StepLists.{StepLists}
use Rattle.records.specs.Maps.{Maps, instance_numbers, execution_numbers, work_numbers, AreKeyed}
use Rattle.records.specs.Belonging.{executions_of, works_of, works_of_instance}

-- the numbers under a number
abbrev pub numbers_under : NumberLists → ℕ → List ℕ
numbers_under index q = unwrap_or (get nat_eq index.lists q) []

-- the numbers of the unfinished job executions under a name
abbrev pub numbers_running : RunningNames → List ℕ → List ℕ
numbers_running index q = unwrap_or (get_by_text index.lists q) []

-- the numbers under a name, and none if there are no lists
abbrev pub numbers_if_there : Option NameLists → List ℕ → List ℕ
numbers_if_there None q = []
numbers_if_there (Some names) q = numbers_named names q

-- the numbers under a step of a job instance
abbrev pub numbers_of_step : StepLists → ℕ → List ℕ → List ℕ
numbers_of_step index i q = numbers_if_there (get nat_eq index.lists i) q

-- whether a job instance has an index by step
abbrev pub has_steps : StepLists → ℕ → Bool
has_steps index i = is_some (get nat_eq index.lists i)

-- the rows are keyed. The indexes have the numbers of each job's job instances, each job instance's job
-- executions, and each job execution's work items
pub record AreIndexed (maps : Maps) (names : List ℕ → List ℕ) (executions works : ℕ → List ℕ) : Type 0 where
  pub keyed : AreKeyed maps
  pub instances_by_name : (q : List ℕ) → names q ≡ instance_numbers (instances_of_job q maps.instances)
  pub executions_by_instance : (i : ℕ) → executions i ≡ execution_numbers (executions_of i maps.executions)
  pub works_by_execution : (x : ℕ) → works x ≡ work_numbers (works_of x maps.works)

-- the index has the numbers of the work items of each step of a job instance
abbrev pub AreStepsOf : ℕ → Maps → (List ℕ → List ℕ) → Type 0
AreStepsOf i maps names = (q : List ℕ) → names q ≡ work_numbers (works_of_step q (works_of_instance i maps.executions maps.works))

-- each job instance with an index by step has its work items there
abbrev pub AreStepped : Maps → (ℕ → List ℕ → List ℕ) → (ℕ → Bool) → Type 0
AreStepped maps steps has = (i : ℕ) → has i ≡ true → AreStepsOf i maps (steps i)

-- the numbers of the unfinished job executions of a job instance
abbrev pub unfinished_executions : ℕ → List ExecutionRow → List ℕ
unfinished_executions i executions = execution_numbers (filter (is_running_in i) executions)

-- the lists, if there are any, have the unfinished job executions of each job and of each job instance
abbrev pub AreRunning : Option RunningLists → List ExecutionRow → Type 0
AreRunning None executions = Unit {0}
AreRunning (Some lists) executions =
    ((q : List ℕ) → numbers_running lists.by_name q ≡ running_executions q executions)
    × ((i : ℕ) → numbers_under lists.by_instance i ≡ unfinished_executions i executions)
