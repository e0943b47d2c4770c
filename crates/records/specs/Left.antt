-- The rows that the readers of an index have still to return, as filters of all rows.
use Rattle.std.specs.Prelude.{ℕ, Bool, List, find, map, filter, filter_map, slice_get}
use Rattle.batch_history.specs.declared.rows.JobInstance.{JobInstance}
use Rattle.batch_history.specs.declared.rows.ExecutionRow.{ExecutionRow}
use Rattle.batch_history.specs.declared.rows.WorkRow.{WorkRow}
use Rattle.batch_history.specs.Answers.{instances_of_job}
use Rattle.batch_history.specs.Lists.{is_at}
use Rattle.batch_history.specs.Replies.{is_execution}
use Rattle.batch_history.specs.Works.{is_work}
use Rattle.records.specs.Maps.{is_instance, instance_numbers}
pub use Rattle.records.specs.Belonging.{executions_of, works_of, is_work_of_instance, works_of_instance}
use Rattle.records.specs.Slots.{rows_left}
use Rattle.records.specs.declared.readers.Names.{Names}
use Rattle.records.specs.declared.readers.InstancesOf.{InstancesOf}
use Rattle.records.specs.declared.readers.ExecutionsOf.{ExecutionsOf}
use Rattle.records.specs.declared.readers.WorksOf.{WorksOf}

-- the job names of these job instances, in their order
abbrev pub job_names : List JobInstance → List (List ℕ)
job_names rows = map (λ row. row.job) rows

-- whether a job instance is the first of its job
abbrev pub is_first_of_job : List JobInstance → JobInstance → Bool
is_first_of_job rows row = is_at row.instance (slice_get (instance_numbers (instances_of_job row.job rows)) 0)

abbrev pub names_left : Names → List (List ℕ)
names_left names = job_names (filter (is_first_of_job names.records.now.instances) (rows_left names.rows))

-- the existing job instances with these numbers
abbrev pub instances_numbered : List ℕ → List JobInstance → List JobInstance
instances_numbered numbers rows = filter_map (λ i. find (is_instance i) rows) numbers

-- the existing job executions with these numbers
abbrev pub executions_numbered : List ℕ → List ExecutionRow → List ExecutionRow
executions_numbered numbers rows = filter_map (λ x. find (is_execution x) rows) numbers

-- the existing work items with these numbers
abbrev pub works_numbered : List ℕ → List WorkRow → List WorkRow
works_numbered numbers rows = filter_map (λ w. find (is_work w) rows) numbers

abbrev pub instances_left : InstancesOf → List JobInstance
instances_left instances = instances_numbered instances.numbers.now instances.records.now.instances

abbrev pub executions_left : ExecutionsOf → List ExecutionRow
executions_left executions = executions_numbered executions.numbers.now executions.records.now.executions

abbrev pub works_left : WorksOf → List WorkRow
works_left works = works_numbered works.numbers.now works.records.now.works
