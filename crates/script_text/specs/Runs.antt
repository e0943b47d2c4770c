-- The lines in which a run reports its job executions.
use Rattle.std.specs.Prelude.{ℕ, List, map, codes}
use Rattle.serde_json.specs.Data.{Data, string, array, object, Items, no_items, item, Members, member, no_members}
use Rattle.batch_ids.specs.Statuses.{status_name}
use Rattle.batch_history.specs.declared.query.JobExecution.{JobExecution}
use Rattle.batch_history.specs.declared.query.StepExecution.{StepExecution}
use Rattle.script_text.specs.Metrics.{metrics_data}
use Rattle.script_text.specs.Written.{line_of, count, text_or_null, with_members}

-- a step execution
abbrev pub run_step_data : StepExecution → Data
run_step_data s = object
    (member (codes "exit") (text_or_null s.exit)
    (member (codes "metrics") (metrics_data s.metrics)
    (member (codes "status") (string (status_name s.status))
    (member (codes "step") (string s.step) no_members))))

-- a step execution by the id of its step
abbrev pub step_by_id : StepExecution → List ℕ × Data
step_by_id s = (s.step, run_step_data s)

-- the values of members, in the order of their names
abbrev pub values_of : Members → Items
values_of no_members = no_items
values_of (member name d ms) = item d (values_of ms)

-- step executions in rising order of the bytes of their steps' ids
abbrev pub run_steps_data : List StepExecution → Data
run_steps_data steps = array (values_of (with_members no_members (map step_by_id steps)))

-- a job execution with its step executions
abbrev pub execution_data : JobExecution → List StepExecution → Data
execution_data e steps = object
    (member (codes "execution") (count e.execution)
    (member (codes "exit") (text_or_null e.exit)
    (member (codes "status") (string (status_name e.status))
    (member (codes "steps") (run_steps_data steps) no_members))))

-- the line of a job execution
abbrev pub execution_text : JobExecution → List StepExecution → List ℕ
execution_text e steps = line_of (execution_data e steps)
