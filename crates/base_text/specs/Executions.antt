-- The line of a job execution.
use Rattle.std.specs.Prelude.{ℕ, List, [], ◌∷◌, false, codes, Option, Some, None, if◌then◌else◌}
use Rattle.serde_json.specs.Data.{Data}
use Rattle.json_members.specs.Members.{has_only, text_at, number_at, optional_number}
use Rattle.json_members.specs.Chains.{◌>>=◌}
use Rattle.batch_ids.specs.Parameters.{Pair}
use Rattle.batch_ids.specs.Statuses.{status_named}
use Rattle.batch_ids.specs.declared.status.BatchStatus.{BatchStatus}
use Rattle.batch_history.specs.declared.rows.ExecutionRow.{ExecutionRow}
use Rattle.job_plans.specs.declared.plan.Plan.{Plan}
use Rattle.jsl_json.specs.Tasks.{truth_or}
use Rattle.script_text.specs.Parameters.{pairs_given, parameters_at, parameters_within}
use Rattle.base_text.specs.Bounded.{bounded_text_at, exit_at}
use Rattle.base_text.specs.Plans.{plan_at}
use Rattle.base_text.specs.declared.execution.ExecutionMembers.{ExecutionMembers}

-- the batch status of a job execution, apart from abandonment
abbrev pub status_at : Data → Option BatchStatus
status_at d = text_at (codes "status") d >>= status_named

-- the parameters in an object of texts within their bounds
abbrev pub parameters_in : Data → Option (List Pair)
parameters_in d = pairs_given (Some d) >>= parameters_within

-- the parameters of a job execution, none if they are left out
abbrev pub bounded_parameters_at : Data → Option (List Pair)
bounded_parameters_at d = parameters_at d >>= parameters_within

-- the members of a job execution that are no texts of its own, no parameters and no plan
unfoldable pub execution_members_of : Data → Option ExecutionMembers
execution_members_of d = do
  execution ← number_at (codes "execution") d
  instance ← number_at (codes "instance") d
  stop ← truth_or (codes "stop") false d
  abandoned ← truth_or (codes "abandoned") false d
  bare ← status_at d
  create ← number_at (codes "create") d
  start ← optional_number (codes "start") d
  end ← optional_number (codes "end") d
  updated ← number_at (codes "updated") d
  Some (record {
    execution = execution;
    instance = instance;
    stop = stop;
    abandoned = abandoned;
    bare = bare;
    create = create;
    start = start;
    end = end;
    updated = updated;
  })

-- the row of a job execution
abbrev pub execution_row : ExecutionMembers → List ℕ → Option (List ℕ) → List Pair → Plan → ExecutionRow
execution_row m job exit parameters plan = record {
  execution = m.execution;
  instance = m.instance;
  job = job;
  parameters = parameters;
  plan = plan;
  stop = m.stop;
  abandoned = m.abandoned;
  bare = m.bare;
  create = m.create;
  start = m.start;
  end = m.end;
  exit = exit;
  updated = m.updated;
}

-- the members of a job execution's line
abbrev pub execution_names : List (List ℕ)
execution_names =
    codes "abandoned" ∷ codes "create" ∷ codes "end" ∷ codes "execution" ∷ codes "exit" ∷ codes "instance" ∷ codes "job"
    ∷ codes "parameters" ∷ codes "plan" ∷ codes "start" ∷ codes "status" ∷ codes "stop" ∷ codes "updated" ∷ []

-- the job execution in a value
unfoldable pub execution_of : Data → Option ExecutionRow
execution_of d =
    if has_only execution_names d
    then (do
      members ← execution_members_of d
      job ← bounded_text_at 256 (codes "job") d
      exit ← exit_at d
      parameters ← bounded_parameters_at d
      plan ← plan_at d
      Some (execution_row members job exit parameters plan))
    else None
