-- The result of a restart.
use Rattle.std.specs.Prelude.{ℕ, Option, Some, None, Result, Ok, Err, List, find}
use Rattle.batch_ids.specs.declared.refusal.Refusal.{Refusal}
use Rattle.batch_ids.specs.declared.refusal.Refusal.TheVariants.{NoSuchJobExecutionException}
use Rattle.jsl_model.specs.Jobs.{JobTree}
use Rattle.job_plans.specs.declared.plan.Plan.{Plan}
use Rattle.batch_history.specs.JobSteps.{JobStep}
use Rattle.batch_history.specs.Replies.{is_execution, restart_refusal, restart_plan}
use Rattle.batch_history.specs.Rows.{Rows}
use Rattle.batch_history.specs.declared.rows.ExecutionRow.{ExecutionRow}
use Rattle.batch_history.specs.declared.rows.LastNumbers.{LastNumbers}
use Rattle.batch_history.specs.declared.rows.WorkRow.{WorkRow}
use Rattle.records.specs.Indexes.{AreStepsOf, numbers_named}
use Rattle.records.specs.Left.{works_of_instance}
use Rattle.records.specs.Maps.{Maps, mark_at}
use Rattle.restart_rules.specs.declared.plan.Earlier.{Earlier}
use Rattle.restart_rules.specs.declared.steps.StepOf.{StepOf}

-- the rows in these maps over a catalogue, after `count` operations, with the last numbers that these gave
abbrev pub rows_over : List JobTree → ℕ → LastNumbers → Maps → Rows
rows_over catalogue count last maps =
    record {
      catalogue = catalogue;
      count = count;
      last = last;
      instances = maps.instances;
      executions = maps.executions;
      works = maps.works;
      checkpoint = mark_at maps.checkpoints;
    }

-- the refusal of a restart of this job execution, if there is one
abbrev pub refusal_for : Rows → Option ExecutionRow → Option Refusal
refusal_for r None = Some NoSuchJobExecutionException
refusal_for r (Some row) = restart_refusal r row

-- the refusal of a restart of job execution x, if there is one
abbrev pub refusal_due : Rows → ℕ → Option Refusal
refusal_due r x = refusal_for r (find (is_execution x) r.executions)

-- the refusal if there is one, or else the plan
abbrev pub plan_unless : Option Refusal → Plan → Result Plan Refusal
plan_unless None plan = Ok plan
plan_unless (Some refusal) plan = Err refusal

-- the refusal of a restart of this job execution, or else the plan of the next one
abbrev pub plan_due_for : Rows → Option ExecutionRow → Result Plan Refusal
plan_due_for r None = Err NoSuchJobExecutionException
plan_due_for r (Some row) = plan_unless (restart_refusal r row) (restart_plan r row)

-- the refusal of a restart of job execution x, or else the plan of the next one
abbrev pub plan_due : Rows → ℕ → Result Plan Refusal
plan_due r x = plan_due_for r (find (is_execution x) r.executions)

-- a step of a job, with its id
abbrev pub job_step : StepOf → JobStep
job_step s = record { id = s.id.now; step = s.step.now }

-- the work items of a job instance
abbrev pub earlier_works : Earlier → List WorkRow
earlier_works e = works_of_instance e.instance e.records.now.executions e.records.now.works

-- each list of `steps` has the work items of its step
abbrev pub AreLookedUp : Earlier → Type 0
AreLookedUp e = AreStepsOf e.instance e.records.now (numbers_named e.steps.now)
