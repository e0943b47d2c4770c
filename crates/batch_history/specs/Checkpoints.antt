-- Checkpoints (Jakarta Batch 2.1, "Checkpoint Algorithm"). The checkpoint of a job instance's step is the
-- last one reported, unless a work item of the step completed after it.
use Rattle.std.specs.Option.{option_map}
use Rattle.std.specs.Prelude.{ℕ, ◌==◌, ◌&&◌, Bool, false, Option, Some, None, List, [], ◌∷◌, find, if◌then◌else◌}
use Rattle.batch_history.specs.Executions.{instance_of_execution}
use Rattle.batch_history.specs.Works.{is_work, work_key, work_items}
use Rattle.batch_history.specs.declared.call.Call.{Call}
use Rattle.batch_history.specs.Operations.{Ending, Report, effects}
use Rattle.batch_history.specs.declared.call.Entry.{Entry}
use Rattle.batch_history.specs.declared.rows.WorkRow.{WorkRow}
use Rattle.walk_rules.specs.declared.work_key.WorkKey.{WorkKey}
use Rattle.walk_rules.specs.Keys.{is_same_key}
use Rattle.batch_ids.specs.declared.status.WorkOutcome.{WorkOutcome}
use Rattle.batch_ids.specs.declared.status.WorkOutcome.TheVariants.{Completed, Failed, Stopped}

-- a step of a job instance, or a partition of it
pub record InstanceStep : Type 0 where
  pub instance : ℕ
  pub step : WorkKey

-- the step of a work item in its job instance, by the job instance of each job execution
abbrev pub instance_step_by : (ℕ → Option ℕ) → Option WorkRow → Option InstanceStep
instance_step_by instance_of None = None
instance_step_by instance_of (Some row) = option_map (λ i. record { instance = i; step = work_key row }) (instance_of row.execution)

-- the step of work item w in its job instance
abbrev pub instance_step_of : List Entry → ℕ → Option InstanceStep
instance_step_of past w = instance_step_by (instance_of_execution past) (find (is_work w) (work_items past))

-- whether it is this step of this job instance
abbrev pub is_same_step : InstanceStep → Option InstanceStep → Bool
is_same_step p None = false
is_same_step p (Some q) = q.instance == p.instance && is_same_key q.step p.step

-- a work item that completes leaves no checkpoint
abbrev pub checkpoint_left : WorkOutcome → Option (List ℕ) → Option (List ℕ)
checkpoint_left Completed earlier = None
checkpoint_left Failed earlier = earlier
checkpoint_left Stopped earlier = earlier

-- the checkpoint of a step after a report of a work item of it
abbrev pub checkpoint_by_report : Option (List ℕ) → Option Ending → Option (List ℕ) → Option (List ℕ)
checkpoint_by_report (Some mark) end earlier = Some mark
checkpoint_by_report None (Some end) earlier = checkpoint_left end.outcome earlier
checkpoint_by_report None None earlier = earlier

-- the checkpoint of a step after a report; `here` says which work items are of the step
abbrev pub checkpoint_after_report : (ℕ → Bool) → Option Report → Option (List ℕ) → Option (List ℕ)
checkpoint_after_report here None earlier = earlier
checkpoint_after_report here (Some r) earlier = if here r.work then checkpoint_by_report r.mark r.end earlier else earlier

-- the checkpoint of a step after a call
abbrev pub checkpoint_after : (ℕ → Bool) → Call → Option (List ℕ) → Option (List ℕ)
checkpoint_after here call earlier = checkpoint_after_report here (effects call).reports earlier

-- the checkpoint of a job instance's step: the newest entry that is a Checkpoint of its work, or completes
-- it, decides
abbrev pub checkpoint_of : List Entry → InstanceStep → Option (List ℕ)
checkpoint_of [] p = None
checkpoint_of (e ∷ older) p = checkpoint_after (λ w. is_same_step p (instance_step_of older w)) e.call (checkpoint_of older p)
