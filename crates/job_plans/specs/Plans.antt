-- A plan's facts of the work keys of steps (Jakarta Batch 2.1, "Job Restart Processing").
use Rattle.std.specs.Prelude.{ℕ, ◌&&◌, Bool, true, false, Option, Some, None, List, find}
use Rattle.std.specs.List.{list_all}
use Rattle.std.specs.Option.{option_map}
use Rattle.std.specs.Str.{bytes_eq}
use Rattle.batch_ids.specs.Statuses.{status_name}
use Rattle.batch_ids.specs.declared.status.BatchStatus.TheVariants.{Completed}
use Rattle.jsl_model.specs.Names.{is_among}
use Rattle.walk_rules.specs.Keys.{has_key, keys_of_step}
use Rattle.walk_rules.specs.declared.facts.Fact.{Fact}
use Rattle.walk_rules.specs.declared.facts.Fact.TheVariants.{Nothing, Carried, Busy, Over, Barred}
use Rattle.job_plans.specs.declared.plan.Plan.{Plan}
use Rattle.walk_rules.specs.declared.work_key.WorkKey.{WorkKey}

-- the exit status with which a step is carried, if it is
abbrev pub carried_exit : List (List ℕ × List ℕ) → List ℕ → Option (List ℕ)
carried_exit carried id = option_map (λ (step : List ℕ × List ℕ). step.1) (find (λ (step : List ℕ × List ℕ). bytes_eq step.0 id) carried)

-- whether a partition of a step is kept
abbrev pub is_kept : Plan → WorkKey → Bool
is_kept plan key = has_key plan.kept key

-- this fact, or that the step has reached its start limit if there is no fact
abbrev pub unless_barred : Fact → Bool → Fact
unless_barred Nothing true = Barred
unless_barred Nothing false = Nothing
unless_barred Busy barred = Busy
unless_barred (Over outcome exit) barred = Over outcome exit
unless_barred (Carried exit) barred = Carried exit
unless_barred Barred barred = Barred

-- whether the partition of a work key is kept: a step that is not partitioned has no kept partition
abbrev pub keeps_partition : Plan → Option ℕ → WorkKey → Bool
keeps_partition plan None key = false
keeps_partition plan (Some count) key = is_kept plan key

-- whether each work key of a step is of a kept partition
abbrev pub keeps_each : Plan → List ℕ → Option ℕ → Bool
keeps_each plan id partitions = list_all (keeps_partition plan partitions) (keys_of_step id partitions)

-- whether a step has reached its start limit and each of its partitions is kept
abbrev pub bars_kept : Plan → List ℕ → Option ℕ → Bool
bars_kept plan id partitions = is_among plan.barred id && keeps_each plan id partitions

-- the fact of a step's work key. The first of these counts: its step is carried; the step is barred though
-- each partition is kept; its partition is kept, and so COMPLETED; the fact already there; the step has
-- reached its start limit
abbrev pub step_fact : Option (List ℕ) → Bool → Bool → Fact → Bool → Fact
step_fact (Some exit) all_barred kept known barred = Carried exit
step_fact None true kept known barred = Barred
step_fact None false true known barred = Carried (status_name Completed)
step_fact None false false known barred = unless_barred known barred

-- the fact of a work key of a step of so many partitions, from a plan and the fact already there
abbrev pub planned_fact : Plan → Option ℕ → WorkKey → Fact → Fact
planned_fact plan partitions key known =
    step_fact (carried_exit plan.carried key.element) (bars_kept plan key.element partitions) (keeps_partition plan partitions key)
    known (is_among plan.barred key.element)
