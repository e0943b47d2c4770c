-- The plan of a job execution, in its line.
use Rattle.std.specs.Prelude.{ℕ, List, [], ◌∷◌, codes, Option, Some, None, if◌then◌else◌}
use Rattle.serde_json.specs.Data.{Data, Items, no_items, item}
use Rattle.serde_json.specs.Find.{as_str}
use Rattle.json_members.specs.Members.{has_only, optional_list, object_at}
use Rattle.json_members.specs.Chains.{◌>>=◌}
use Rattle.job_plans.specs.declared.plan.Plan.{Plan}
use Rattle.script_text.specs.Bounds.{text_within}
use Rattle.walk_rules.specs.declared.work_key.WorkKey.{WorkKey}
use Rattle.base_text.specs.Bounded.{bounded_text_at, partition_at}

-- all items of a list, if each of them is read
abbrev pub each_of : {A : Type 0} → (Data → Option A) → Items → Option (List A)
each_of one no_items = Some []
each_of one (item d ds) = do
  first ← one d
  rest ← each_of one ds
  Some (first ∷ rest)

-- all items of a list that may be left out, none if it is
abbrev pub each_given : {A : Type 0} → (Data → Option A) → Option Items → Option (List A)
each_given one None = Some []
each_given one (Some ds) = each_of one ds

-- a step by its id
unfoldable pub step_in : Data → Option (List ℕ)
step_in d = as_str d >>= text_within 256

-- a step that an earlier job execution completed, with its exit status
unfoldable pub carried_in : Data → Option (List ℕ × List ℕ)
carried_in d =
    if has_only (codes "exit" ∷ codes "step" ∷ []) d
    then (do
      step ← bounded_text_at 256 (codes "step") d
      exit ← bounded_text_at 256 (codes "exit") d
      Some (step, exit))
    else None

-- a partition of a step
unfoldable pub kept_in : Data → Option WorkKey
kept_in d =
    if has_only (codes "partition" ∷ codes "step" ∷ []) d
    then (do
      partition ← partition_at d
      step ← bounded_text_at 256 (codes "step") d
      Some (record { element = step; partition = partition }))
    else None

-- the steps that have reached their start limit
abbrev pub barred_at : Data → Option (List (List ℕ))
barred_at d = optional_list (codes "barred") d >>= each_given step_in

-- the steps that are carried over
abbrev pub carried_at : Data → Option (List (List ℕ × List ℕ))
carried_at d = optional_list (codes "carried") d >>= each_given carried_in

-- the partitions that are kept
abbrev pub kept_at : Data → Option (List WorkKey)
kept_at d = optional_list (codes "kept") d >>= each_given kept_in

-- the plan in an object
unfoldable pub plan_of : Data → Option Plan
plan_of d =
    if has_only (codes "barred" ∷ codes "carried" ∷ codes "from" ∷ codes "kept" ∷ []) d
    then (do
      from ← bounded_text_at 256 (codes "from") d
      carried ← carried_at d
      kept ← kept_at d
      barred ← barred_at d
      Some (record { from = from; carried = carried; kept = kept; barred = barred }))
    else None

-- the plan of a job execution
abbrev pub plan_at : Data → Option Plan
plan_at d = object_at (codes "plan") d >>= plan_of
