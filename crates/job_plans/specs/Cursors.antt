-- The walk of one job execution: the element at which it began, and the fact of each step and decision of its
-- job.
use Rattle.std.specs.Prelude.{◌≡◌, ℕ, Bool, true, Option, List, [], ◌∷◌, map, if◌then◌else◌}
use Rattle.std.specs.List.{flat_map}
use Rattle.jsl_model.specs.Jobs.{JobTree}
use Rattle.walk_rules.specs.declared.facts.Fact.{Fact}
use Rattle.walk_rules.specs.declared.facts.Known.{Known}
use Rattle.walk_rules.specs.declared.facts.Value.{Value}
use Rattle.job_plans.specs.declared.plan.Plan.{Plan}
use Rattle.job_plans.specs.declared.runnable.Runnable.{Runnable}
use Rattle.job_plans.specs.declared.runnable.Runnable.TheVariants.{Step as RunsStep, Decision as RunsDecision}
use Rattle.walk_rules.specs.declared.work_key.WorkKey.{WorkKey}
use Rattle.walk_rules.specs.Keys.{is_same_key}
use Rattle.job_plans.specs.Lists.{has_element}
use Rattle.job_plans.specs.Plans.{planned_fact}
use Rattle.job_plans.specs.Runnables.{Leaf, keys_of, all_keys, all_leaves}
use Rattle.walk_rules.specs.Walk.{fact_of, known_of, value_of}

-- a walk: its job, the job-level element at which it began, and the fact of each work key of the job, in
-- written order and by rising partition
pub record CursorState : Type 0 where
  pub job : JobTree
  pub from : List ℕ
  pub facts : List Known

-- ---- First facts

-- the first fact of a work key of a step of so many partitions, from the plan and the facts already there
abbrev pub step_at_first : Plan → List Known → Option ℕ → WorkKey → Fact
step_at_first plan known partitions key = planned_fact plan partitions key (fact_of known key)

-- the first fact of the work key of a step or a decision: a plan says nothing of decisions
abbrev pub fact_at_first : Plan → List Known → Option ℕ → WorkKey → Runnable → Fact
fact_at_first plan known partitions key (RunsStep task) = step_at_first plan known partitions key
fact_at_first plan known partitions key (RunsDecision artifact) = fact_of known key

-- the first facts of the work keys of a step or decision
abbrev pub known_at_first : Plan → List Known → Leaf → List Known
known_at_first plan known leaf = known_of (λ key. fact_at_first plan known leaf.partitions key leaf.runs) (keys_of leaf)

-- a walk that begins by this plan, with these facts already
abbrev pub resumed : JobTree → Plan → List Known → CursorState
resumed job plan known =
    record { job = job; from = plan.from; facts = flat_map (known_at_first plan known) (all_leaves job.elements) }

-- whether a walk by this plan begins at an element of the job's own list
abbrev pub begins_in : Plan → JobTree → Bool
begins_in plan job = has_element job.elements plan.from

-- ---- The value of a walk

-- the job's value from the element at which the walk began, by the walk's facts
abbrev pub value_in : CursorState → Value
value_in cursor = value_of (fact_of cursor.facts) cursor.job.elements cursor.from

-- the work keys that have a fact
abbrev pub known_keys : List Known → List WorkKey
known_keys known = map (λ one. one.key) known

-- a walk begins at an element of the job's own list, and has one fact for each work key of the job, in
-- written order and by rising partition
pub record IsCursor (cursor : CursorState) : Type 0 where
  pub begins : has_element cursor.job.elements cursor.from ≡ true
  pub each : known_keys cursor.facts ≡ all_keys (all_leaves cursor.job.elements)

-- ---- New facts

-- the facts with a new one of a work key, in place of the old one
abbrev pub put_fact : List Known → WorkKey → Fact → List Known
put_fact [] key fact = []
put_fact (known ∷ rest) key fact =
    if is_same_key key known.key then record { key = known.key; fact = fact } ∷ rest else known ∷ put_fact rest key fact

-- the walk with a new fact of a work key
abbrev pub with_fact : CursorState → WorkKey → Fact → CursorState
with_fact cursor key fact = record cursor { facts = put_fact cursor.facts key fact }
