-- The cursors that a repository stores. Each follows the walk of an unfinished job execution.
use Rattle.std.specs.Prelude.{ℕ, ◌≡◌, true, Option, None, Some, IfSome, IsSome, List, find}
use Rattle.std.specs.BTreeMap.{BTreeMap, get}
use Rattle.std.specs.Option.{option_and_then}
use Rattle.std.specs.Ordering.{nat_cmp}
use Rattle.batch_history.specs.Rows.{is_execution}
use Rattle.batch_history.specs.Replies.{first_ready}
use Rattle.batch_history.specs.Walks.{facts_by_work, job_named, planned_facts, walk_value}
use Rattle.batch_history.specs.Works.{item_key}
use Rattle.batch_history.specs.declared.call.WorkItem.{WorkItem}
use Rattle.batch_history.specs.declared.rows.ExecutionRow.{ExecutionRow}
use Rattle.batch_history.specs.declared.rows.WorkRow.{WorkRow}
use Rattle.job_plans.specs.Cursors.{CursorState, known_keys}
use Rattle.job_plans.specs.Runnables.{all_keys, all_leaves}
use Rattle.walk_rules.specs.Walk.{fact_of}
use Rattle.walk_rules.specs.declared.work_key.WorkKey.{WorkKey}
use Rattle.jsl_model.specs.Jobs.{JobTree}
use Rattle.reply_rules.specs.Standings.{is_open}
use Rattle.seq_repository.specs.declared.cursors.Slot.{Slot}

-- the stored cursor of job execution x: there is none if it has no slot, or its slot is empty
abbrev pub kept_at : BTreeMap ℕ Slot → ℕ → Option CursorState
kept_at cursors x = option_and_then (λ (slot : Slot). slot.cursor) (get nat_cmp cursors x)

-- a cursor follows a job execution. It is in the same job, and began at the element of the plan. It has the
-- fact about each work key of the job, as the plan and the work items give it.
pub record Follows (catalogue : List JobTree) (works : List WorkRow) (row : ExecutionRow) (cursor : CursorState) : Type 0 where
  pub named : job_named catalogue row.job ≡ Some cursor.job
  pub from : cursor.from ≡ row.plan.from
  pub each : known_keys cursor.facts ≡ all_keys (all_leaves cursor.job.elements)
  pub facts : (key : WorkKey) → fact_of cursor.facts key ≡ planned_facts row.plan (all_leaves cursor.job.elements) (facts_by_work row.execution works) key

-- job execution x exists and is unfinished, and the cursor follows its walk
pub record IsFollowed (catalogue : List JobTree) (works : List WorkRow) (executions : List ExecutionRow) (x : ℕ) (cursor : CursorState) : Type 0 where
  pub row : ExecutionRow
  pub found : find (is_execution x) executions ≡ Some row
  pub unfinished : is_open row ≡ true
  pub follows : Follows catalogue works row cursor

-- each stored cursor follows the walk of its job execution, which exists and is unfinished
abbrev pub AreFollowed : List JobTree → List WorkRow → List ExecutionRow → (ℕ → Option CursorState) → Type 0
AreFollowed catalogue works executions kept = (x : ℕ) → IfSome (kept x) (IsFollowed catalogue works executions x)

-- each slot, an empty one too, is of a job execution that exists and is unfinished
abbrev pub AreOfUnfinished : List ExecutionRow → BTreeMap ℕ Slot → Type 0
AreOfUnfinished executions cursors =
    (x : ℕ) → IsSome (get nat_cmp cursors x) → (row : ExecutionRow) × (find (is_execution x) executions ≡ Some row) × (is_open row ≡ true)

-- there is a cursor just if the job execution exists, and it follows its walk
abbrev pub Walks : List JobTree → List WorkRow → Option ExecutionRow → Option CursorState → Type 0
Walks catalogue works None None = Unit {0}
Walks catalogue works None (Some cursor) = ⊥
Walks catalogue works (Some row) None = ⊥
Walks catalogue works (Some row) (Some cursor) = Follows catalogue works row cursor

-- a work item is of the first ready work key of a job execution, if this exists
abbrev pub IsFirst : List JobTree → List WorkRow → Option ExecutionRow → WorkItem → Type 0
IsFirst catalogue works row item = IfSome row (λ r. first_ready (walk_value catalogue works r.execution r.job r.plan) ≡ Some (item_key item))

-- the stored cursor of a job execution after an operation on it: its cursor, or none if it is over
abbrev pub IsKeptOf : Option ExecutionRow → Option CursorState → CursorState → Type 0
IsKeptOf row cursor kept = (cursor ≡ Some kept) × ((r : ExecutionRow) × (row ≡ Some r) × (is_open r ≡ true))

-- the slot of a job execution after an operation on it: one that has its cursor, or none if it is over
abbrev pub IsSlotOf : Option ExecutionRow → Option CursorState → Slot → Type 0
IsSlotOf row cursor slot = (slot.cursor ≡ cursor) × ((r : ExecutionRow) × (row ≡ Some r) × (is_open r ≡ true))
