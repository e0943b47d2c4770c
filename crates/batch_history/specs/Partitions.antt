-- Partitioned steps (Jakarta Batch 2.1, "Step Partitioning"): the job executions that are done with such a
-- step, and its partitions that a restart keeps. `works` are the work items of one step in the job executions
-- of one job instance.
use Rattle.std.specs.List.{list_any, list_all, last_or}
use Rattle.std.specs.Prelude.{ℕ, ◌==◌, ◌&&◌, nat_le, nat_lt, ◌||◌, not, Bool, false, Option, Some, None, is_some, List, [], ◌∷◌, map, filter, reverse, if◌then◌else◌}
use Rattle.walk_rules.specs.Keys.{numbers_to}
use Rattle.batch_history.specs.Lists.{is_at}
use Rattle.batch_history.specs.Works.{completed_exit}
use Rattle.batch_history.specs.declared.rows.WorkRow.{WorkRow}

-- ---- Work items of one step

-- these numbers, each once, in the order of their first places
abbrev pub each_once : List ℕ → List ℕ
each_once [] = []
each_once (x ∷ rest) = x ∷ filter (λ y. not (y == x)) (each_once rest)

-- the job executions with one of these work items, the newest first
abbrev pub executions_with : List WorkRow → List ℕ
executions_with works = each_once (map (λ row. row.execution) (reverse works))

-- whether a work item is COMPLETED
abbrev pub is_completed : WorkRow → Bool
is_completed row = is_some (completed_exit row.state)

-- whether a work item is of this partition
abbrev pub is_of_partition : ℕ → WorkRow → Bool
is_of_partition p row = is_at p row.partition

-- whether this partition has a COMPLETED work item in job execution y
abbrev pub completes_in : List WorkRow → ℕ → ℕ → Bool
completes_in works y p = list_any (λ row. row.execution == y && (is_of_partition p row && is_completed row)) works

-- the newest work item of this partition
abbrev pub newest_of_partition : List WorkRow → ℕ → Option WorkRow
newest_of_partition works p = last_or None (filter (is_of_partition p) works)

-- the work items of job executions before this one
abbrev pub works_before : ℕ → List WorkRow → List WorkRow
works_before y works = filter (λ row. nat_lt row.execution y) works

-- ---- Kept partitions and done job executions

-- whether a newest work item is COMPLETED, and none of these job executions is its own or a later one
abbrev pub is_completed_after : List ℕ → Option WorkRow → Bool
is_completed_after done None = false
is_completed_after done (Some row) = is_completed row && not (list_any (λ y. nat_le row.execution y) done)

-- a partition is kept if its newest work item is COMPLETED, and since then no job execution was done with the
-- step
abbrev pub is_kept_after : List ℕ → List WorkRow → ℕ → Bool
is_kept_after done works p = is_completed_after done (newest_of_partition works p)

-- a job execution with work of a step of n partitions is done with it if each partition is kept or COMPLETED
-- in it
abbrev pub is_done_after : ℕ → List ℕ → List WorkRow → ℕ → Bool
is_done_after n done works y = list_all (λ p. is_kept_after done (works_before y works) p || completes_in works y p) (numbers_to n)

-- those of these job executions, the newest first, that are done with a step of n partitions
abbrev pub done_among : ℕ → List WorkRow → List ℕ → List ℕ
done_among n works [] = []
done_among n works (y ∷ older) =
    if is_done_after n (done_among n works older) works y then y ∷ done_among n works older else done_among n works older

-- the job executions that are done with a step of n partitions, the newest first
abbrev pub done_executions : ℕ → List WorkRow → List ℕ
done_executions n works = done_among n works (executions_with works)

-- whether the first of these job executions, if there is one, is among the done ones
abbrev pub is_first_done : List ℕ → List ℕ → Bool
is_first_done done [] = false
is_first_done done (y ∷ older) = list_any (λ d. d == y) done

-- the partitions that are kept after this work, by rising number
abbrev pub partitions_kept : Option ℕ → List WorkRow → List ℕ
partitions_kept None works = []
partitions_kept (Some n) works = filter (is_kept_after (done_executions n works) works) (numbers_to n)
