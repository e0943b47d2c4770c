-- Work keys. A work key names a work item in its job execution, by the id of a step or decision and the
-- number of a partition (Jakarta Batch 2.1, "Step Partitioning").
use Rattle.std.specs.Prelude.{ℕ, ◌==◌, ◌&&◌, Bool, Option, Some, None, List, [], ◌∷◌, map}
use Rattle.std.specs.List.{list_any, range_with_len}
use Rattle.std.specs.Str.{bytes_eq}
use Rattle.walk_rules.specs.declared.work_key.WorkKey.{WorkKey}

-- the numbers from 0 that are less than `n`, in rising order
abbrev pub numbers_to : ℕ → List ℕ
numbers_to n = range_with_len 0 n

-- the work key of a partition of a step; for a decision, and for a step that is not partitioned, the
-- partition is 0
abbrev pub key_of : List ℕ → ℕ → WorkKey
key_of id partition = record { element = id; partition = partition }

-- the work keys of a step with this number of partitions, by rising partition; a step that is not partitioned
-- has one
abbrev pub keys_of_step : List ℕ → Option ℕ → List WorkKey
keys_of_step id None = key_of id 0 ∷ []
keys_of_step id (Some count) = map (key_of id) (numbers_to count)

-- whether two work keys are equal
abbrev pub is_same_key : WorkKey → WorkKey → Bool
is_same_key one other = bytes_eq one.element other.element && one.partition == other.partition

-- whether a work key is in a list
abbrev pub has_key : List WorkKey → WorkKey → Bool
has_key keys key = list_any (is_same_key key) keys
