-- The task of a step, and its numbers. An object has the members that are listed, and no others.
use Rattle.std.specs.Prelude.{ℕ, ◌^◌, List, [], ◌∷◌, Bool, ◌&&◌, nat_lt, nat_le, nat_eq, codes, Option, Some, None, option_map, unwrap_or, if◌then◌else◌}
use Rattle.serde_json.specs.Data.{Data}
use Rattle.json_members.specs.Members.{has_only, text_at, optional_number, optional_truth, object_at, optional_object}
use Rattle.jsl_model.specs.declared.element.Task.{Task}
use Rattle.jsl_model.specs.declared.element.Task.TheVariants.{Batchlet, Chunk}
use Rattle.json_members.specs.Chains.{◌>>=◌}

-- Members of one kind

-- the truth value of a member, or `left_out` if the member is left out
abbrev pub truth_or : List ℕ → Bool → Data → Option Bool
truth_or name left_out d = option_map (λ found. unwrap_or found left_out) (optional_truth name d)

-- a number of 32 bits
abbrev pub within_32 : ℕ → Option ℕ
within_32 n = if nat_lt n (2 ^ 32) then Some n else None

-- the 32-bit number of a member, or `left_out` if the member is left out
unfoldable pub count_or : List ℕ → ℕ → Data → Option ℕ
count_or name left_out d = do
  found ← optional_number name d
  within_32 (unwrap_or found left_out)

-- a number that is not 0
abbrev pub from_1 : ℕ → Option ℕ
from_1 n = if nat_eq n 0 then None else Some n

-- the items of a group: 1 to 4,294,967,295, and 10 if the number is left out
abbrev pub item_count_at : Data → Option ℕ
item_count_at d = do
  n ← count_or (codes "item-count") 10 d
  from_1 n

-- a number of partitions, if it is one from 1 to 64
abbrev pub within_64 : Option ℕ → Option (Option ℕ)
within_64 None = Some None
within_64 (Some n) = if nat_le 1 n && nat_le n 64 then Some (Some n) else None

-- the number of partitions, which may be left out
unfoldable pub partitions_at : Data → Option (Option ℕ)
partitions_at d = do
  found ← optional_number (codes "partitions") d
  within_64 found

-- Artifacts

-- the name of an artifact, from an object of just `ref`
unfoldable pub artifact_of : Data → Option (List ℕ)
artifact_of d = if has_only (codes "ref" ∷ []) d then text_at (codes "ref") d else None

-- the artifact that a member names
unfoldable pub artifact_at : List ℕ → Data → Option (List ℕ)
artifact_at name d = do
  found ← object_at name d
  artifact_of found

-- the artifact of an object, if there is one
abbrev pub artifact_if : Option Data → Option (Option (List ℕ))
artifact_if None = Some None
artifact_if (Some d) = option_map Some (artifact_of d)

-- the artifact that a member names, if the member is not left out
unfoldable pub optional_artifact : List ℕ → Data → Option (Option (List ℕ))
optional_artifact name d = do
  found ← optional_object name d
  artifact_if found

-- Tasks

-- the members that a chunk lists
abbrev pub chunk_names : List (List ℕ)
chunk_names = codes "item-count" ∷ codes "reader" ∷ codes "processor" ∷ codes "writer" ∷ []

-- the chunk in an object
unfoldable pub chunk_of : Data → Option Task
chunk_of d =
    if has_only chunk_names d
    then (do
      item_count ← item_count_at d
      reader ← artifact_at (codes "reader") d
      processor ← optional_artifact (codes "processor") d
      writer ← artifact_at (codes "writer") d
      Some (Chunk reader processor writer item_count))
    else None

-- the task of a step that has exactly one of a batchlet and a chunk
abbrev pub one_task : Option Data → Option Data → Option Task
one_task None None = None
one_task (Some batchlet) None = option_map Batchlet (artifact_of batchlet)
one_task None (Some chunk) = chunk_of chunk
one_task (Some batchlet) (Some chunk) = None

-- the task of a step: its `batchlet` or its `chunk`
unfoldable pub task_at : Data → Option Task
task_at d = do
  batchlet ← optional_object (codes "batchlet") d
  chunk ← optional_object (codes "chunk") d
  one_task batchlet chunk
