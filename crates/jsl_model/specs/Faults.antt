-- The faults of a job, and their names.
use Rattle.std.specs.Prelude.{ℕ, ◌≡◌, ◌<◌, ◌||◌, All, Bool, true, false, Option, Some, None, List, length, map, nat_lt, codes, if◌then◌else◌}
use Rattle.std.specs.List.{filter_map, list_any}
use Rattle.jsl_model.specs.declared.job.JobFault.{JobFault}
use Rattle.jsl_model.specs.declared.job.JobFault.TheVariants.{TextTooLong, Empty, TooDeep, TooMany, DuplicateId, NoSuchTarget, Loop, RestartNotJobLevel, OutOfMemory}
use Rattle.jsl_model.specs.declared.element.Then.{Then}
use Rattle.jsl_model.specs.declared.element.Then.TheVariants.{Next, End, Fail, Stop}
use Rattle.jsl_model.specs.declared.element.Transition.{Transition}
use Rattle.jsl_model.specs.Trees.{is_empty, any_true, joined, Node, nodes, depth}
use Rattle.jsl_model.specs.Names.{has_twice, are_among}
use Rattle.jsl_model.specs.Targets.{outline, ids, lists_of, lacks_some_target, has_some_loop, HasRanks}
use Rattle.jsl_model.specs.LongTexts.{is_long, element_has_long}
use Rattle.jsl_model.specs.Emptiness.{is_lacking, element_has_empty}
use Rattle.jsl_model.specs.Jobs.{JobTree}

-- the name that a fault prints as
abbrev pub fault_name : JobFault → List ℕ
fault_name TextTooLong = codes "TextTooLong"
fault_name Empty = codes "Empty"
fault_name TooDeep = codes "TooDeep"
fault_name TooMany = codes "TooMany"
fault_name DuplicateId = codes "DuplicateId"
fault_name NoSuchTarget = codes "NoSuchTarget"
fault_name Loop = codes "Loop"
fault_name RestartNotJobLevel = codes "RestartNotJobLevel"
fault_name OutOfMemory = codes "OutOfMemory"

-- whether memory was refused
abbrev pub is_out_of_memory : JobFault → Bool
is_out_of_memory TextTooLong = false
is_out_of_memory Empty = false
is_out_of_memory TooDeep = false
is_out_of_memory TooMany = false
is_out_of_memory DuplicateId = false
is_out_of_memory NoSuchTarget = false
is_out_of_memory Loop = false
is_out_of_memory RestartNotJobLevel = false
is_out_of_memory OutOfMemory = true

-- a fault that stops the building of parts: a text that is too long, or refused memory
abbrev pub IsBuildingFault : JobFault → Type 0
IsBuildingFault TextTooLong = Unit {0}
IsBuildingFault Empty = ⊥
IsBuildingFault TooDeep = ⊥
IsBuildingFault TooMany = ⊥
IsBuildingFault DuplicateId = ⊥
IsBuildingFault NoSuchTarget = ⊥
IsBuildingFault Loop = ⊥
IsBuildingFault RestartNotJobLevel = ⊥
IsBuildingFault OutOfMemory = Unit {0}

-- whether a text of a job has more than 256 bytes
abbrev pub has_long_text : JobTree → Bool
has_long_text job = is_long job.id || any_true (map element_has_long job.elements)

-- whether a required part is empty: an id (the job's too), an artifact name, a list of elements, the flows of
-- a split, the items of a group, the partitions of a partitioned step
abbrev pub has_empty : JobTree → Bool
has_empty job = is_empty job.id || is_lacking (map element_has_empty job.elements)

-- whether an element is deeper than level 16
abbrev pub is_too_deep : JobTree → Bool
is_too_deep job = nat_lt 16 (depth job.elements)

-- whether a number of partitions is given and more than 64
abbrev pub are_many_partitions : Option ℕ → Bool
are_many_partitions None = false
are_many_partitions (Some n) = nat_lt 64 n

-- whether a node is a step with more than 64 partitions
abbrev pub has_many_partitions : List Node → Bool
has_many_partitions all = list_any (λ (m : Node). are_many_partitions m.partitions) all

-- whether there are more than 1,000 elements, flows of splits included, or a step with more than 64
-- partitions
abbrev pub has_too_many : JobTree → Bool
has_too_many job = nat_lt 1000 (length (nodes job.elements)) || has_many_partitions (nodes job.elements)

-- the ids of nodes
abbrev pub node_ids : List Node → List (List ℕ)
node_ids all = map (λ (m : Node). m.id) all

-- whether two elements, flows of splits included, have the same id
abbrev pub has_duplicate : JobTree → Bool
has_duplicate job = has_twice (node_ids (nodes job.elements))

-- the element at which a restart begins, if the transition element is a stop that names one
abbrev pub restart_at : Then → Option (List ℕ)
restart_at (Next to) = None
restart_at (End exit_status) = None
restart_at (Fail exit_status) = None
restart_at (Stop exit_status restart) = restart

-- the elements at which restarts begin, as these transition elements name them
abbrev pub restarts_in : List Transition → List (List ℕ)
restarts_in transitions = filter_map (λ (t : Transition). restart_at t.then) transitions

-- the elements at which restarts begin, as all transition elements of the nodes name them
abbrev pub restarts : List Node → List (List ℕ)
restarts all = joined (map (λ (m : Node). restarts_in m.transitions) all)

-- whether each restart begins at an element of the job's own list
abbrev pub has_restarts : JobTree → Bool
has_restarts job = are_among (ids (outline job.elements)) (restarts (nodes job.elements))

-- the first fault of a job whose texts are short enough; each fault is tested over the whole job before the
-- next
abbrev pub tree_fault : JobTree → Option JobFault
tree_fault job =
    if has_empty job then Some Empty
    else (if is_too_deep job then Some TooDeep
    else (if has_too_many job then Some TooMany
    else (if has_duplicate job then Some DuplicateId
    else (if lacks_some_target job.elements then Some NoSuchTarget
    else (if has_some_loop job.elements then Some Loop
    else (if has_restarts job then None else Some RestartNotJobLevel))))))

-- the first fault of a job; each fault is tested over the whole job before the next
abbrev pub job_fault : JobTree → Option JobFault
job_fault job = if has_long_text job then Some TextTooLong else tree_fault job

-- the invariant of a checked job
pub record IsChecked (job : JobTree) : Type 0 where
  pub faultless : job_fault job ≡ None
  -- each list of the job has ranks of its elements that rise along every target
  pub ranked : All HasRanks (lists_of job.elements)
  pub has_elements : 0 < length job.elements
