-- The own members of elements, of the flows of splits, and of jobs: all that they have besides the elements
-- inside. An object has the members that are listed, and no others.
use Rattle.std.specs.Prelude.{ℕ, ◌≡◌, ◌&&◌, List, [], ◌∷◌, Bool, true, false, codes, Option, Some, None, if◌then◌else◌}
use Rattle.serde_json.specs.Data.{Data, Items}
use Rattle.json_members.specs.Members.{has_only, is_text, text_at, optional_text, list_at}
use Rattle.jsl_model.specs.declared.element.Step.{Step as StepRecord}
use Rattle.jsl_model.specs.declared.element.Transition.{Transition}
use Rattle.json_members.specs.Chains.{◌>>=◌}
use Rattle.jsl_json.specs.Tasks.{truth_or, count_or, partitions_at, task_at}
use Rattle.jsl_json.specs.Transitions.{transitions_at}

-- The kind of an element, before the values inside it are read

-- a step, a flow with the values of its elements, a split with the values of its flows, or a decision with
-- its artifact. Each has the `next` and the transition elements that its kind may have
pub data Kind : Type 0 where
  step : Option (List ℕ) → List Transition → StepRecord → Kind
  flow : Option (List ℕ) → List Transition → Items → Kind
  split : Option (List ℕ) → Items → Kind
  decision : List Transition → List ℕ → Kind

-- an element's own members
pub record OwnMembers : Type 0 where
  pub id : List ℕ
  pub kind : Kind

-- the members that a step lists
abbrev pub step_names : List (List ℕ)
step_names = codes "kind" ∷ codes "id" ∷ codes "next" ∷ codes "start-limit" ∷ codes "allow-start-if-complete" ∷ codes "partitions" ∷ codes "batchlet" ∷ codes "chunk" ∷ codes "transitions" ∷ []

-- the members that a flow lists
abbrev pub flow_names : List (List ℕ)
flow_names = codes "kind" ∷ codes "id" ∷ codes "next" ∷ codes "elements" ∷ codes "transitions" ∷ []

-- the members that a split lists
abbrev pub split_names : List (List ℕ)
split_names = codes "kind" ∷ codes "id" ∷ codes "next" ∷ codes "flows" ∷ []

-- the members that a decision lists
abbrev pub decision_names : List (List ℕ)
decision_names = codes "kind" ∷ codes "id" ∷ codes "ref" ∷ codes "transitions" ∷ []

-- the step in an object: by default it has no start limit, is not started again after it is COMPLETED, and is
-- not partitioned
unfoldable pub step_of_data : Data → Option Kind
step_of_data d =
    if has_only step_names d
    then (do
      next ← optional_text (codes "next") d
      transitions ← transitions_at d
      start_limit ← count_or (codes "start-limit") 0 d
      again ← truth_or (codes "allow-start-if-complete") false d
      partitions ← partitions_at d
      task ← task_at d
      Some (step next transitions (record {
        start_limit = start_limit;
        allow_start_if_complete = again;
        partitions = partitions;
        task = task;
      })))
    else None

-- the flow in an object
unfoldable pub flow_of_data : Data → Option Kind
flow_of_data d =
    if has_only flow_names d
    then (do
      next ← optional_text (codes "next") d
      transitions ← transitions_at d
      elements ← list_at (codes "elements") d
      Some (flow next transitions elements))
    else None

-- the split in an object
unfoldable pub split_of_data : Data → Option Kind
split_of_data d =
    if has_only split_names d
    then (do
      next ← optional_text (codes "next") d
      flows ← list_at (codes "flows") d
      Some (split next flows))
    else None

-- the decision in an object
unfoldable pub decision_of_data : Data → Option Kind
decision_of_data d =
    if has_only decision_names d
    then (do
      transitions ← transitions_at d
      artifact ← text_at (codes "ref") d
      Some (decision transitions artifact))
    else None

-- the kind of an element, by its member `kind`
unfoldable pub element_kind : Data → Option Kind
element_kind d =
    if is_text (codes "kind") (codes "step") d then step_of_data d
    else (if is_text (codes "kind") (codes "flow") d then flow_of_data d
    else (if is_text (codes "kind") (codes "split") d then split_of_data d
    else (if is_text (codes "kind") (codes "decision") d then decision_of_data d else None)))

-- the values inside are those of the object's list of that name
abbrev pub IsInside : Kind → Data → Type 0
IsInside (step next transitions s) d = Unit {0}
IsInside (flow next transitions ds) d = list_at (codes "elements") d ≡ Some ds
IsInside (split next ds) d = list_at (codes "flows") d ≡ Some ds
IsInside (decision transitions artifact) d = Unit {0}

-- an element's own members, if none is wrong
unfoldable pub own_of : Data → Option OwnMembers
own_of d = do
  kind ← element_kind d
  id ← text_at (codes "id") d
  Some (record { id = id; kind = kind })

-- a flow of a split: its id, and the values of its elements
pub record OwnFlowMembers : Type 0 where
  pub id : List ℕ
  pub elements : Items

-- the members that a flow of a split lists
abbrev pub split_flow_names : List (List ℕ)
split_flow_names = codes "kind" ∷ codes "id" ∷ codes "elements" ∷ []

-- the own members of a flow of a split, if none is wrong
unfoldable pub own_flow_of : Data → Option OwnFlowMembers
own_flow_of d =
    if has_only split_flow_names d && is_text (codes "kind") (codes "flow") d
    then (do
      id ← text_at (codes "id") d
      elements ← list_at (codes "elements") d
      Some (record { id = id; elements = elements }))
    else None

-- a job: its id, whether it may be restarted, and the values of its elements
pub record OwnJobMembers : Type 0 where
  pub id : List ℕ
  pub restartable : Bool
  pub elements : Items

-- the members that a job lists
abbrev pub job_names : List (List ℕ)
job_names = codes "id" ∷ codes "restartable" ∷ codes "elements" ∷ []

-- the own members of a job, if none is wrong: by default it may be restarted
unfoldable pub own_job_of : Data → Option OwnJobMembers
own_job_of d =
    if has_only job_names d
    then (do
      id ← text_at (codes "id") d
      restartable ← truth_or (codes "restartable") true d
      elements ← list_at (codes "elements") d
      Some (record { id = id; restartable = restartable; elements = elements }))
    else None
