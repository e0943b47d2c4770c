-- What is wrong in an object of a catalogue: its first flaw, if it has one. The rules are the catalogue's own
-- readings of each object. An object has a flaw exactly if its reading gives nothing.
use Rattle.std.specs.Prelude.{ℕ, ◌+◌, List, [], ◌∷◌, Bool, true, false, not, bytes_eq, codes, position, unwrap_or, is_some, Option, Some, None, option_map, if◌then◌else◌}
use Rattle.std.specs.List.{list_any}
use Rattle.std.specs.Option.{option_or}
use Rattle.serde_json.specs.Data.{Data, Items, no_items, item, Members, no_members, member}
use Rattle.serde_json.specs.Find.{get, as_object}
use Rattle.json_members.specs.Members.{has_only, is_text, text_at, optional_text, list_at, optional_list, object_at, optional_object}
use Rattle.jsl_json.specs.Tasks.{truth_or, count_or, item_count_at, partitions_at, chunk_names}
use Rattle.jsl_json.specs.Transitions.{next_names, end_names, stop_names}
use Rattle.jsl_json.specs.Members.{step_names, flow_names, split_names, decision_names, split_flow_names, job_names}
use Rattle.catalogue_places.specs.declared.flaws.Flaw.{Flaw}
use Rattle.catalogue_places.specs.declared.flaws.Flaw.TheVariants.{NoObject, Unlisted, Missing, Wrong, NotOneTask}
use Rattle.catalogue_places.specs.declared.flaws.Inside.{Inside}
use Rattle.catalogue_places.specs.declared.flaws.Inside.TheVariants.{Own, In, InChunk, Transition}
use Rattle.catalogue_places.specs.declared.flaws.Spot.{Spot}
use Rattle.catalogue_places.specs.declared.member.Member.{Member}
use Rattle.catalogue_places.specs.declared.member.Member.TheVariants.{Jobs, Id, Restartable, Elements, Kind, Next, StartLimit, AllowStartIfComplete, Partitions, Batchlet, Chunk, Transitions, Flows, Ref, ItemCount, Reader, Processor, Writer, On, To, ExitStatus, Restart}
use Rattle.catalogue_places.specs.Names.{name_of}

-- a flaw is found exactly if there is no value
abbrev pub Agrees : {F A : Type 0} → Option F → Option A → Type 0
Agrees None None = ⊥
Agrees None (Some a) = Unit {0}
Agrees (Some f) None = Unit {0}
Agrees (Some f) (Some a) = ⊥

-- the first flaw of these
abbrev pub first : {F : Type 0} → List (Option F) → Option F
first [] = None
first (f ∷ fs) = option_or f (first fs)

-- One member

-- a member that is not right is missing, or is there and wrong
abbrev pub absent_or_wrong : Member → Data → Flaw
absent_or_wrong m d = if is_some (get (name_of m) d) then Wrong m else Missing m

-- the flaw of a member, unless it is right
abbrev pub unless : Bool → Member → Data → Option Flaw
unless right m d = if right then None else Some (absent_or_wrong m d)

-- the flaw of a member, unless this reading of its name gives a value
abbrev pub needs : {A : Type 0} → (List ℕ → Data → Option A) → Member → Data → Option Flaw
needs reading m d = unless (is_some (reading (name_of m) d)) m d

-- the names of an object's members, in their order
abbrev pub names_in : Members → List (List ℕ)
names_in no_members = []
names_in (member name d ms) = name ∷ names_in ms

-- the number of the first member that is not listed
abbrev pub first_other : List (List ℕ) → Members → ℕ
first_other names ms = unwrap_or (position (λ name. not (list_any (bytes_eq name) names)) (names_in ms)) 0

-- the flaw of an object that has other members than these, or of a value that is no object
abbrev pub not_only : List (List ℕ) → Option Members → Flaw
not_only names None = NoObject
not_only names (Some ms) = Unlisted (first_other names ms)

-- the flaw of a value that is no object, or has a member that is not listed
abbrev pub unlisted : List (List ℕ) → Data → Option Flaw
unlisted names d = if has_only names d then None else Some (not_only names (as_object d))

-- the flaw of an object of another kind, or of a value that is no object
abbrev pub other_kind : Data → Flaw
other_kind d = if is_some (as_object d) then absent_or_wrong Kind d else NoObject

-- Objects without other objects inside them that are their own members

-- a catalogue
unfoldable pub catalogue_flaw : Data → Option Flaw
catalogue_flaw d = first (unlisted (codes "jobs" ∷ []) d ∷ needs list_at Jobs d ∷ [])

-- a job
unfoldable pub job_flaw : Data → Option Flaw
job_flaw d = first (unlisted job_names d ∷ needs text_at Id d ∷ needs (λ name. truth_or name true) Restartable d ∷ needs list_at Elements d ∷ [])

-- a flow of a split
unfoldable pub split_flow_flaw : Data → Option Flaw
split_flow_flaw d =
    first (unlisted split_flow_names d ∷ unless (is_text (name_of Kind) (codes "flow") d) Kind d ∷ needs text_at Id d ∷ needs list_at Elements d ∷ [])

-- an artifact
unfoldable pub artifact_flaw : Data → Option Flaw
artifact_flaw d = first (unlisted (codes "ref" ∷ []) d ∷ needs text_at Ref d ∷ [])

-- an `end` or a `fail`
abbrev pub end_flaw : Data → Option Flaw
end_flaw d = first (unlisted end_names d ∷ needs optional_text ExitStatus d ∷ [])

-- the transition of a transition element, by its kind
unfoldable pub then_flaw : Data → Option Flaw
then_flaw d =
    if is_text (name_of Kind) (codes "next") d then first (unlisted next_names d ∷ needs text_at To d ∷ [])
    else (if is_text (name_of Kind) (codes "end") d then end_flaw d
    else (if is_text (name_of Kind) (codes "fail") d then end_flaw d
    else (if is_text (name_of Kind) (codes "stop") d then first (unlisted stop_names d ∷ needs optional_text ExitStatus d ∷ needs optional_text Restart d ∷ [])
    else Some (other_kind d))))

-- a transition element
unfoldable pub transition_flaw : Data → Option Flaw
transition_flaw d = first (then_flaw d ∷ needs text_at On d ∷ [])

-- Elements

-- a flaw, and the object in which it is
abbrev pub within : Inside → Option Flaw → Option Spot
within inside flaw = option_map (λ f. record { inside = inside; flaw = f }) flaw

-- the transition elements of a list, from this number on
abbrev pub transitions_spot_in : ℕ → Items → Option Spot
transitions_spot_in n no_items = None
transitions_spot_in n (item d ds) = option_or (within (Transition n) (transition_flaw d)) (transitions_spot_in (n + 1) ds)

-- of a list that may be left out
abbrev pub transitions_spot_if : Option (Option Items) → Data → Option Spot
transitions_spot_if None d = within Own (Some (absent_or_wrong Transitions d))
transitions_spot_if (Some None) d = None
transitions_spot_if (Some (Some ds)) d = transitions_spot_in 0 ds

-- the transition elements of an element
unfoldable pub transitions_spot : Data → Option Spot
transitions_spot d = transitions_spot_if (optional_list (name_of Transitions) d) d

-- an artifact of a chunk
abbrev pub artifact_spot_in : Member → Option Data → Data → Option Spot
artifact_spot_in m None d = within (In Chunk) (Some (absent_or_wrong m d))
artifact_spot_in m (Some found) d = within (InChunk m) (artifact_flaw found)

-- an artifact of a chunk, which may be left out
abbrev pub artifact_spot_if : Member → Option (Option Data) → Data → Option Spot
artifact_spot_if m None d = within (In Chunk) (Some (absent_or_wrong m d))
artifact_spot_if m (Some None) d = None
artifact_spot_if m (Some (Some found)) d = within (InChunk m) (artifact_flaw found)

-- a chunk
unfoldable pub chunk_spot : Data → Option Spot
chunk_spot d =
    first (within (In Chunk) (unlisted chunk_names d)
    ∷ within (In Chunk) (unless (is_some (item_count_at d)) ItemCount d)
    ∷ artifact_spot_in Reader (object_at (name_of Reader) d) d
    ∷ artifact_spot_if Processor (optional_object (name_of Processor) d) d
    ∷ artifact_spot_in Writer (object_at (name_of Writer) d) d
    ∷ [])

-- a task, of which there is exactly one
abbrev pub one_task_spot : Option Data → Option Data → Option Spot
one_task_spot None None = within Own (Some NotOneTask)
one_task_spot (Some batchlet) None = within (In Batchlet) (artifact_flaw batchlet)
one_task_spot None (Some chunk) = chunk_spot chunk
one_task_spot (Some batchlet) (Some chunk) = within Own (Some NotOneTask)

-- the two members that a task may be
abbrev pub task_spot_of : Option (Option Data) → Option (Option Data) → Data → Option Spot
task_spot_of None chunk d = within Own (Some (absent_or_wrong Batchlet d))
task_spot_of (Some batchlet) None d = within Own (Some (absent_or_wrong Chunk d))
task_spot_of (Some batchlet) (Some chunk) d = one_task_spot batchlet chunk

-- the task of a step
unfoldable pub task_spot : Data → Option Spot
task_spot d = task_spot_of (optional_object (name_of Batchlet) d) (optional_object (name_of Chunk) d) d

-- a step
unfoldable pub step_spot : Data → Option Spot
step_spot d =
    first (within Own (unlisted step_names d)
    ∷ within Own (needs optional_text Next d)
    ∷ transitions_spot d
    ∷ within Own (needs (λ name. count_or name 0) StartLimit d)
    ∷ within Own (needs (λ name. truth_or name false) AllowStartIfComplete d)
    ∷ within Own (unless (is_some (partitions_at d)) Partitions d)
    ∷ task_spot d
    ∷ [])

-- a flow
unfoldable pub flow_spot : Data → Option Spot
flow_spot d =
    first (within Own (unlisted flow_names d) ∷ within Own (needs optional_text Next d) ∷ transitions_spot d ∷ within Own (needs list_at Elements d) ∷ [])

-- a split
unfoldable pub split_spot : Data → Option Spot
split_spot d = first (within Own (unlisted split_names d) ∷ within Own (needs optional_text Next d) ∷ within Own (needs list_at Flows d) ∷ [])

-- a decision
unfoldable pub decision_spot : Data → Option Spot
decision_spot d = first (within Own (unlisted decision_names d) ∷ transitions_spot d ∷ within Own (needs text_at Ref d) ∷ [])

-- an element's kind
unfoldable pub kind_spot : Data → Option Spot
kind_spot d =
    if is_text (name_of Kind) (codes "step") d then step_spot d
    else (if is_text (name_of Kind) (codes "flow") d then flow_spot d
    else (if is_text (name_of Kind) (codes "split") d then split_spot d
    else (if is_text (name_of Kind) (codes "decision") d then decision_spot d else within Own (Some (other_kind d)))))

-- an element's own members
unfoldable pub element_spot : Data → Option Spot
element_spot d = first (kind_spot d ∷ within Own (needs text_at Id d) ∷ [])
