-- The site of a fault in a catalogue's data: the path to the value that is wrong, or to the object that lacks a
-- member. Jobs, and the elements of a job, are counted from 0.
use Rattle.std.specs.Prelude.{ℕ, ◌+◌, ◌==◌, List, [], ◌∷◌, ◌++◌, map, bytes_eq, Bool, true, false, slice_get, is_some, Option, Some, None, option_map, option_and_then, if◌then◌else◌}
use Rattle.std.specs.List.{list_any}
use Rattle.std.specs.Option.{option_or}
use Rattle.serde_json.specs.Data.{Data, Items}
use Rattle.serde_json.specs.Find.{get_item, as_object}
use Rattle.json_members.specs.Members.{text_at, list_at}
use Rattle.jsl_model.specs.declared.job.JobFault.{JobFault}
use Rattle.jsl_model.specs.declared.job.JobFault.TheVariants.{TextTooLong, Empty, TooDeep, TooMany, DuplicateId, NoSuchTarget, Loop, RestartNotJobLevel, OutOfMemory as NoMemory}
use Rattle.jsl_json.specs.declared.fault.ReadFault.{ReadFault}
use Rattle.jsl_json.specs.declared.fault.ReadFault.TheVariants.{NotJson, NotACatalogue, BadElement, InJob, OutOfMemory}
use Rattle.catalogue_places.specs.declared.flaws.Flaw.{Flaw}
use Rattle.catalogue_places.specs.declared.flaws.Flaw.TheVariants.{NoObject, Unlisted, Missing, Wrong, NotOneTask}
use Rattle.catalogue_places.specs.declared.flaws.Inside.{Inside}
use Rattle.catalogue_places.specs.declared.flaws.Inside.TheVariants.{Own, In, InChunk, Transition}
use Rattle.catalogue_places.specs.declared.flaws.Spot.{Spot}
use Rattle.catalogue_places.specs.declared.member.Member.{Member}
use Rattle.catalogue_places.specs.declared.member.Member.TheVariants.{Jobs, Id, Elements, Transitions, Chunk}
use Rattle.catalogue_places.specs.Names.{name_of}
use Rattle.catalogue_places.specs.Flaws.{names_in, within, catalogue_flaw, job_flaw, split_flow_flaw, element_spot}
use Rattle.element_numbers.specs.Numbering.{Key, nth, named, value_by, Numbered, all_in}
use Rattle.element_numbers.specs.Ways.{bare}
use Rattle.element_levels.specs.Levels.{steps_left}
use Rattle.rule_spots.specs.declared.hits.Hit.{Hit}
use Rattle.rule_spots.specs.Hits.{hit_of}

pub record Site : Type 0 where
  pub path : List Key
  pub lacks : Option Member

-- the step to a member
abbrev pub to_member : Member → Key
to_member m = named (name_of m)

-- the step to a member by its name, if there is one
abbrev pub to_name : Option (List ℕ) → List Key
to_name None = []
to_name (Some name) = named name ∷ []

-- the name of the member of this number of an object
abbrev pub nth_name : ℕ → Data → Option (List ℕ)
nth_name n d = option_and_then (λ ms. slice_get (names_in ms) n) (as_object d)

-- the site of a flaw of this object, which is at the end of this path
abbrev pub site_of : List Key → Data → Flaw → Site
site_of path d NoObject = record { path = path; lacks = None }
site_of path d (Unlisted n) = record { path = path ++ to_name (nth_name n d); lacks = None }
site_of path d (Missing m) = record { path = path; lacks = Some m }
site_of path d (Wrong m) = record { path = path ++ to_member m ∷ []; lacks = None }
site_of path d NotOneTask = record { path = path; lacks = None }

-- the path from an element to the object inside it that has the flaw
abbrev pub path_inside : Inside → List Key
path_inside Own = []
path_inside (In m) = to_member m ∷ []
path_inside (InChunk m) = to_member Chunk ∷ to_member m ∷ []
path_inside (Transition n) = to_member Transitions ∷ nth n ∷ []

-- the flaw of an element, or of a flow of a split
abbrev pub spot_of : Bool → Data → Option Spot
spot_of true d = within Own (split_flow_flaw d)
spot_of false d = element_spot d

-- the job of this number, and the path to it
abbrev pub job_of : ℕ → Data → Option Data
job_of n d = option_and_then (get_item n) (list_at (name_of Jobs) d)

abbrev pub job_path : ℕ → List Key
job_path n = to_member Jobs ∷ nth n ∷ []

-- the element of this number of a job, and the path to it
abbrev pub element_of : ℕ → Data → Option Numbered
element_of n job = option_and_then (λ elements. slice_get (all_in false 0 elements) n) (list_at (name_of Elements) job)

abbrev pub element_path : ℕ → Numbered → List Key
element_path job element = job_path job ++ to_member Elements ∷ element.path

-- the site of a flaw inside the element at the end of this path
abbrev pub spot_site : List Key → Data → Spot → Option Site
spot_site path d spot =
    option_map (λ object. site_of (path ++ path_inside spot.inside) object spot.flaw) (value_by (path_inside spot.inside) d)

-- the site of the flaw of an element, if it has one
abbrev pub element_site : ℕ → Numbered → Option Site
element_site job element =
    option_and_then (spot_site (element_path job element) element.value) (spot_of element.in_split element.value)

-- the site of an element, or of the job if there is none. The element after the first 1,000 of a job is one too many, and a
-- job that has not so many is itself one too many for the catalogue
abbrev pub element_or_job : ℕ → Option Numbered → Site
element_or_job job None = record { path = job_path job; lacks = None }
element_or_job job (Some element) = record { path = element_path job element; lacks = None }

-- Hits: the members for which a job has a fault

-- the path from an element, a flow of a split or a job to the item that has the member
abbrev pub item_path : Option ℕ → List Key
item_path None = []
item_path (Some n) = to_member Elements ∷ nth n ∷ []

-- the site of a hit in what is at the end of this path
abbrev pub hit_site : List Key → Hit → Site
hit_site path hit = record { path = ((path ++ item_path hit.item) ++ path_inside hit.part.inside) ++ to_member hit.part.member ∷ []; lacks = None }

-- the number of the first of these that passes a test, counted from this number on
abbrev pub number_from : {A : Type 0} → (A → Bool) → ℕ → List A → Option ℕ
number_from test n [] = None
number_from test n (x ∷ xs) = if test x then Some n else number_from test (n + 1) xs

-- whether two elements have one id
abbrev pub same_id : Option (List ℕ) → Option (List ℕ) → Bool
same_id (Some a) (Some b) = bytes_eq a b
same_id (Some a) None = false
same_id None b = false

-- the number of the first of these ids that is among those before it
abbrev pub number_of_twice : List (Option (List ℕ)) → ℕ → List (Option (List ℕ)) → Option ℕ
number_of_twice before n [] = None
number_of_twice before n (id ∷ ids) = if list_any (same_id id) before then Some n else number_of_twice (before ++ id ∷ []) (n + 1) ids

-- the ids of elements
abbrev pub ids_of : List (Bool × Data) → List (Option (List ℕ))
ids_of es = map (λ (e : Bool × Data). text_at (name_of Id) e.1) es

abbrev pub is_duplicate : JobFault → Bool
is_duplicate TextTooLong = false
is_duplicate Empty = false
is_duplicate TooDeep = false
is_duplicate TooMany = false
is_duplicate DuplicateId = true
is_duplicate NoSuchTarget = false
is_duplicate Loop = false
is_duplicate RestartNotJobLevel = false
is_duplicate NoMemory = false

-- the number of the first of a job's elements that has a hit. For DuplicateId it is the first one whose id an element
-- before it has
abbrev pub hit_number : JobFault → Items → List (Bool × Data) → Option ℕ
hit_number fault elements all =
    if is_duplicate fault then number_of_twice [] 0 (ids_of all) else number_from (λ (e : Bool × Data). is_some (hit_of fault elements e.1)) 0 all

-- the site of the hit of an element, and of that element
abbrev pub numbered_hit : ℕ → JobFault → Items → Numbered → Option Site
numbered_hit n fault elements e = option_map (hit_site (element_path n e)) (hit_of fault elements e.value)

abbrev pub element_hit : ℕ → JobFault → Items → Option Site
element_hit n fault elements =
    option_and_then (λ number. option_and_then (numbered_hit n fault elements) (slice_get (all_in false 0 elements) number))
    (hit_number fault elements (map bare (all_in false 0 elements)))

-- the site of the hit of the job itself
abbrev pub own_hit : ℕ → JobFault → Items → Data → Option Site
own_hit n fault elements job = option_map (hit_site (job_path n)) (hit_of fault elements job)

-- the hit of the job comes before those of its elements. For DuplicateId it comes after them: then no two elements have one
-- id, and the job has that of another job
abbrev pub first_hit : ℕ → JobFault → Data → Items → Option Site
first_hit n fault job elements =
    if is_duplicate fault then option_or (element_hit n fault elements) (own_hit n fault elements job)
    else option_or (own_hit n fault elements job) (element_hit n fault elements)

-- the site of a fault that has no hit is the job
abbrev pub or_job : ℕ → Option Site → Site
or_job n None = record { path = job_path n; lacks = None }
or_job n (Some site) = site

abbrev pub hit_or_job : ℕ → JobFault → Data → Site
hit_or_job n fault job = or_job n (option_and_then (first_hit n fault job) (list_at (name_of Elements) job))

-- the first of a job's elements that is deeper than 16. The path of an element at level 1 has one step, and each level
-- deeper has two more
abbrev pub deep_element : Items → Option Numbered
deep_element elements =
    option_and_then (slice_get (all_in false 0 elements)) (number_from (λ (left : ℕ). left == 0) 0 (map (steps_left 33) (all_in false 0 elements)))

-- the site of a fault of a job whose own members, and those of its elements, are right
abbrev pub job_fault_site : ℕ → JobFault → Data → Option Site
job_fault_site n TextTooLong job = Some (hit_or_job n TextTooLong job)
job_fault_site n Empty job = Some (hit_or_job n Empty job)
job_fault_site n TooDeep job = Some (element_or_job n (option_and_then deep_element (list_at (name_of Elements) job)))
job_fault_site n TooMany job = Some (element_or_job n (element_of 1000 job))
job_fault_site n DuplicateId job = Some (hit_or_job n DuplicateId job)
job_fault_site n NoSuchTarget job = Some (hit_or_job n NoSuchTarget job)
job_fault_site n Loop job = Some (hit_or_job n Loop job)
job_fault_site n RestartNotJobLevel job = Some (hit_or_job n RestartNotJobLevel job)
job_fault_site n NoMemory job = None

-- the site of a fault
abbrev pub site_in : ReadFault → Data → Option Site
site_in NotJson d = None
site_in NotACatalogue d = option_map (site_of [] d) (catalogue_flaw d)
site_in (BadElement n None) d = option_and_then (λ job. option_map (site_of (job_path n) job) (job_flaw job)) (job_of n d)
site_in (BadElement n (Some m)) d = option_and_then (λ job. option_and_then (element_site n) (element_of m job)) (job_of n d)
site_in (InJob n fault) d = option_and_then (job_fault_site n fault) (job_of n d)
site_in OutOfMemory d = None

-- all faults have a place but that of a text that is no JSON
abbrev pub job_fault_has_place : JobFault → Bool
job_fault_has_place TextTooLong = true
job_fault_has_place Empty = true
job_fault_has_place TooDeep = true
job_fault_has_place TooMany = true
job_fault_has_place DuplicateId = true
job_fault_has_place NoSuchTarget = true
job_fault_has_place Loop = true
job_fault_has_place RestartNotJobLevel = true
job_fault_has_place NoMemory = false

-- the faults that have a place
abbrev pub has_place : ReadFault → Bool
has_place NotJson = false
has_place NotACatalogue = true
has_place (BadElement job element) = true
has_place (InJob job fault) = job_fault_has_place fault
has_place OutOfMemory = false
