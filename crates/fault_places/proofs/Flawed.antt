-- The object that has a flaw is in the element, and has the member that is called wrong.
use Rattle.std.proofs.Common.{◌≡◌, ◌∙◌, ℕ, zero, suc, ◌+◌, ◌<◌, List, [], ◌∷◌, length, Bool, true, false, cond, not, ◌&&◌, nat_lt, codes, bytes_eq, slice_get, is_some, Option, Some, None, option_and_then, unwrap_or, refl, sym, ap, subst, true≢false, arith}
use Rattle.std.proofs.lemmas.Option.{same_Some}
use Rattle.std.specs.Option.{option_or}
use Rattle.std.specs.List.{list_any, position_or_len}
use Rattle.std.specs.declared.cmp.Ordering.{Ordering}
use Rattle.std.specs.declared.cmp.Ordering.TheVariants.{Less, Equal, Greater}
use Rattle.std.specs.Ordering.{nat_cmp, match_ordering, is_eq}
use Rattle.std.specs.Cmp.Lexicographic.{slice_cmp}
use Rattle.std.proofs.lemmas.Map.Text.{is_eq-slice_cmp}
use Rattle.std.proofs.lemmas.Slice.Eq.{bytes_eq-Decides}
use Rattle.std.proofs.lemmas.Bool.Decides.{nat_tests}
use Rattle.serde_json.specs.Data.{Data, null, boolean, number, string, array, object, Items, no_items, item, Members, no_members, member}
use Rattle.serde_json.specs.Find.{get, get_member, get_item, as_array, as_object}
use Rattle.json_members.specs.Members.{names_among, has_only, is_text, text_at, optional_text, list_at, optional_list, object_at, optional_object, as_object_value, if_there}
use Rattle.jsl_json.specs.Tasks.{truth_or, count_or, item_count_at, partitions_at, chunk_names}
use Rattle.jsl_json.specs.Transitions.{next_names, end_names, stop_names}
use Rattle.jsl_json.specs.Members.{step_names, flow_names, split_names, decision_names, split_flow_names, job_names}
use Rattle.catalogue_places.specs.declared.flaws.Flaw.{Flaw}
use Rattle.catalogue_places.specs.declared.flaws.Flaw.TheVariants.{NoObject, Unlisted, Missing, Wrong, NotOneTask}
use Rattle.catalogue_places.specs.declared.flaws.Spot.{Spot}
use Rattle.catalogue_places.specs.declared.flaws.Inside.{Inside}
use Rattle.catalogue_places.specs.declared.flaws.Inside.TheVariants.{Own, In, InChunk, Transition}
use Rattle.catalogue_places.specs.declared.member.Member.{Member}
use Rattle.catalogue_places.specs.declared.member.Member.TheVariants.{Jobs, Id, Restartable, Elements, Kind, Next, StartLimit, AllowStartIfComplete, Partitions, Batchlet, Chunk, Transitions, Flows, Ref, ItemCount, Reader, Processor, Writer, On, To, ExitStatus, Restart}
use Rattle.catalogue_places.specs.Names.{name_of}
use Rattle.catalogue_places.specs.Flaws.{first, names_in, first_other, absent_or_wrong, unless, needs, unlisted, other_kind, within, catalogue_flaw, job_flaw, split_flow_flaw, artifact_flaw, end_flaw, then_flaw, transition_flaw, transitions_spot_in, transitions_spot_if, transitions_spot, artifact_spot_in, artifact_spot_if, chunk_spot, one_task_spot, task_spot_of, task_spot, step_spot, flow_spot, split_spot, decision_spot, kind_spot, element_spot}
use Rattle.element_numbers.specs.Numbering.{nth, named, value_by}
use Rattle.fault_places.specs.Sites.{spot_of, path_inside, nth_name}

-- if the flaw is a wrong member, the object has it
abbrev pub FlawIn : Data → Flaw → Type 0
FlawIn d NoObject = Unit {0}
FlawIn d (Unlisted n) = (name : List ℕ) × (e : Data) × (nth_name n d ≡ Some name) × (get name d ≡ Some e)
FlawIn d (Missing m) = Unit {0}
FlawIn d (Wrong m) = (e : Data) × (get (name_of m) d ≡ Some e)
FlawIn d NotOneTask = Unit {0}

-- the object of the flaw is in the element
abbrev pub SpotIn : Data → Spot → Type 0
SpotIn d spot = (e : Data) × (value_by (path_inside spot.inside) d ≡ Some e) × FlawIn e spot.flaw

-- what is there has this property
abbrev pub Each : {F : Type 0} → (F → Type 0) → Option F → Type 0
Each P None = Unit {0}
Each P (Some f) = P f

pub either : {F : Type 0} (P : F → Type 0) (f g : Option F) → Each P f → Each P g → Each P (option_or f g)
either P None g h k = k
either P (Some f) g h k = h

-- each of these has this property, where it is there
abbrev EachOf : {F : Type 0} → (F → Type 0) → List (Option F) → Type 0
EachOf P [] = Unit {0}
EachOf P (f ∷ fs) = Each P f × EachOf P fs

first_in : {F : Type 0} (P : F → Type 0) (fs : List (Option F)) → EachOf P fs → Each P (first fs)
first_in P [] h = tt
first_in P (f ∷ fs) h = either P f (first fs) h.0 (first_in P fs h.1)

one_of_five : {F : Type 0} (P : F → Type 0) (a b c d : Bool) (f g h i j : Option F) → Each P f → Each P g → Each P h → Each P i → Each P j → Each P (cond a f (cond b g (cond c h (cond d i j))))
one_of_five P true b c d f g h i j p q r s t = p
one_of_five P false true c d f g h i j p q r s t = q
one_of_five P false false true d f g h i j p q r s t = r
one_of_five P false false false true f g h i j p q r s t = s
one_of_five P false false false false f g h i j p q r s t = t

-- ---- members

absent : (m : Member) (d : Data) (o : Option Data) → get (name_of m) d ≡ o → FlawIn d (cond (is_some o) (Wrong m) (Missing m))
absent m d None is = tt
absent m d (Some e) is = (e, is)

absent_in : (m : Member) (d : Data) → FlawIn d (absent_or_wrong m d)
absent_in m d = absent m d (get (name_of m) d) refl

unless_in : (right : Bool) (m : Member) (d : Data) → Each (FlawIn d) (unless right m d)
unless_in true m d = tt
unless_in false m d = absent_in m d

-- one of the members is not listed
one_other : (here rest : Bool) (n m : ℕ) → (here && rest) ≡ false → (rest ≡ false → n < m) → cond (not (not here)) (1 + n) 0 < suc m
one_other true rest n m h k = let less = k h in omega arith
one_other false rest n m h k = omega arith

other_before : (names : List (List ℕ)) (ms : Members) → names_among names ms ≡ false → position_or_len (λ name. not (list_any (bytes_eq name) names)) (names_in ms) < length (names_in ms)
other_before names no_members h = absurd (true≢false h)
other_before names (member k d ms) h =
    one_other (list_any (bytes_eq k) names) (names_among names ms) (position_or_len (λ name. not (list_any (bytes_eq name) names)) (names_in ms)) (length (names_in ms)) h (λ none. other_before names ms none)

first_is : (n m : ℕ) → n < m → unwrap_or (cond (nat_lt n m) (Some n) None) 0 ≡ n
first_is n m less = grind (arith, nat_tests)

-- the member of a number is found by its name
by_name : (o : Ordering) (e : Data) (rest : Option Data) → is_eq o ≡ true → match_ordering o rest (Some e) rest ≡ Some e
by_name Less e rest h = absurd (true≢false (sym h))
by_name Equal e rest h = refl
by_name Greater e rest h = absurd (true≢false (sym h))

or_here : (o : Ordering) (e x : Data) (rest : Option Data) → rest ≡ Some x → (y : Data) × (match_ordering o rest (Some e) rest ≡ Some y)
or_here Less e x rest h = (x, h)
or_here Equal e x rest h = (e, refl)
or_here Greater e x rest h = (x, h)

member_there : (ms : Members) (n : ℕ) → n < length (names_in ms) → (name : List ℕ) × (e : Data) × (slice_get (names_in ms) n ≡ Some name) × (get_member name ms ≡ Some e)
member_there no_members n h = absurd (omega arith)
member_there (member k d ms) zero h = (k, d, refl, by_name (slice_cmp nat_cmp k k) d (get_member k ms) (is_eq-slice_cmp k k ∙ (bytes_eq-Decides k k).1 refl))
member_there (member k d ms) (suc n) h =
    let r = member_there ms n (omega arith) in
    let t = or_here (slice_cmp nat_cmp r.0 k) d r.1 (get_member r.0 ms) r.3 in
    (r.0, t.0, r.2, t.1)

other_in_object : (names : List (List ℕ)) (ms : Members) (b : Bool) → names_among names ms ≡ b → Each (FlawIn (object ms)) (cond b None (Some (Unlisted (first_other names ms))))
other_in_object names ms true is = tt
other_in_object names ms false is =
    let n = position_or_len (λ name. not (list_any (bytes_eq name) names)) (names_in ms) in
    let less : n < length (names_in ms) = other_before names ms is in
    subst (λ m. FlawIn (object ms) (Unlisted m)) (sym (first_is n (length (names_in ms)) less)) (member_there ms n less)

unlisted_in : (names : List (List ℕ)) (d : Data) → Each (FlawIn d) (unlisted names d)
unlisted_in names null = tt
unlisted_in names (boolean b) = tt
unlisted_in names (number x) = tt
unlisted_in names (string s) = tt
unlisted_in names (array ds) = tt
unlisted_in names (object ms) = other_in_object names ms (names_among names ms) refl

kind_or : (held : Bool) (d : Data) → FlawIn d (cond held (absent_or_wrong Kind d) NoObject)
kind_or true d = absent_in Kind d
kind_or false d = tt

other_in : (d : Data) → FlawIn d (other_kind d)
other_in d = kind_or (is_some (as_object d)) d

needs_in : {A : Type 0} (reading : List ℕ → Data → Option A) (m : Member) (d : Data) → Each (FlawIn d) (needs reading m d)
needs_in reading m d = unless_in (is_some (reading (name_of m) d)) m d

-- ---- objects

pub catalogue_in : (d : Data) → Each (FlawIn d) (catalogue_flaw d)
unfolding catalogue_flaw
catalogue_in d = first_in (FlawIn d) (unlisted (codes "jobs" ∷ []) d ∷ needs list_at Jobs d ∷ []) (unlisted_in (codes "jobs" ∷ []) d, (needs_in list_at Jobs d, tt))

pub job_in : (d : Data) → Each (FlawIn d) (job_flaw d)
unfolding job_flaw
job_in d =
    first_in (FlawIn d) (unlisted job_names d ∷ needs text_at Id d ∷ needs (λ name. truth_or name true) Restartable d ∷ needs list_at Elements d ∷ [])
    (unlisted_in job_names d, (needs_in text_at Id d, (needs_in (λ name. truth_or name true) Restartable d, (needs_in list_at Elements d, tt))))

split_flow_in : (d : Data) → Each (FlawIn d) (split_flow_flaw d)
unfolding split_flow_flaw
split_flow_in d =
    first_in (FlawIn d) (unlisted split_flow_names d ∷ unless (is_text (name_of Kind) (codes "flow") d) Kind d ∷ needs text_at Id d ∷ needs list_at Elements d ∷ [])
    (unlisted_in split_flow_names d, (unless_in (is_text (name_of Kind) (codes "flow") d) Kind d, (needs_in text_at Id d, (needs_in list_at Elements d, tt))))

artifact_in : (d : Data) → Each (FlawIn d) (artifact_flaw d)
unfolding artifact_flaw
artifact_in d = first_in (FlawIn d) (unlisted (codes "ref" ∷ []) d ∷ needs text_at Ref d ∷ []) (unlisted_in (codes "ref" ∷ []) d, (needs_in text_at Ref d, tt))

end_in : (d : Data) → Each (FlawIn d) (end_flaw d)
end_in d = first_in (FlawIn d) (unlisted end_names d ∷ needs optional_text ExitStatus d ∷ []) (unlisted_in end_names d, (needs_in optional_text ExitStatus d, tt))

next_in : (d : Data) → Each (FlawIn d) (first (unlisted next_names d ∷ needs text_at To d ∷ []))
next_in d = first_in (FlawIn d) (unlisted next_names d ∷ needs text_at To d ∷ []) (unlisted_in next_names d, (needs_in text_at To d, tt))

stop_in : (d : Data) → Each (FlawIn d) (first (unlisted stop_names d ∷ needs optional_text ExitStatus d ∷ needs optional_text Restart d ∷ []))
stop_in d =
    first_in (FlawIn d) (unlisted stop_names d ∷ needs optional_text ExitStatus d ∷ needs optional_text Restart d ∷ [])
    (unlisted_in stop_names d, (needs_in optional_text ExitStatus d, (needs_in optional_text Restart d, tt)))

then_in : (d : Data) → Each (FlawIn d) (then_flaw d)
unfolding then_flaw
then_in d =
    one_of_five (FlawIn d) (is_text (name_of Kind) (codes "next") d) (is_text (name_of Kind) (codes "end") d) (is_text (name_of Kind) (codes "fail") d) (is_text (name_of Kind) (codes "stop") d)
    (first (unlisted next_names d ∷ needs text_at To d ∷ [])) (end_flaw d) (end_flaw d)
    (first (unlisted stop_names d ∷ needs optional_text ExitStatus d ∷ needs optional_text Restart d ∷ [])) (Some (other_kind d))
    (next_in d) (end_in d) (end_in d) (stop_in d) (other_in d)

transition_in : (d : Data) → Each (FlawIn d) (transition_flaw d)
unfolding transition_flaw
transition_in d = first_in (FlawIn d) (then_flaw d ∷ needs text_at On d ∷ []) (then_in d, (needs_in text_at On d, tt))

-- ---- objects inside an element

inside_at : (i : Inside) (d e : Data) (f : Option Flaw) → value_by (path_inside i) d ≡ Some e → Each (FlawIn e) f → Each (SpotIn d) (within i f)
inside_at i d e None leads h = tt
inside_at i d e (Some f) leads h = (e, leads, h)

own_in : (d : Data) (f : Option Flaw) → Each (FlawIn d) f → Each (SpotIn d) (within Own f)
own_in d f h = inside_at Own d d f refl h

own_unlisted : (names : List (List ℕ)) (d : Data) → Each (SpotIn d) (within Own (unlisted names d))
own_unlisted names d = own_in d (unlisted names d) (unlisted_in names d)

own_needs : {A : Type 0} (reading : List ℕ → Data → Option A) (m : Member) (d : Data) → Each (SpotIn d) (within Own (needs reading m d))
own_needs reading m d = own_in d (needs reading m d) (needs_in reading m d)

pub is_object : (o : Option Data) (e : Data) → option_and_then as_object_value o ≡ Some e → o ≡ Some e
is_object None e h = cc
is_object (Some null) e h = cc
is_object (Some (boolean b)) e h = cc
is_object (Some (number x)) e h = cc
is_object (Some (string s)) e h = cc
is_object (Some (array es)) e h = cc
is_object (Some (object ms)) e h = h

if_object : (o : Option Data) (e : Data) → if_there as_object_value o ≡ Some (Some e) → o ≡ Some e
if_object None e h = cc
if_object (Some null) e h = cc
if_object (Some (boolean b)) e h = cc
if_object (Some (number x)) e h = cc
if_object (Some (string s)) e h = cc
if_object (Some (array es)) e h = cc
if_object (Some (object ms)) e h = same_Some (Some (object ms)) (Some e) h

if_array : (o : Option Data) (ds : Items) → if_there as_array o ≡ Some (Some ds) → o ≡ Some (array ds)
if_array None ds h = cc
if_array (Some null) ds h = cc
if_array (Some (boolean b)) ds h = cc
if_array (Some (number x)) ds h = cc
if_array (Some (string s)) ds h = cc
if_array (Some (array es)) ds h = ap (λ (x : Items). Some (array x)) (same_Some es ds (same_Some (Some es) (Some ds) h))
if_array (Some (object ms)) ds h = cc

pub by_member : (m : Member) (d e : Data) → get (name_of m) d ≡ Some e → value_by (path_inside (In m)) d ≡ Some e
by_member m d e is = ap (option_and_then (value_by [])) is

pub in_chunk : (m : Member) (d c e : Data) → get (name_of Chunk) d ≡ Some c → get (name_of m) c ≡ Some e → value_by (path_inside (InChunk m)) d ≡ Some e
in_chunk m d c e chunk is = ap (option_and_then (value_by (named (name_of m) ∷ []))) chunk ∙ ap (option_and_then (value_by [])) is

pub at_transition : (n : ℕ) (d e : Data) (ds : Items) → get (name_of Transitions) d ≡ Some (array ds) → get_item n ds ≡ Some e → value_by (path_inside (Transition n)) d ≡ Some e
at_transition n d e ds list is = ap (option_and_then (value_by (nth n ∷ []))) list ∙ ap (option_and_then (value_by [])) is

transitions_from : (d : Data) (whole : Items) → get (name_of Transitions) d ≡ Some (array whole) → (n : ℕ) (ds : Items) → ((i : ℕ) → get_item (n + i) whole ≡ get_item i ds) → Each (SpotIn d) (transitions_spot_in n ds)
transitions_from d whole list n no_items same = tt
transitions_from d whole list n (item e es) same =
    let first : n ≡ n + 0 = omega arith in
    either (SpotIn d) (within (Transition n) (transition_flaw e)) (transitions_spot_in (n + 1) es)
    (inside_at (Transition n) d e (transition_flaw e) (at_transition n d e whole list (ap (λ m. get_item m whole) first ∙ same 0)) (transition_in e))
    (transitions_from d whole list (n + 1) es (λ i. let on : n + 1 + i ≡ n + suc i = omega arith in ap (λ m. get_item m whole) on ∙ same (suc i)))

transitions_if : (d : Data) (o : Option (Option Items)) → optional_list (name_of Transitions) d ≡ o → Each (SpotIn d) (transitions_spot_if o d)
transitions_if d None is = own_in d (Some (absent_or_wrong Transitions d)) (absent_in Transitions d)
transitions_if d (Some None) is = tt
transitions_if d (Some (Some ds)) is = transitions_from d ds (if_array (get (name_of Transitions) d) ds is) 0 ds (λ i. let e : 0 + i ≡ i = omega arith in ap (λ m. get_item m ds) e)

transitions_in : (d : Data) → Each (SpotIn d) (transitions_spot d)
unfolding transitions_spot
transitions_in d = transitions_if d (optional_list (name_of Transitions) d) refl

-- ---- tasks

part_in : (m : Member) (d c : Data) (o : Option Data) → get (name_of Chunk) d ≡ Some c → object_at (name_of m) c ≡ o → Each (SpotIn d) (artifact_spot_in m o c)
part_in m d c None chunk is = inside_at (In Chunk) d c (Some (absent_or_wrong m c)) (by_member Chunk d c chunk) (absent_in m c)
part_in m d c (Some e) chunk is = inside_at (InChunk m) d e (artifact_flaw e) (in_chunk m d c e chunk (is_object (get (name_of m) c) e is)) (artifact_in e)

part_if : (m : Member) (d c : Data) (o : Option (Option Data)) → get (name_of Chunk) d ≡ Some c → optional_object (name_of m) c ≡ o → Each (SpotIn d) (artifact_spot_if m o c)
part_if m d c None chunk is = inside_at (In Chunk) d c (Some (absent_or_wrong m c)) (by_member Chunk d c chunk) (absent_in m c)
part_if m d c (Some None) chunk is = tt
part_if m d c (Some (Some e)) chunk is = inside_at (InChunk m) d e (artifact_flaw e) (in_chunk m d c e chunk (if_object (get (name_of m) c) e is)) (artifact_in e)

chunk_in : (d c : Data) → get (name_of Chunk) d ≡ Some c → Each (SpotIn d) (chunk_spot c)
unfolding chunk_spot
chunk_in d c chunk =
    let here = by_member Chunk d c chunk in
    let reader = object_at (name_of Reader) c in
    let processor = optional_object (name_of Processor) c in
    let writer = object_at (name_of Writer) c in
    let count = unless (is_some (item_count_at c)) ItemCount c in
    first_in (SpotIn d)
    (within (In Chunk) (unlisted chunk_names c) ∷ within (In Chunk) count ∷ artifact_spot_in Reader reader c ∷ artifact_spot_if Processor processor c ∷ artifact_spot_in Writer writer c ∷ []) (
      inside_at (In Chunk) d c (unlisted chunk_names c) here (unlisted_in chunk_names c),
      (
        inside_at (In Chunk) d c count here (unless_in (is_some (item_count_at c)) ItemCount c),
        (part_in Reader d c reader chunk refl, (part_if Processor d c processor chunk refl, (part_in Writer d c writer chunk refl, tt))),
      ),
    )

one_task_in : (d : Data) (batchlet chunk : Option Data) → optional_object (name_of Batchlet) d ≡ Some batchlet → optional_object (name_of Chunk) d ≡ Some chunk → Each (SpotIn d) (one_task_spot batchlet chunk)
one_task_in d None None b c = own_in d (Some NotOneTask) tt
one_task_in d (Some e) None b c = inside_at (In Batchlet) d e (artifact_flaw e) (by_member Batchlet d e (if_object (get (name_of Batchlet) d) e b)) (artifact_in e)
one_task_in d None (Some e) b c = chunk_in d e (if_object (get (name_of Chunk) d) e c)
one_task_in d (Some e) (Some f) b c = own_in d (Some NotOneTask) tt

task_of_in : (d : Data) (batchlet chunk : Option (Option Data)) → optional_object (name_of Batchlet) d ≡ batchlet → optional_object (name_of Chunk) d ≡ chunk → Each (SpotIn d) (task_spot_of batchlet chunk d)
task_of_in d None chunk b c = own_in d (Some (absent_or_wrong Batchlet d)) (absent_in Batchlet d)
task_of_in d (Some batchlet) None b c = own_in d (Some (absent_or_wrong Chunk d)) (absent_in Chunk d)
task_of_in d (Some batchlet) (Some chunk) b c = one_task_in d batchlet chunk b c

task_in : (d : Data) → Each (SpotIn d) (task_spot d)
unfolding task_spot
task_in d = task_of_in d (optional_object (name_of Batchlet) d) (optional_object (name_of Chunk) d) refl refl

-- ---- elements

step_in : (d : Data) → Each (SpotIn d) (step_spot d)
unfolding step_spot
step_in d =
    let partitions = unless (is_some (partitions_at d)) Partitions d in
    first_in (SpotIn d)
    (within Own (unlisted step_names d)
    ∷ within Own (needs optional_text Next d)
    ∷ transitions_spot d
    ∷ within Own (needs (λ name. count_or name 0) StartLimit d)
    ∷ within Own (needs (λ name. truth_or name false) AllowStartIfComplete d)
    ∷ within Own partitions
    ∷ task_spot d
    ∷ []) (
      own_unlisted step_names d,
      (
        own_needs optional_text Next d,
        (
          transitions_in d,
          (
            own_needs (λ name. count_or name 0) StartLimit d,
            (
              own_needs (λ name. truth_or name false) AllowStartIfComplete d,
              (own_in d partitions (unless_in (is_some (partitions_at d)) Partitions d), (task_in d, tt)),
            ),
          ),
        ),
      ),
    )

flow_in : (d : Data) → Each (SpotIn d) (flow_spot d)
unfolding flow_spot
flow_in d =
    first_in (SpotIn d) (within Own (unlisted flow_names d) ∷ within Own (needs optional_text Next d) ∷ transitions_spot d ∷ within Own (needs list_at Elements d) ∷ [])
    (own_unlisted flow_names d, (own_needs optional_text Next d, (transitions_in d, (own_needs list_at Elements d, tt))))

split_in : (d : Data) → Each (SpotIn d) (split_spot d)
unfolding split_spot
split_in d =
    first_in (SpotIn d) (within Own (unlisted split_names d) ∷ within Own (needs optional_text Next d) ∷ within Own (needs list_at Flows d) ∷ [])
    (own_unlisted split_names d, (own_needs optional_text Next d, (own_needs list_at Flows d, tt)))

decision_in : (d : Data) → Each (SpotIn d) (decision_spot d)
unfolding decision_spot
decision_in d =
    first_in (SpotIn d) (within Own (unlisted decision_names d) ∷ transitions_spot d ∷ within Own (needs text_at Ref d) ∷ [])
    (own_unlisted decision_names d, (transitions_in d, (own_needs text_at Ref d, tt)))

kind_in : (d : Data) → Each (SpotIn d) (kind_spot d)
unfolding kind_spot
kind_in d =
    one_of_five (SpotIn d) (is_text (name_of Kind) (codes "step") d) (is_text (name_of Kind) (codes "flow") d) (is_text (name_of Kind) (codes "split") d) (is_text (name_of Kind) (codes "decision") d)
    (step_spot d) (flow_spot d) (split_spot d) (decision_spot d) (within Own (Some (other_kind d)))
    (step_in d) (flow_in d) (split_in d) (decision_in d) (own_in d (Some (other_kind d)) (other_in d))

element_in : (d : Data) → Each (SpotIn d) (element_spot d)
unfolding element_spot
element_in d = first_in (SpotIn d) (kind_spot d ∷ within Own (needs text_at Id d) ∷ []) (kind_in d, (own_needs text_at Id d, tt))

pub spot_in : (in_split : Bool) (d : Data) → Each (SpotIn d) (spot_of in_split d)
spot_in true d = own_in d (split_flow_flaw d) (split_flow_in d)
spot_in false d = element_in d
