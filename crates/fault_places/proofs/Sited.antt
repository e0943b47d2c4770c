-- Each fault of a catalogue's text has a site, if it has a place, and the path of a site leads to a value.
use Rattle.std.proofs.Common.{◌≡◌, ◌∙◌, ◌⊎◌, ◌==◌, inl, inr, ℕ, suc, ◌+◌, ◌^◌, ◌<◌, ◌≤◌, List, [], ◌∷◌, ◌++◌, length, length-append, map, slice_get, Bool, true, false, cond, codes, IsSome, is_some, Option, Some, None, option_map, option_and_then, Result, Ok, Err, refl, sym, ap, subst, arith}
use Rattle.std.specs.Str.{is_utf8}
use Rattle.std.proofs.lemmas.Option.{none-some}
use Rattle.serde_json.specs.Data.{Data, Items, no_items, item, items_depth}
use Rattle.serde_json.specs.Find.{get, get_item, at}
use Rattle.serde_json.specs.Read.{read}
use Rattle.json_members.specs.Members.{data_of, has_only, text_at, list_at}
use Rattle.jsl_model.specs.declared.element.Element.{Element}
use Rattle.jsl_model.specs.declared.job.JobFault.{JobFault}
use Rattle.jsl_model.specs.declared.job.JobFault.TheVariants.{TextTooLong, Empty, TooDeep, TooMany, DuplicateId, NoSuchTarget, Loop, RestartNotJobLevel, OutOfMemory as NoMemory}
use Rattle.jsl_model.specs.Jobs.{JobTree}
use Rattle.jsl_model.specs.Faults.{job_fault}
use Rattle.jsl_json.specs.declared.fault.ReadFault.{ReadFault}
use Rattle.jsl_json.specs.declared.fault.ReadFault.TheVariants.{NotJson, NotACatalogue, BadElement, InJob, OutOfMemory}
use Rattle.jsl_json.specs.Tasks.{truth_or}
use Rattle.jsl_json.specs.Members.{OwnJobMembers, own_job_of, own_of, own_flow_of, job_names}
use Rattle.jsl_json.specs.Elements.{◌>>=◌, next_number, elements_at}
use Rattle.jsl_json.specs.Catalogues.{or_fault, unless_in, job_at, entry_fault, with_job, with_jobs, jobs_of, catalogue_in, catalogue_of}
use Rattle.catalogue_places.specs.declared.flaws.Flaw.{Flaw}
use Rattle.catalogue_places.specs.declared.flaws.Flaw.TheVariants.{NoObject, Unlisted, Missing, Wrong as WrongMember, NotOneTask}
use Rattle.catalogue_places.specs.declared.flaws.Spot.{Spot}
use Rattle.catalogue_places.specs.declared.flaws.Inside.TheVariants.{Own}
use Rattle.catalogue_places.specs.declared.member.Member.TheVariants.{Jobs, Elements}
use Rattle.catalogue_places.specs.Names.{name_of}
use Rattle.catalogue_places.specs.Flaws.{Agrees, within, catalogue_flaw, job_flaw, split_flow_flaw, element_spot}
use Rattle.element_numbers.specs.Numbering.{Key, nth, named, value_by, Numbered, OwnWrong, all_in}
use Rattle.element_numbers.specs.Ways.{bare}
use Rattle.element_levels.specs.Levels.{steps_left}
use Rattle.rule_spots.specs.declared.hits.Hit.{Hit}
use Rattle.rule_spots.specs.Hits.{hit_of}
use Rattle.std.specs.Option.{option_or}
use Rattle.fault_places.specs.Sites.{Site, spot_of, to_member, to_name, nth_name, site_of, spot_site, path_inside, job_of, job_path, element_of, element_path, element_site, element_or_job, item_path, hit_site, is_duplicate, hit_number, numbered_hit, element_hit, own_hit, first_hit, or_job, hit_or_job, number_from, deep_element, job_fault_site, job_fault_has_place, site_in, has_place}
use Rattle.fault_places.specs.SiteViews.{Few}
use Rattle.catalogue_places.proofs.Laws.{catalogue_agrees, job_agrees, split_flow_agrees, element_agrees}
use Rattle.element_numbers.proofs.Counting.{Outcome, Wrong, made, last, tested, all_count, number_found}
use Rattle.element_numbers.proofs.Leading.{is_array, element_leads}
use Rattle.fault_places.proofs.Flawed.{FlawIn, SpotIn, Each, either, catalogue_in as catalogue_flaw_in, job_in, spot_in}
use Rattle.fault_places.proofs.Ruled.{HitIn, each_then, hit_in}

-- ---- the path of a site leads to a value

then_by : (p q : List Key) (o : Option Data) → ((d : Data) → value_by (p ++ q) d ≡ option_and_then (value_by q) (value_by p d)) → option_and_then (value_by (p ++ q)) o ≡ option_and_then (value_by q) (option_and_then (value_by p) o)
then_by p q None rest = refl
then_by p q (Some d) rest = rest d

by-append : (p q : List Key) (d : Data) → value_by (p ++ q) d ≡ option_and_then (value_by q) (value_by p d)
by-append [] q d = refl
by-append (nth n ∷ p) q d = then_by p q (at n d) (λ e. by-append p q e)
by-append (named name ∷ p) q d = then_by p q (get name d) (λ e. by-append p q e)

onward : (p q : List Key) (d e : Data) (o : Option Data) → value_by p d ≡ Some e → value_by q e ≡ o → value_by (p ++ q) d ≡ o
onward p q d e o first second = by-append p q d ∙ ap (option_and_then (value_by q)) first ∙ second

-- the path of the site leads to a value
abbrev pub Leads : Data → Site → Type 0
Leads d site = (e : Data) × (value_by site.path d ≡ Some e)

site_of_leads : (path : List Key) (d e : Data) (flaw : Flaw) → value_by path d ≡ Some e → FlawIn e flaw → Leads d (site_of path e flaw)
site_of_leads path d e NoObject leads h = (e, leads)
site_of_leads path d e (Unlisted n) leads h =
    (h.1, onward path (to_name (nth_name n e)) d e (Some h.1) leads (ap (λ o. value_by (to_name o) e) h.2 ∙ ap (option_and_then (value_by [])) h.3))
site_of_leads path d e (Missing m) leads h = (e, leads)
site_of_leads path d e (WrongMember m) leads h = (h.0, onward path (to_member m ∷ []) d e (Some h.0) leads (ap (option_and_then (value_by [])) h.1))
site_of_leads path d e NotOneTask leads h = (e, leads)

each_map : {A B : Type 0} (P : A → Type 0) (Q : B → Type 0) (f : A → B) (o : Option A) → ((a : A) → P a → Q (f a)) → Each P o → Each Q (option_map f o)
each_map P Q f None h k = tt
each_map P Q f (Some a) h k = h a k

each_bound : {A B : Type 0} (P : A → Type 0) (Q : B → Type 0) (f : A → Option B) (o : Option A) → ((a : A) → P a → Each Q (f a)) → Each P o → Each Q (option_and_then f o)
each_bound P Q f None h k = tt
each_bound P Q f (Some a) h k = h a k

job_from_list : (n : ℕ) (d job : Data) (o : Option Items) → list_at (name_of Jobs) d ≡ o → option_and_then (get_item n) o ≡ Some job → value_by (job_path n) d ≡ Some job
job_from_list n d job None is found = absurd (none-some job found)
job_from_list n d job (Some ds) is found =
    ap (option_and_then (value_by (nth n ∷ []))) (is_array (get (name_of Jobs) d) ds is) ∙ ap (option_and_then (value_by [])) found

job_leads : (n : ℕ) (d job : Data) → job_of n d ≡ Some job → value_by (job_path n) d ≡ Some job
job_leads n d job found = job_from_list n d job (list_at (name_of Jobs) d) refl found

element_from_list : (n : ℕ) (job : Data) (e : Numbered) (o : Option Items) → list_at (name_of Elements) job ≡ o → option_and_then (λ es. slice_get (all_in false 0 es) n) o ≡ Some e → value_by (to_member Elements ∷ e.path) job ≡ Some e.value
element_from_list n job e None is found = absurd (none-some e found)
element_from_list n job e (Some ds) is found =
    ap (option_and_then (value_by e.path)) (is_array (get (name_of Elements) job) ds is) ∙ element_leads ds n e found

flawed_object : (path : List Key) (d e : Data) (o : Option Flaw) → value_by path d ≡ Some e → Each (FlawIn e) o → Each (Leads d) (option_map (site_of path e) o)
flawed_object path d e o leads h = each_map (FlawIn e) (Leads d) (site_of path e) o (λ flaw k. site_of_leads path d e flaw leads k) h

element_site_leads : (n : ℕ) (d : Data) (e : Numbered) → value_by (element_path n e) d ≡ Some e.value → Each (Leads d) (element_site n e)
element_site_leads n d e leads =
    each_bound (SpotIn e.value) (Leads d) (spot_site (element_path n e) e.value) (spot_of e.in_split e.value)
    (λ spot k. subst (λ o. Each (Leads d) (option_map (λ object. site_of (element_path n e ++ path_inside spot.inside) object spot.flaw) o)) (sym k.1)
    (site_of_leads (element_path n e ++ path_inside spot.inside) d k.0 spot.flaw (onward (element_path n e) (path_inside spot.inside) d e.value (Some k.0) leads k.1) k.2))
    (spot_in e.in_split e.value)

-- the element is one of the job
abbrev IsOf : Data → Numbered → Type 0
IsOf job e = (n : ℕ) × (element_of n job ≡ Some e)

element_or_job_leads : (n : ℕ) (d job : Data) (o : Option Numbered) → job_of n d ≡ Some job → Each (IsOf job) o → Leads d (element_or_job n o)
element_or_job_leads n d job None is found = (job, job_leads n d job is)
element_or_job_leads n d job (Some e) is found = (
  e.value,
  onward (job_path n) (to_member Elements ∷ e.path) d job (Some e.value) (job_leads n d job is)
      (element_from_list found.0 job e (list_at (name_of Elements) job) refl found.1),
)

numbered_is_of : (number : ℕ) (job : Data) (o : Option Numbered) → element_of number job ≡ o → Each (IsOf job) o
numbered_is_of number job None is = tt
numbered_is_of number job (Some e) is = (number, is)

deep_is_of : (job : Data) → Each (IsOf job) (option_and_then deep_element (list_at (name_of Elements) job))
deep_is_of job =
    each_then (IsOf job) deep_element (list_at (name_of Elements) job)
    (λ elements listed. each_then (IsOf job) (slice_get (all_in false 0 elements)) (number_from (λ (left : ℕ). left == 0) 0 (map (steps_left 33) (all_in false 0 elements)))
    (λ number i. numbered_is_of number job (slice_get (all_in false 0 elements) number) (ap (option_and_then (λ es. slice_get (all_in false 0 es) number)) listed)))

hit_leads : (path : List Key) (d e : Data) (hit : Hit) → value_by path d ≡ Some e → HitIn e hit → Leads d (hit_site path hit)
hit_leads path d e hit leads h =
    let item = onward path (item_path hit.item) d e (Some h.0) leads h.1 in
    let object = onward (path ++ item_path hit.item) (path_inside hit.part.inside) d h.0 (Some h.2.0) item h.2.1 in (
      h.2.2.0,
      onward ((path ++ item_path hit.item) ++ path_inside hit.part.inside) (to_member hit.part.member ∷ []) d h.2.0 (Some h.2.2.0) object (ap (option_and_then (value_by [])) h.2.2.1),
    )

own_hit_leads : (n : ℕ) (d job : Data) (fault : JobFault) (elements : Items) → job_of n d ≡ Some job → Each (Leads d) (own_hit n fault elements job)
own_hit_leads n d job fault elements is =
    each_map (HitIn job) (Leads d) (hit_site (job_path n)) (hit_of fault elements job) (λ hit h. hit_leads (job_path n) d job hit (job_leads n d job is) h) (hit_in fault elements job)

numbered_hit_leads : (n : ℕ) (d : Data) (e : Numbered) (fault : JobFault) (elements : Items) → value_by (element_path n e) d ≡ Some e.value → Each (Leads d) (numbered_hit n fault elements e)
numbered_hit_leads n d e fault elements leads =
    each_map (HitIn e.value) (Leads d) (hit_site (element_path n e)) (hit_of fault elements e.value) (λ hit h. hit_leads (element_path n e) d e.value hit leads h)
    (hit_in fault elements e.value)

element_hit_leads : (n : ℕ) (d job : Data) (fault : JobFault) (elements : Items) → job_of n d ≡ Some job → list_at (name_of Elements) job ≡ Some elements → Each (Leads d) (element_hit n fault elements)
element_hit_leads n d job fault elements is listed =
    each_then (Leads d) (λ number. option_and_then (numbered_hit n fault elements) (slice_get (all_in false 0 elements) number)) (hit_number fault elements (map bare (all_in false 0 elements)))
    (λ number i. each_then (Leads d) (numbered_hit n fault elements) (slice_get (all_in false 0 elements) number)
    (λ e found. numbered_hit_leads n d e fault elements
    (onward (job_path n) (to_member Elements ∷ e.path) d job (Some e.value) (job_leads n d job is)
    (element_from_list number job e (Some elements) listed found))))

either_order : (P : Site → Type 0) (b : Bool) (f g : Option Site) → Each P f → Each P g → Each P (cond b (option_or f g) (option_or g f))
either_order P true f g h k = either P f g h k
either_order P false f g h k = either P g f k h

or_job_leads : (n : ℕ) (d job : Data) (o : Option Site) → job_of n d ≡ Some job → Each (Leads d) o → Leads d (or_job n o)
or_job_leads n d job None is h = (job, job_leads n d job is)
or_job_leads n d job (Some site) is h = h

hit_or_job_leads : (n : ℕ) (d job : Data) (fault : JobFault) → job_of n d ≡ Some job → Leads d (hit_or_job n fault job)
hit_or_job_leads n d job fault is =
    or_job_leads n d job (option_and_then (first_hit n fault job) (list_at (name_of Elements) job)) is
    (each_then (Leads d) (first_hit n fault job) (list_at (name_of Elements) job)
    (λ elements listed. either_order (Leads d) (is_duplicate fault) (element_hit n fault elements) (own_hit n fault elements job)
    (element_hit_leads n d job fault elements is listed) (own_hit_leads n d job fault elements is)))

job_fault_leads : (n : ℕ) (d job : Data) (fault : JobFault) → job_of n d ≡ Some job → Each (Leads d) (job_fault_site n fault job)
job_fault_leads n d job TextTooLong is = hit_or_job_leads n d job TextTooLong is
job_fault_leads n d job Empty is = hit_or_job_leads n d job Empty is
job_fault_leads n d job TooDeep is = element_or_job_leads n d job (option_and_then deep_element (list_at (name_of Elements) job)) is (deep_is_of job)
job_fault_leads n d job TooMany is = element_or_job_leads n d job (element_of 1000 job) is (numbered_is_of 1000 job (element_of 1000 job) refl)
job_fault_leads n d job DuplicateId is = hit_or_job_leads n d job DuplicateId is
job_fault_leads n d job NoSuchTarget is = hit_or_job_leads n d job NoSuchTarget is
job_fault_leads n d job Loop is = hit_or_job_leads n d job Loop is
job_fault_leads n d job RestartNotJobLevel is = hit_or_job_leads n d job RestartNotJobLevel is
job_fault_leads n d job NoMemory is = tt

pub site_leads : (fault : ReadFault) (d : Data) → Each (Leads d) (site_in fault d)
site_leads NotJson d = tt
site_leads NotACatalogue d = flawed_object [] d d (catalogue_flaw d) refl (catalogue_flaw_in d)
site_leads (BadElement n None) d =
    each_then (Leads d) (λ job. option_map (site_of (job_path n) job) (job_flaw job)) (job_of n d)
    (λ job is. flawed_object (job_path n) d job (job_flaw job) (job_leads n d job is) (job_in job))
site_leads (BadElement n (Some m)) d =
    each_then (Leads d) (λ job. option_and_then (element_site n) (element_of m job)) (job_of n d)
    (λ job is. each_then (Leads d) (element_site n) (element_of m job)
    (λ e found. element_site_leads n d e
    (onward (job_path n) (to_member Elements ∷ e.path) d job (Some e.value) (job_leads n d job is)
    (element_from_list m job e (list_at (name_of Elements) job) refl found))))
site_leads (InJob n fault) d =
    each_then (Leads d) (job_fault_site n fault) (job_of n d) (λ job is. job_fault_leads n d job fault is)
site_leads OutOfMemory d = tt

-- ---- what has no reading has a flaw

flawed : {F A : Type 0} (f : Option F) (o : Option A) → o ≡ None → Agrees f o → IsSome f
flawed None None is h = absurd h
flawed None (Some a) is h = absurd (none-some a (sym is))
flawed (Some x) o is h = refl

within_some : (f : Option Flaw) → IsSome f → IsSome (within Own f)
within_some None h = h
within_some (Some f) h = refl

spotted : (in_split : Bool) (d : Data) → OwnWrong in_split d → IsSome (spot_of in_split d)
spotted true d wrong = within_some (split_flow_flaw d) (flawed (split_flow_flaw d) (own_flow_of d) wrong (split_flow_agrees d))
spotted false d wrong = flawed (element_spot d) (own_of d) wrong (element_agrees d)

-- ---- each fault has a site, if it has a place

bind_fails : {A B : Type 0} (r : Result A ReadFault) (f : A → Result B ReadFault) (fault : ReadFault) → (r >>= f) ≡ Err fault → (r ≡ Err fault) ⊎ ((a : A) × (r ≡ Ok a) × (f a ≡ Err fault))
bind_fails (Ok a) f fault h = inr (a, refl, h)
bind_fails (Err other) f fault h = let e : other ≡ fault = cc in inl (ap (λ (x : ReadFault). Err x) e)

bind_gives : {A B : Type 0} (r : Result A ReadFault) (f : A → Result B ReadFault) (b : B) → (r >>= f) ≡ Ok b → (a : A) × (r ≡ Ok a) × (f a ≡ Ok b)
bind_gives (Ok a) f b h = (a, refl, h)
bind_gives (Err other) f b h = cc

unless_fails : {A : Type 0} (n : ℕ) (o : Option JobFault) (a : A) (fault : ReadFault) → unless_in n o a ≡ Err fault → (x : JobFault) × (fault ≡ InJob n x)
unless_fails n None a fault h = cc
unless_fails n (Some x) a fault h = let e : fault ≡ InJob n x = cc in (x, e)

unless_gives : {A : Type 0} (n : ℕ) (o : Option JobFault) (a b : A) → unless_in n o a ≡ Ok b → a ≡ b
unless_gives n None a b h = cc
unless_gives n (Some x) a b h = cc

-- the fault is that of the job of this number
abbrev FromJob : ℕ → Data → ReadFault → Type 0
FromJob n job fault =
    ((fault ≡ BadElement n None) × (own_job_of job ≡ None))
    ⊎ (((own : OwnJobMembers) × (own_job_of job ≡ Some own) × Wrong n 0 (all_in false 0 own.elements) fault)
    ⊎ ((x : JobFault) × (fault ≡ InJob n x)))

outcome_wrong : (n : ℕ) (ds : Items) (fault : ReadFault) → elements_at n ds 0 ≡ Err fault → Wrong n 0 (all_in false 0 ds) fault
outcome_wrong n ds fault is =
    let bound : items_depth ds ≤ items_depth ds = omega arith in
    subst (Outcome n 0 (all_in false 0 ds)) is (all_count n (items_depth ds) ds bound 0 0).0

job_fails : (n : ℕ) (job : Data) (o : Option OwnJobMembers) (fault : ReadFault) (f : OwnJobMembers → List Element × ℕ → JobTree) → own_job_of job ≡ o
    → (or_fault o (BadElement n None) >>= λ own. elements_at n own.elements 0 >>= λ es. Ok (f own es)) ≡ Err fault → FromJob n job fault
job_fails n job None fault f is h = let e : fault ≡ BadElement n None = cc in inl (e, is)
job_fails n job (Some own) fault f is h =
    elim (bind_fails (elements_at n own.elements 0) (λ es. Ok (f own es)) fault h) [
      | inl e ↦ inr (inl (own, is, outcome_wrong n own.elements fault e))
      | inr r ↦ let never : ⊥ = cc (r.2) in absurd never
    ]

job_at_fails : (n : ℕ) (job : Data) (fault : ReadFault) → job_at n job ≡ Err fault → FromJob n job fault
unfolding job_at
job_at_fails n job fault h =
    job_fails n job (own_job_of job) fault (λ own es. record { id = own.id; restartable = own.restartable; elements = es.0 }) refl h

with_job_fails : (held : List JobTree) (job : Data) (fault : ReadFault) → with_job held job ≡ Err fault → FromJob (length held) job fault
unfolding with_job
with_job_fails held job fault h =
    elim (bind_fails (job_at (length held) job) _ fault h) [
      | inl e ↦ job_at_fails (length held) job fault e
      | inr r ↦ elim (bind_fails (unless_in (length held) (job_fault r.0) r.0) _ fault r.2) [
        | inl e ↦ inr (inr (unless_fails (length held) (job_fault r.0) r.0 fault e))
        | inr s ↦ inr (inr (unless_fails (length held) (entry_fault held s.0) (held ++ s.0 ∷ []) fault s.2))
      ]
    ]

with_job_gives : (held more : List JobTree) (job : Data) → with_job held job ≡ Ok more → length more ≡ length held + 1
unfolding with_job
with_job_gives held more job h =
    let r = bind_gives (job_at (length held) job) _ more h in
    let s = bind_gives (unless_in (length held) (job_fault r.0) r.0) _ more r.2 in
    let e = unless_gives (length held) (entry_fault held s.0) (held ++ s.0 ∷ []) more s.2 in
    sym (ap length e) ∙ length-append held (s.0 ∷ [])

with_jobs_fails : (held : List JobTree) (ds : Items) (fault : ReadFault) → with_jobs held ds ≡ Err fault → (i : ℕ) × (job : Data) × (get_item i ds ≡ Some job) × FromJob (length held + i) job fault
with_jobs_fails held no_items fault h = cc
with_jobs_fails held (item d ds) fault h =
    elim (bind_fails (with_job held d) (λ more. with_jobs more ds) fault h) [
      | inl e ↦ (let same : length held ≡ length held + 0 = omega arith in (0, d, refl, subst (λ n. FromJob n d fault) same (with_job_fails held d fault e)))
      | inr r ↦ (let rest = with_jobs_fails r.0 ds fault r.2 in
          let longer : length r.0 ≡ length held + 1 = with_job_gives held r.0 d r.1 in
          let same : length r.0 + rest.0 ≡ length held + suc rest.0 = omega arith in
          (suc rest.0, rest.1, rest.2, subst (λ n. FromJob n rest.1 fault) same rest.3))
    ]

jobs_list : (d : Data) (jobs : Items) → jobs_of d ≡ Some jobs → list_at (codes "jobs") d ≡ Some jobs
unfolding jobs_of
jobs_list d jobs is =
    let P : Items → Type 0 = λ js. list_at (codes "jobs") d ≡ Some js in
    tested P (has_only (codes "jobs" ∷ []) d) (list_at (codes "jobs") d) jobs is (λ listed found. found)

elements_list : (job : Data) (own : OwnJobMembers) → own_job_of job ≡ Some own → list_at (codes "elements") job ≡ Some own.elements
unfolding own_job_of
elements_list job own is =
    let P : OwnJobMembers → Type 0 = λ o. list_at (codes "elements") job ≡ Some o.elements in
    tested P (has_only job_names job) _ own is
    (λ listed i0. made P (text_at (codes "id") job) _ own i0
    (λ id e1 i1. made P (truth_or (codes "restartable") true job) _ own i1
    (λ restartable e2 i2. made P (list_at (codes "elements") job) _ own i2 (λ elements e3 i3. last P _ own i3 e3))))

numbered_so : (job n : ℕ) (es : List Numbered) (fault : ReadFault) → Wrong job n es fault → (m : ℕ) × (fault ≡ BadElement job (Some m))
numbered_so job n [] fault h = absurd h
numbered_so job n (e ∷ es) fault (inl h) = (n, h.1)
numbered_so job n (e ∷ es) fault (inr h) = numbered_so job (next_number n) es fault h

mapped : {A B : Type 0} (f : A → B) (o : Option A) → is_some o ≡ true → is_some (option_map f o) ≡ true
mapped f None h = h
mapped f (Some a) h = refl

job_fault_sited : (n : ℕ) (job : Data) (fault : JobFault) → is_some (job_fault_site n fault job) ≡ job_fault_has_place fault
job_fault_sited n job TextTooLong = refl
job_fault_sited n job Empty = refl
job_fault_sited n job TooDeep = refl
job_fault_sited n job TooMany = refl
job_fault_sited n job DuplicateId = refl
job_fault_sited n job NoSuchTarget = refl
job_fault_sited n job Loop = refl
job_fault_sited n job RestartNotJobLevel = refl
job_fault_sited n job NoMemory = refl

object_sited : (path : List Key) (d : Data) (spot : Spot) (o : Option Data) (e : Data) → o ≡ Some e → is_some (option_map (λ object. site_of (path ++ path_inside spot.inside) object spot.flaw) o) ≡ true
object_sited path d spot None e is = absurd (none-some e is)
object_sited path d spot (Some x) e is = refl

bound_spot : (path : List Key) (d : Data) (o : Option Spot) → Each (SpotIn d) o → is_some o ≡ true → is_some (option_and_then (spot_site path d) o) ≡ true
bound_spot path d None each h = h
bound_spot path d (Some spot) each h = object_sited path d spot (value_by (path_inside spot.inside) d) each.0 each.1

-- a fault of a job has a site, if it has a place
job_sited : (d job : Data) (n : ℕ) (fault : ReadFault) → Few fault d → job_of n d ≡ Some job → FromJob n job fault → is_some (site_in fault d) ≡ has_place fault
job_sited d job n fault few is (inl h) =
    let there : is_some (site_in (BadElement n None) d) ≡ true =
    ap (λ (o : Option Data). is_some (option_and_then (λ j. option_map (site_of (job_path n) j) (job_flaw j)) o)) is
    ∙ mapped (site_of (job_path n) job) (job_flaw job) (flawed (job_flaw job) (own_job_of job) h.1 (job_agrees job)) in
    subst (λ f. is_some (site_in f d) ≡ has_place f) (sym h.0) there
job_sited d job n fault few is (inr (inl h)) =
    let es = all_in false 0 h.0.elements in
    let listed = elements_list job h.0 h.1 in
    let so = numbered_so n 0 es fault h.2 in
    let few_here : Few (BadElement n (Some so.0)) d = subst (λ f. Few f d) so.1 few in
    let bound : length es < 2 ^ 64 = few_here job is h.0.elements listed in
    let found = number_found n 0 es fault h.2 (omega arith) in
    let there : is_some (site_in (BadElement n (Some found.0)) d) ≡ true =
    ap (λ (o : Option Data). is_some (option_and_then (λ j. option_and_then (element_site n) (element_of found.0 j)) o)) is
    ∙ ap (λ (o : Option Items). is_some (option_and_then (element_site n) (option_and_then (λ xs. slice_get (all_in false 0 xs) found.0) o))) listed
    ∙ ap (λ (o : Option Numbered). is_some (option_and_then (element_site n) o)) found.2
    ∙ bound_spot (element_path n found.1) found.1.value (spot_of found.1.in_split found.1.value) (spot_in found.1.in_split found.1.value) (spotted found.1.in_split found.1.value found.3) in
    let from_0 : 0 + found.0 ≡ found.0 = omega arith in
    let number : fault ≡ BadElement n (Some found.0) = found.4 ∙ ap (λ m. BadElement n (Some m)) from_0 in
    subst (λ f. is_some (site_in f d) ≡ has_place f) (sym number) there
job_sited d job n fault few is (inr (inr h)) =
    let there : is_some (site_in (InJob n h.0) d) ≡ has_place (InJob n h.0) =
    ap (λ (o : Option Data). is_some (option_and_then (job_fault_site n h.0) o)) is ∙ job_fault_sited n job h.0 in
    subst (λ f. is_some (site_in f d) ≡ has_place f) (sym h.1) there

catalogue_sited : (d : Data) (fault : ReadFault) (o : Option Items) → Few fault d → jobs_of d ≡ o → (or_fault o NotACatalogue >>= λ jobs. with_jobs [] jobs) ≡ Err fault → is_some (site_in fault d) ≡ has_place fault
catalogue_sited d fault None few is h =
    let no : NotACatalogue ≡ fault = cc in
    subst (λ f. is_some (site_in f d) ≡ has_place f) no (mapped (site_of [] d) (catalogue_flaw d) (flawed (catalogue_flaw d) (jobs_of d) is (catalogue_agrees d)))
catalogue_sited d fault (Some jobs) few is h =
    let r = with_jobs_fails [] jobs fault h in
    let number : 0 + r.0 ≡ r.0 = omega arith in
    job_sited d r.1 r.0 fault few (ap (option_and_then (get_item r.0)) (jobs_list d jobs is) ∙ r.2) (subst (λ n. FromJob n r.1 fault) number r.3)

value_sited : (d : Data) (fault : ReadFault) → Few fault d → catalogue_in d ≡ Err fault → is_some (site_in fault d) ≡ has_place fault
unfolding catalogue_in
value_sited d fault few h = catalogue_sited d fault (jobs_of d) few refl h

text_sited : (b : Bool) (d : Data) (fault : ReadFault) → Few fault d → (or_fault (cond b (Some d) None) NotJson >>= catalogue_in) ≡ Err fault → is_some (site_in fault d) ≡ has_place fault
text_sited true d fault few h = value_sited d fault few h
text_sited false d fault few h = let no : NotJson ≡ fault = cc in subst (λ f. is_some (site_in f d) ≡ has_place f) no refl

pub sited : (text : List ℕ) (d : Data) (fault : ReadFault) → read text ≡ Some d → Few fault d → catalogue_of text ≡ Err fault → is_some (site_in fault d) ≡ has_place fault
unfolding catalogue_of data_of
sited text d fault is few h =
    text_sited (is_utf8 text) d fault few (ap (λ (o : Option Data). or_fault (cond (is_utf8 text) o None) NotJson >>= catalogue_in) (sym is) ∙ h)

no_text : (b : Bool) (fault : ReadFault) → (or_fault (cond b None None) NotJson >>= catalogue_in) ≡ Err fault → NotJson ≡ fault
no_text true fault h = cc
no_text false fault h = cc

-- a text that is no JSON has no place
pub not_json : (text : List ℕ) (fault : ReadFault) → read text ≡ None → catalogue_of text ≡ Err fault → false ≡ has_place fault
unfolding catalogue_of data_of
not_json text fault is h =
    ap has_place (no_text (is_utf8 text) fault (ap (λ (o : Option Data). or_fault (cond (is_utf8 text) o None) NotJson >>= catalogue_in) (sym is) ∙ h))
