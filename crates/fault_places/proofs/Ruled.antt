-- The member of a hit is in what has the hit.
use Rattle.std.proofs.Common.{◌≡◌, ◌∙◌, ℕ, suc, ◌+◌, List, [], ◌∷◌, Bool, true, false, is_some, Option, Some, None, option_map, option_and_then, refl, sym, ap, arith}
use Rattle.serde_json.specs.Data.{Data, null, boolean, number, string, array, object, Items, no_items, item}
use Rattle.serde_json.specs.Find.{get, get_item, as_str, as_array}
use Rattle.json_members.specs.Members.{text_at, list_at, object_at, as_object_value}
use Rattle.jsl_model.specs.declared.job.JobFault.{JobFault}
use Rattle.jsl_model.specs.declared.job.JobFault.TheVariants.{TextTooLong, Empty, TooDeep, TooMany, DuplicateId, NoSuchTarget, Loop, RestartNotJobLevel, OutOfMemory}
use Rattle.catalogue_places.specs.declared.flaws.Inside.{Inside}
use Rattle.catalogue_places.specs.declared.flaws.Inside.TheVariants.{Own, In, InChunk, Transition}
use Rattle.catalogue_places.specs.declared.member.Member.{Member}
use Rattle.catalogue_places.specs.declared.member.Member.TheVariants.{Id, Next, Elements, Flows, Batchlet, Chunk, Transitions, Ref, Reader, Processor, Writer, On, To, ExitStatus, Restart}
use Rattle.catalogue_places.specs.Names.{name_of}
use Rattle.element_numbers.specs.Numbering.{nth, value_by}
use Rattle.element_numbers.proofs.Leading.{is_array}
use Rattle.rule_spots.specs.declared.hits.Hit.{Hit}
use Rattle.rule_spots.specs.declared.texts.Part.{Part}
use Rattle.rule_spots.specs.Texts.{part_if, text_part, artifact_text, part_texts, chunk_texts, transition_texts, transitions_from, transitions_texts, texts_part}
use Rattle.rule_spots.specs.Hits.{own_hit, item_hit, is_long, is_empty_name, is_no_target, is_no_restart, is_empty_list, list_part, empty_part, id_part, target_hit_from, target_hit, hit_of}
use Rattle.fault_places.specs.Sites.{path_inside, item_path}
use Rattle.fault_places.proofs.Flawed.{Each, either, is_object, by_member, in_chunk, at_transition}

-- the object has the member
abbrev pub Has : Member → Data → Type 0
Has m d = (e : Data) × (get (name_of m) d ≡ Some e)

-- the object of the part is in the element, and has the member
abbrev pub PartIn : Data → Part → Type 0
PartIn d part = (e : Data) × (value_by (path_inside part.inside) d ≡ Some e) × Has part.member e

-- the item of the hit is in the element, and its part is in the item
abbrev pub HitIn : Data → Hit → Type 0
HitIn d hit = (e : Data) × (value_by (item_path hit.item) d ≡ Some e) × PartIn e hit.part

pub each_then : {A B : Type 0} (Q : B → Type 0) (f : A → Option B) (o : Option A) → ((a : A) → o ≡ Some a → Each Q (f a)) → Each Q (option_and_then f o)
each_then Q f None h = tt
each_then Q f (Some a) h = h a refl

-- ---- parts

given : (b : Bool) (i : Inside) (m : Member) (d e : Data) → value_by (path_inside i) d ≡ Some e → (b ≡ true → Has m e) → Each (PartIn d) (part_if b i m)
given true i m d e leads has = (e, leads, has refl)
given false i m d e leads has = tt

-- a member from which something is read is there
read_from : {A : Type 0} (kind : Data → Option A) (m : Member) (e : Data) (a : A) (o : Option Data) → get (name_of m) e ≡ o → option_and_then kind o ≡ Some a → Has m e
read_from kind m e a None is h = cc
read_from kind m e a (Some v) is h = (v, is)

text_in : (wrong : Member → List ℕ → Bool) (i : Inside) (m : Member) (d e : Data) → value_by (path_inside i) d ≡ Some e → Each (PartIn d) (text_part wrong i m e)
text_in wrong i m d e leads =
    each_then (PartIn d) (λ text. part_if (wrong m text) i m) (text_at (name_of m) e)
    (λ text is. given (wrong m text) i m d e leads (λ t. read_from as_str m e text (get (name_of m) e) refl is))

artifact_in : (wrong : Member → List ℕ → Bool) (i : Inside) (m : Member) (d e : Data) → ((a : Data) → get (name_of m) e ≡ Some a → value_by (path_inside i) d ≡ Some a) → Each (PartIn d) (artifact_text wrong i m e)
artifact_in wrong i m d e leads =
    each_then (PartIn d) (text_part wrong i Ref) (object_at (name_of m) e)
    (λ a is. text_in wrong i Ref d a (leads a (is_object (get (name_of m) e) a is)))

chunk_in : (wrong : Member → List ℕ → Bool) (d : Data) → Each (PartIn d) (chunk_texts wrong d)
chunk_in wrong d =
    each_then (PartIn d) (part_texts wrong) (object_at (name_of Chunk) d)
    (λ c is.
    let chunk = is_object (get (name_of Chunk) d) c is in
    either (PartIn d) (artifact_text wrong (InChunk Reader) Reader c) _ (artifact_in wrong (InChunk Reader) Reader d c (λ a. in_chunk Reader d c a chunk))
    (either (PartIn d) (artifact_text wrong (InChunk Processor) Processor c) _ (artifact_in wrong (InChunk Processor) Processor d c (λ a. in_chunk Processor d c a chunk))
    (artifact_in wrong (InChunk Writer) Writer d c (λ a. in_chunk Writer d c a chunk))))

transition_in : (wrong : Member → List ℕ → Bool) (n : ℕ) (d e : Data) → value_by (path_inside (Transition n)) d ≡ Some e → Each (PartIn d) (transition_texts wrong n e)
transition_in wrong n d e leads =
    either (PartIn d) (text_part wrong (Transition n) On e) _ (text_in wrong (Transition n) On d e leads)
    (either (PartIn d) (text_part wrong (Transition n) To e) _ (text_in wrong (Transition n) To d e leads)
    (either (PartIn d) (text_part wrong (Transition n) ExitStatus e) _ (text_in wrong (Transition n) ExitStatus d e leads)
    (text_in wrong (Transition n) Restart d e leads)))

transitions_in_from : (wrong : Member → List ℕ → Bool) (d : Data) (whole : Items) → get (name_of Transitions) d ≡ Some (array whole) → (n : ℕ) (ds : Items) → ((i : ℕ) → get_item (n + i) whole ≡ get_item i ds) → Each (PartIn d) (transitions_from wrong n ds)
transitions_in_from wrong d whole list n no_items same = tt
transitions_in_from wrong d whole list n (item e es) same =
    let first : n ≡ n + 0 = omega arith in
    either (PartIn d) (transition_texts wrong n e) (transitions_from wrong (n + 1) es)
    (transition_in wrong n d e (at_transition n d e whole list (ap (λ m. get_item m whole) first ∙ same 0)))
    (transitions_in_from wrong d whole list (n + 1) es (λ i. let on : n + 1 + i ≡ n + suc i = omega arith in ap (λ m. get_item m whole) on ∙ same (suc i)))

transitions_in : (wrong : Member → List ℕ → Bool) (d : Data) → Each (PartIn d) (transitions_texts wrong d)
transitions_in wrong d =
    each_then (PartIn d) (transitions_from wrong 0) (list_at (name_of Transitions) d)
    (λ ds is. transitions_in_from wrong d ds (is_array (get (name_of Transitions) d) ds is) 0 ds (λ i. let e : 0 + i ≡ i = omega arith in ap (λ m. get_item m ds) e))

texts_in : (wrong : Member → List ℕ → Bool) (d : Data) → Each (PartIn d) (texts_part wrong d)
texts_in wrong d =
    either (PartIn d) (text_part wrong Own Id d) _ (text_in wrong Own Id d d refl)
    (either (PartIn d) (text_part wrong Own Next d) _ (text_in wrong Own Next d d refl)
    (either (PartIn d) (transitions_texts wrong d) _ (transitions_in wrong d)
    (either (PartIn d) (artifact_text wrong (In Batchlet) Batchlet d) _ (artifact_in wrong (In Batchlet) Batchlet d d (λ a. by_member Batchlet d a))
    (either (PartIn d) (chunk_texts wrong d) _ (chunk_in wrong d) (text_in wrong Own Ref d d refl)))))

is_there : {A : Type 0} (kind : Data → Option A) (m : Member) (d : Data) (o : Option A) → option_and_then kind (get (name_of m) d) ≡ o → is_some o ≡ true → Has m d
is_there kind m d None is h = cc
is_there kind m d (Some a) is h = read_from kind m d a (get (name_of m) d) refl is

no_item : (m : Member) (d : Data) (o : Option Items) → list_at (name_of m) d ≡ o → is_empty_list o ≡ true → Has m d
no_item m d None is h = cc
no_item m d (Some ds) is h = read_from as_array m d ds (get (name_of m) d) refl is

list_in : (m : Member) (d : Data) → Each (PartIn d) (list_part m d)
list_in m d = given (is_empty_list (list_at (name_of m) d)) Own m d d refl (no_item m d (list_at (name_of m) d) refl)

id_in : (d : Data) → Each (PartIn d) (id_part d)
id_in d = given (is_some (text_at (name_of Id) d)) Own Id d d refl (is_there as_str Id d (text_at (name_of Id) d) refl)

empty_in : (d : Data) → Each (PartIn d) (empty_part d)
empty_in d =
    either (PartIn d) (texts_part is_empty_name d) _ (texts_in is_empty_name d) (either (PartIn d) (list_part Elements d) _ (list_in Elements d) (list_in Flows d))

-- ---- hits

own_in : (d : Data) (o : Option Part) → Each (PartIn d) o → Each (HitIn d) (own_hit o)
own_in d None h = tt
own_in d (Some part) h = (d, refl, h)

item_in : (n : ℕ) (d e : Data) (o : Option Part) → value_by (item_path (Some n)) d ≡ Some e → Each (PartIn e) o → Each (HitIn d) (item_hit n o)
item_in n d e None leads h = tt
item_in n d e (Some part) leads h = (e, leads, h)

at_item : (n : ℕ) (d e : Data) (ds : Items) → get (name_of Elements) d ≡ Some (array ds) → get_item n ds ≡ Some e → value_by (item_path (Some n)) d ≡ Some e
at_item n d e ds list is = ap (option_and_then (value_by (nth n ∷ []))) list ∙ ap (option_and_then (value_by [])) is

targets_from : (d : Data) (whole : Items) → get (name_of Elements) d ≡ Some (array whole) → (n : ℕ) (ds : Items) → ((i : ℕ) → get_item (n + i) whole ≡ get_item i ds) → Each (HitIn d) (target_hit_from whole n ds)
targets_from d whole list n no_items same = tt
targets_from d whole list n (item e es) same =
    let first : n ≡ n + 0 = omega arith in
    either (HitIn d) (item_hit n (texts_part (is_no_target whole) e)) (target_hit_from whole (n + 1) es)
    (item_in n d e (texts_part (is_no_target whole) e) (at_item n d e whole list (ap (λ m. get_item m whole) first ∙ same 0)) (texts_in (is_no_target whole) e))
    (targets_from d whole list (n + 1) es (λ i. let on : n + 1 + i ≡ n + suc i = omega arith in ap (λ m. get_item m whole) on ∙ same (suc i)))

targets_in : (d : Data) → Each (HitIn d) (target_hit d)
targets_in d =
    each_then (HitIn d) (λ list. target_hit_from list 0 list) (list_at (name_of Elements) d)
    (λ ds is. targets_from d ds (is_array (get (name_of Elements) d) ds is) 0 ds (λ i. let e : 0 + i ≡ i = omega arith in ap (λ m. get_item m ds) e))

pub hit_in : (fault : JobFault) (elements : Items) (d : Data) → Each (HitIn d) (hit_of fault elements d)
hit_in TextTooLong elements d = own_in d (texts_part is_long d) (texts_in is_long d)
hit_in Empty elements d = own_in d (empty_part d) (empty_in d)
hit_in TooDeep elements d = tt
hit_in TooMany elements d = tt
hit_in DuplicateId elements d = own_in d (id_part d) (id_in d)
hit_in NoSuchTarget elements d = targets_in d
hit_in Loop elements d = tt
hit_in RestartNotJobLevel elements d = own_in d (texts_part (is_no_restart elements) d) (texts_in (is_no_restart elements) d)
hit_in OutOfMemory elements d = tt
