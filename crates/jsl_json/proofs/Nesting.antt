-- What an object's members say of the elements inside it, and how deep those lie.
use Rattle.std.proofs.Common.{◌≡◌, ◌∙◌, ℕ, zero, suc, max, get_or, ◌<◌, ◌≤◌, List, [], ◌∷◌, false, cond, codes, length, Option, Some, None, option_and_then, Ok, Err, refl, sym, ap, subst, arith}
use Rattle.std.specs.declared.cmp.Ordering.{Ordering}
use Rattle.std.specs.declared.cmp.Ordering.TheVariants.{Less, Equal, Greater}
use Rattle.std.specs.Ordering.{nat_cmp, match_ordering, is_eq}
use Rattle.std.specs.Cmp.Lexicographic.{slice_cmp}
use Rattle.std.proofs.lemmas.Map.Text.{is_eq-slice_cmp}
use Rattle.std.proofs.lemmas.Option.{same_Some}
use Rattle.serde_json.specs.Data.{Data, null, boolean, number, string, array, object, Items, Members, no_members, member, depth, items_depth, members_depth}
use Rattle.serde_json.specs.Find.{get_member, as_array}
use Rattle.serde_json.specs.View.{view, items_view}
use Rattle.serde_json.specs.declared.value.Value.{Value}
use Rattle.json_members.specs.Members.{list_at}
use Rattle.jsl_model.specs.declared.element.Element.{Element}
use Rattle.jsl_model.specs.declared.element.SplitFlow.{SplitFlow, roll-SplitFlow}
use Rattle.jsl_model.specs.Parts.{Content}
use Rattle.jsl_model.specs.declared.element.Body.TheVariants.{Flow, Split}
use Rattle.jsl_json.specs.declared.fault.ReadFault.{ReadFault}
use Rattle.jsl_json.specs.declared.fault.ReadFault.TheVariants.{BadElement, OutOfMemory as NoMemory}
use Rattle.jsl_json.specs.declared.member_fault.MemberFault.{MemberFault}
use Rattle.jsl_json.specs.declared.member_fault.MemberFault.TheVariants.{Wrong, OutOfMemory}
use Rattle.jsl_json.specs.Catalogues.{is_out_of_memory}
use Rattle.jsl_json.specs.Members.{Kind, step, flow, split, decision, IsInside, OwnMembers, OwnFlowMembers, own_of, own_flow_of, element_kind}
use Rattle.jsl_json.specs.Elements.{◌>>=◌, Read, bad, next_number, content_with, element_with, flow_with, element_at, elements_in, elements_at, flow_at, flows_in, flows_at, content_at}

-- ---- what is inside

-- a member of this name that is a list, or one further on
found_at : {A : Type 0} (o : Ordering) (es ds : Items) (rest : Option Data) (here there all : Read A)
    → (rest ≡ Some (array ds) → there ≡ all) → (es ≡ ds → here ≡ all)
    → match_ordering o rest (Some (array es)) rest ≡ Some (array ds) → cond (is_eq o) here there ≡ all
found_at Less es ds rest here there all further same found = further found
found_at Equal es ds rest here there all further same found = same (cc)
found_at Greater es ds rest here there all further same found = further found

-- a member that is no list, where the member of this name is one
passed_by : (o : Ordering) (e : Data) (ds : Items) (rest : Option Data)
    → (e ≡ array ds → ⊥) → match_ordering o rest (Some e) rest ≡ Some (array ds) → rest ≡ Some (array ds)
passed_by Less e ds rest other found = found
passed_by Equal e ds rest other found = absurd (other (same_Some e (array ds) found))
passed_by Greater e ds rest other found = found

pub elements_in-get : (job : ℕ) (ms : Members) (ds : Items) (n : ℕ) → get_member (codes "elements") ms ≡ Some (array ds) → elements_in job ms n ≡ elements_at job ds n
unfolding element_at
elements_in-get job no_members ds n found = cc
elements_in-get job (member k (array es) ms) ds n found =
    ap (λ b. cond b (elements_at job es n) (elements_in job ms n)) (sym (is_eq-slice_cmp (codes "elements") k))
    ∙ found_at (slice_cmp nat_cmp (codes "elements") k) es ds (get_member (codes "elements") ms) (elements_at job es n) (elements_in job ms n) (elements_at job ds n) (λ h. elements_in-get job ms ds n h) (λ h. ap (λ xs. elements_at job xs n) h) found
elements_in-get job (member k null ms) ds n found = elements_in-get job ms ds n (passed_by (slice_cmp nat_cmp (codes "elements") k) null ds (get_member (codes "elements") ms) (λ h. cc) found)
elements_in-get job (member k (boolean b) ms) ds n found = elements_in-get job ms ds n (passed_by (slice_cmp nat_cmp (codes "elements") k) (boolean b) ds (get_member (codes "elements") ms) (λ h. cc) found)
elements_in-get job (member k (number x) ms) ds n found = elements_in-get job ms ds n (passed_by (slice_cmp nat_cmp (codes "elements") k) (number x) ds (get_member (codes "elements") ms) (λ h. cc) found)
elements_in-get job (member k (string s) ms) ds n found = elements_in-get job ms ds n (passed_by (slice_cmp nat_cmp (codes "elements") k) (string s) ds (get_member (codes "elements") ms) (λ h. cc) found)
elements_in-get job (member k (object os) ms) ds n found = elements_in-get job ms ds n (passed_by (slice_cmp nat_cmp (codes "elements") k) (object os) ds (get_member (codes "elements") ms) (λ h. cc) found)

pub flows_in-get : (job : ℕ) (ms : Members) (ds : Items) (n : ℕ) → get_member (codes "flows") ms ≡ Some (array ds) → flows_in job ms n ≡ flows_at job ds n
unfolding element_at
flows_in-get job no_members ds n found = cc
flows_in-get job (member k (array es) ms) ds n found =
    ap (λ b. cond b (flows_at job es n) (flows_in job ms n)) (sym (is_eq-slice_cmp (codes "flows") k))
    ∙ found_at (slice_cmp nat_cmp (codes "flows") k) es ds (get_member (codes "flows") ms) (flows_at job es n) (flows_in job ms n) (flows_at job ds n) (λ h. flows_in-get job ms ds n h) (λ h. ap (λ xs. flows_at job xs n) h) found
flows_in-get job (member k null ms) ds n found = flows_in-get job ms ds n (passed_by (slice_cmp nat_cmp (codes "flows") k) null ds (get_member (codes "flows") ms) (λ h. cc) found)
flows_in-get job (member k (boolean b) ms) ds n found = flows_in-get job ms ds n (passed_by (slice_cmp nat_cmp (codes "flows") k) (boolean b) ds (get_member (codes "flows") ms) (λ h. cc) found)
flows_in-get job (member k (number x) ms) ds n found = flows_in-get job ms ds n (passed_by (slice_cmp nat_cmp (codes "flows") k) (number x) ds (get_member (codes "flows") ms) (λ h. cc) found)
flows_in-get job (member k (string s) ms) ds n found = flows_in-get job ms ds n (passed_by (slice_cmp nat_cmp (codes "flows") k) (string s) ds (get_member (codes "flows") ms) (λ h. cc) found)
flows_in-get job (member k (object os) ms) ds n found = flows_in-get job ms ds n (passed_by (slice_cmp nat_cmp (codes "flows") k) (object os) ds (get_member (codes "flows") ms) (λ h. cc) found)

is_array : (e : Option Data) (ds : Items) → option_and_then as_array e ≡ Some ds → e ≡ Some (array ds)
is_array None ds h = cc
is_array (Some null) ds h = cc
is_array (Some (boolean b)) ds h = cc
is_array (Some (number x)) ds h = cc
is_array (Some (string s)) ds h = cc
is_array (Some (array es)) ds h = ap (λ (x : Items). Some (array x)) (same_Some es ds h)
is_array (Some (object ms)) ds h = cc

-- an element whose own members are wrong
pub at_wrong : (job : ℕ) (d : Data) (n : ℕ) → own_of d ≡ None → element_at job d n ≡ bad job n
unfolding element_at
at_wrong job null n wrong = refl
at_wrong job (boolean b) n wrong = refl
at_wrong job (number x) n wrong = refl
at_wrong job (string s) n wrong = refl
at_wrong job (array ds) n wrong = refl
at_wrong job (object ms) n wrong = ap (λ own. element_with job n own (elements_in job ms (next_number n)) (flows_in job ms (next_number n))) wrong

-- what is inside an object, by its members and by its list
content_same : (job : ℕ) (kind : Kind) (ms : Members) (n : ℕ) → IsInside kind (object ms) → content_with kind n (elements_in job ms n) (flows_in job ms n) ≡ content_at job kind n
content_same job (step next transitions s) ms n inside = refl
content_same job (flow next transitions ds) ms n inside =
    ap (λ (r : Read (List Element)). r >>= λ x. Ok (record { next = next; transitions = transitions; body = Flow x.0 }, x.1))
    (elements_in-get job ms ds n (is_array (get_member (codes "elements") ms) ds inside))
content_same job (split next ds) ms n inside =
    ap (λ (r : Read (List SplitFlow)). r >>= λ x. Ok (record { next = next; transitions = []; body = Split x.0 }, x.1))
    (flows_in-get job ms ds n (is_array (get_member (codes "flows") ms) ds inside))
content_same job (decision transitions artifact) ms n inside = refl

-- an element with its own members, what it has beside its id being read
abbrev pub element_over : OwnMembers → Read Content → Read Element
element_over own content = content >>= λ x. Ok (record { id = own.id; next = x.0.next; transitions = x.0.transitions; body = x.0.body }, x.1)

-- an element whose own members are right
pub at_right : (job : ℕ) (d : Data) (n : ℕ) (own : OwnMembers) → own_of d ≡ Some own → IsInside own.kind d → element_at job d n ≡ element_over own (content_at job own.kind (next_number n))
unfolding element_at own_of element_kind
at_right job null n own right inside = cc
at_right job (boolean b) n own right inside = cc
at_right job (number x) n own right inside = cc
at_right job (string s) n own right inside = cc
at_right job (array ds) n own right inside = cc
at_right job (object ms) n own right inside =
    ap (λ o. element_with job n o (elements_in job ms (next_number n)) (flows_in job ms (next_number n))) right
    ∙ ap (element_over own) (content_same job own.kind ms (next_number n) inside)

-- a flow of a split whose own members are wrong
pub flow_wrong : (job : ℕ) (d : Data) (n : ℕ) → own_flow_of d ≡ None → flow_at job d n ≡ bad job n
unfolding element_at
flow_wrong job null n wrong = refl
flow_wrong job (boolean b) n wrong = refl
flow_wrong job (number x) n wrong = refl
flow_wrong job (string s) n wrong = refl
flow_wrong job (array ds) n wrong = refl
flow_wrong job (object ms) n wrong = ap (λ own. flow_with job n own (elements_in job ms (next_number n))) wrong

-- a flow of a split with its own members, its elements being read
abbrev pub flow_over : List ℕ → Read (List Element) → Read SplitFlow
flow_over id elements = elements >>= λ x. Ok (roll-SplitFlow record { id = id; elements = x.0 }, x.1)

-- a flow of a split whose own members are right
pub flow_right : (job : ℕ) (d : Data) (n : ℕ) (own : OwnFlowMembers) → own_flow_of d ≡ Some own → list_at (codes "elements") d ≡ Some own.elements → flow_at job d n ≡ flow_over own.id (elements_at job own.elements (next_number n))
unfolding element_at own_flow_of
flow_right job null n own right inside = cc
flow_right job (boolean b) n own right inside = cc
flow_right job (number x) n own right inside = cc
flow_right job (string s) n own right inside = cc
flow_right job (array ds) n own right inside = cc
flow_right job (object ms) n own right inside =
    ap (λ o. flow_with job n o (elements_in job ms (next_number n))) right
    ∙ ap (flow_over own.id) (elements_in-get job ms own.elements (next_number n) (is_array (get_member (codes "elements") ms) own.elements inside))

-- ---- how deep what is inside lies

member_depth : (o : Ordering) (e d : Data) (k : ℕ) (m : Option Data) → ((f : Data) → m ≡ Some f → depth f ≤ k) → match_ordering o m (Some e) m ≡ Some d → depth d ≤ max (depth e) k
member_depth Less e d k m h is = let b = h d is in omega arith
member_depth Equal e d k m h is = let b : depth d ≤ depth e = subst (λ f. depth d ≤ depth f) (sym (same_Some e d is)) (omega arith) in omega arith
member_depth Greater e d k m h is = let b = h d is in omega arith

get_member_depth : (name : List ℕ) (ms : Members) (d : Data) → get_member name ms ≡ Some d → depth d ≤ members_depth ms
get_member_depth name no_members d h = cc
get_member_depth name (member k e ms) d h = member_depth (slice_cmp nat_cmp name k) e d (members_depth ms) (get_member name ms) (λ f is. get_member_depth name ms f is) h

-- a list that is a member lies less deep than the object
pub list_depth : (name : List ℕ) (d : Data) (ds : Items) → list_at name d ≡ Some ds → items_depth ds < depth d
list_depth name null ds h = cc
list_depth name (boolean b) ds h = cc
list_depth name (number x) ds h = cc
list_depth name (string s) ds h = cc
list_depth name (array es) ds h = cc
list_depth name (object ms) ds h = let b = get_member_depth name ms (array ds) (is_array (get_member name ms) ds h) in omega arith

-- how deep the values inside an element are
abbrev pub kind_depth : Kind → ℕ
kind_depth (step next transitions s) = 0
kind_depth (flow next transitions ds) = items_depth ds
kind_depth (split next ds) = items_depth ds
kind_depth (decision transitions artifact) = 0

object_depth : (kind : Kind) (ms : Members) → IsInside kind (object ms) → kind_depth kind < depth (object ms)
object_depth (step next transitions s) ms inside = omega arith
object_depth (flow next transitions ds) ms inside = list_depth (codes "elements") (object ms) ds inside
object_depth (split next ds) ms inside = list_depth (codes "flows") (object ms) ds inside
object_depth (decision transitions artifact) ms inside = omega arith

-- what an element is lies less deep than the element
pub own_depth : (d : Data) (own : OwnMembers) → own_of d ≡ Some own → IsInside own.kind d → kind_depth own.kind < depth d
unfolding own_of element_kind
own_depth null own right inside = cc
own_depth (boolean b) own right inside = cc
own_depth (number x) own right inside = cc
own_depth (string s) own right inside = cc
own_depth (array ds) own right inside = cc
own_depth (object ms) own right inside = object_depth own.kind ms inside

-- a value of a list lies no deeper than the list
pub item_depth : (vs : List Value) (i : ℕ) (v : Value) → i < length vs → v ≡ get_or vs i v → depth (view v) ≤ items_depth (items_view vs)
item_depth [] i v lt e = absurd (omega arith)
item_depth (x ∷ xs) zero v lt e = let h : depth (view v) ≤ depth (view x) = subst (λ y. depth (view v) ≤ depth (view y)) e (omega arith) in omega arith
item_depth (x ∷ xs) (suc i) v lt e = let h = item_depth xs i v (omega arith) e in omega arith

-- ---- faults

-- wrong members of an element, or want of memory
pub element_wrong : (fault : MemberFault) (given : ReadFault) (job n : ℕ) (d : Data)
    → (fault ≡ Wrong → given ≡ BadElement job (Some n)) → (fault ≡ OutOfMemory → given ≡ NoMemory) → (fault ≡ Wrong → own_of d ≡ None)
    → is_out_of_memory given ≡ false → element_at job d n ≡ Err given
element_wrong Wrong given job n d wrong memory own other = at_wrong job d n (own refl) ∙ ap (λ (f : ReadFault). Err f) (sym (wrong refl))
element_wrong OutOfMemory given job n d wrong memory own other = let e = ap is_out_of_memory (memory refl) in cc

-- a fault inside an element is one of the element
pub element_over-fails : (own : OwnMembers) (content : Read Content) (fault : ReadFault) → content ≡ Err fault → element_over own content ≡ Err fault
element_over-fails own content fault h = ap (element_over own) h

-- a fault inside a flow of a split is one of the flow
pub flow_over-fails : (id : List ℕ) (elements : Read (List Element)) (fault : ReadFault) → elements ≡ Err fault → flow_over id elements ≡ Err fault
flow_over-fails id elements fault h = ap (flow_over id) h
