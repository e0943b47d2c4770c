-- The path of an element leads to it.
use Rattle.std.proofs.Common.{◌≡◌, ◌∙◌, ℕ, zero, suc, ◌+◌, ◌<◌, ◌≤◌, List, [], ◌∷◌, ◌++◌, map, slice_get, Bool, true, false, codes, Option, Some, None, option_and_then, refl, sym, ap, subst, arith}
use Rattle.std.proofs.lemmas.Option.{same_Some, none-some}
use Rattle.serde_json.specs.Data.{Data, null, boolean, number, string, array, object, Items, no_items, item, depth, items_depth}
use Rattle.serde_json.specs.Find.{get, get_item, as_array}
use Rattle.json_members.specs.Members.{is_text, list_at}
use Rattle.jsl_json.proofs.Nesting.{list_depth}
use Rattle.element_numbers.specs.Numbering.{Key, nth, named, value_by, Numbered, behind, all_in, all_inside}
use Rattle.element_numbers.specs.Ways.{from_item, all_by}
use Rattle.element_numbers.proofs.Numbers.{inside-is, by_kind}

-- the paths of these lead to them from the value
abbrev pub Lead : Data → List Numbered → Type 0
Lead d [] = Unit {0}
Lead d (e ∷ es) = (value_by e.path d ≡ Some e.value) × Lead d es

lead-append : (d : Data) (es fs : List Numbered) → Lead d es → Lead d fs → Lead d (es ++ fs)
lead-append d [] fs h k = k
lead-append d (e ∷ es) fs h k = (h.0, lead-append d es fs h.1 k)

lead-behind : (key : Key) (outer inner : Data) (es : List Numbered) → ((keys : List Key) → value_by (key ∷ keys) outer ≡ value_by keys inner) → Lead inner es → Lead outer (map (behind key) es)
lead-behind key outer inner [] turn h = tt
lead-behind key outer inner (e ∷ es) turn h = (turn e.path ∙ h.0, lead-behind key outer inner es turn h.1)

pub is_array : (e : Option Data) (ds : Items) → option_and_then as_array e ≡ Some ds → e ≡ Some (array ds)
is_array None ds h = cc
is_array (Some null) ds h = cc
is_array (Some (boolean b)) ds h = cc
is_array (Some (number x)) ds h = cc
is_array (Some (string s)) ds h = cc
is_array (Some (array es)) ds h = ap (λ (x : Items). Some (array x)) (same_Some es ds h)
is_array (Some (object ms)) ds h = cc

-- the items of a list, from this number on
abbrev pub ListLeads : Items → Type 0
ListLeads ds = (in_split : Bool) (n : ℕ) (whole : Items) → ((i : ℕ) → get_item (n + i) whole ≡ get_item i ds) → Lead (array whole) (all_in in_split n ds)

by_list : (name : List ℕ) (in_split : Bool) (d : Data) (o : Option Items) → list_at name d ≡ o → ((ds : Items) → items_depth ds < depth d → ListLeads ds) → Lead d (all_by name in_split o)
by_list name in_split d None is below = tt
by_list name in_split d (Some ds) is below =
    lead-behind (named name) d (array ds) (all_in in_split 0 ds)
    (λ keys. ap (option_and_then (value_by keys)) (is_array (get name d) ds is))
    (below ds (list_depth name d ds is) in_split 0 ds (λ i. let e : 0 + i ≡ i = omega arith in ap (λ m. get_item m ds) e))

of_kind : (flow split : Bool) (d : Data) → ((ds : Items) → items_depth ds < depth d → ListLeads ds) → Lead d (by_kind flow split d)
of_kind true split d below = by_list (codes "elements") false d (list_at (codes "elements") d) refl below
of_kind false true d below = by_list (codes "flows") true d (list_at (codes "flows") d) refl below
of_kind false false d below = tt

inside_leads : (d : Data) → ((ds : Items) → items_depth ds < depth d → ListLeads ds) → Lead d (all_inside d)
inside_leads d below =
    subst (Lead d) (sym (inside-is d)) (of_kind (is_text (codes "kind") (codes "flow") d) (is_text (codes "kind") (codes "split") d) d below)

items_lead : (bound : ℕ) (ds : Items) → ((es : Items) → items_depth es < bound → ListLeads es) → items_depth ds ≤ bound → ListLeads ds
unfolding all_in
items_lead bound no_items below h in_split n whole same = tt
items_lead bound (item d ds) below h in_split n whole same =
    let inner : (es : Items) → items_depth es < depth d → ListLeads es = λ es lt. below es (omega arith) in
    let first : n + 0 ≡ n = omega arith in
    let here : get_item n whole ≡ Some d = sym (ap (λ m. get_item m whole) first) ∙ same 0 in
    let element : Numbered = record { path = []; in_split = in_split; value = d } in
    lead-append (array whole) (from_item in_split n d) (all_in in_split (n + 1) ds)
    (lead-behind (nth n) (array whole) d (element ∷ all_inside d) (λ keys. ap (option_and_then (value_by keys)) here) (refl, inside_leads d inner))
    (items_lead bound ds below (omega arith) in_split (n + 1) whole
    (λ i. let e : n + 1 + i ≡ n + suc i = omega arith in ap (λ m. get_item m whole) e ∙ same (suc i)))

all_lead : (bound : ℕ) (ds : Items) → items_depth ds ≤ bound → ListLeads ds
all_lead zero ds h = items_lead zero ds (λ es lt. absurd (omega arith)) h
all_lead (suc bound) ds h = items_lead (suc bound) ds (λ es lt. all_lead bound es (omega arith)) h

led : (d : Data) (es : List Numbered) (i : ℕ) (e : Numbered) → Lead d es → slice_get es i ≡ Some e → value_by e.path d ≡ Some e.value
led d [] i e h is = absurd (none-some e is)
led d (f ∷ es) zero e h is = subst (λ (x : Numbered). value_by x.path d ≡ Some x.value) (same_Some f e is) h.0
led d (f ∷ es) (suc i) e h is = led d es i e h.1 is

-- the element of a number is at the end of its path
pub element_leads : (ds : Items) (i : ℕ) (e : Numbered) → slice_get (all_in false 0 ds) i ≡ Some e → value_by e.path (array ds) ≡ Some e.value
element_leads ds i e is =
    let bound : items_depth ds ≤ items_depth ds = omega arith in
    led (array ds) (all_in false 0 ds) i e (all_lead (items_depth ds) ds bound false 0 ds (λ j. let e : 0 + j ≡ j = omega arith in ap (λ m. get_item m ds) e)) is
