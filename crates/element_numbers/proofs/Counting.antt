-- The own members of the element of a fault's number are wrong.
use Rattle.std.proofs.Common.{◌≡◌, ◌∙◌, ◌⊎◌, inl, inr, ℕ, zero, suc, ◌+◌, ◌-◌, ◌^◌, ◌<◌, ◌≤◌, List, [], ◌∷◌, ◌++◌, length, map, slice_get, Bool, true, false, cond, ◌&&◌, codes, bytes_eq, Option, Some, None, option_map, option_and_then, unwrap_or, Ok, Err, refl, sym, ap, subst, true≢false, arith}
use Rattle.std.proofs.lemmas.Option.{same_Some, none-some}
use Rattle.std.proofs.lemmas.Slice.Eq.{bytes_eq-Decides}
use Rattle.serde_json.specs.Data.{Data, Items, no_items, item, depth, items_depth}
use Rattle.json_members.specs.Members.{has_only, is_text, text_at, optional_text, list_at}
use Rattle.jsl_model.specs.declared.element.Element.{Element}
use Rattle.jsl_model.specs.declared.element.SplitFlow.{SplitFlow, roll-SplitFlow}
use Rattle.jsl_model.specs.declared.element.Transition.{Transition}
use Rattle.jsl_model.specs.declared.element.Body.TheVariants.{Flow, Split}
use Rattle.jsl_model.specs.Parts.{Content}
use Rattle.jsl_json.specs.Tasks.{truth_or, count_or, partitions_at, task_at}
use Rattle.jsl_json.specs.Transitions.{transitions_at}
use Rattle.jsl_json.specs.declared.fault.ReadFault.{ReadFault}
use Rattle.jsl_json.specs.declared.fault.ReadFault.TheVariants.{BadElement}
use Rattle.jsl_json.specs.Elements.{◌>>=◌, Read, next_number, followed, element_at, elements_at, flow_at, flows_at, content_at}
use Rattle.jsl_json.specs.Members.{Kind, step, flow, split, decision, IsInside, OwnMembers, OwnFlowMembers, own_of, own_flow_of, element_kind, step_of_data, flow_of_data, split_of_data, decision_of_data, step_names, flow_names, split_names, decision_names, split_flow_names}
use Rattle.jsl_json.proofs.Nesting.{at_wrong, at_right, element_over, flow_wrong, flow_right, flow_over, list_depth}
use Rattle.element_numbers.specs.Numbering.{Key, nth, named, Numbered, OwnWrong, IsWrong, behind, all_in, all_inside}
use Rattle.element_numbers.specs.Ways.{from_item, all_by}
use Rattle.element_numbers.proofs.Numbers.{inside-is, by_kind}

-- ---- numbers

-- the number after these elements
abbrev pub number_after : ℕ → List Numbered → ℕ
number_after n [] = n
number_after n (e ∷ es) = number_after (next_number n) es

-- the fault is that of an element among these whose own members are wrong, by its number
abbrev pub Wrong : ℕ → ℕ → List Numbered → ReadFault → Type 0
Wrong job n [] fault = ⊥
Wrong job n (e ∷ es) fault = (IsWrong e × (fault ≡ BadElement job (Some n))) ⊎ Wrong job (next_number n) es fault

-- the elements that were read are all of these, or the fault is that of one of them
abbrev pub Outcome : {A : Type 0} → ℕ → ℕ → List Numbered → Read A → Type 0
Outcome job n es (Ok x) = x.1 ≡ number_after n es
Outcome job n es (Err fault) = Wrong job n es fault

after-append : (n : ℕ) (es fs : List Numbered) → number_after n (es ++ fs) ≡ number_after (number_after n es) fs
after-append n [] fs = refl
after-append n (e ∷ es) fs = after-append (next_number n) es fs

after-behind : (n : ℕ) (key : Key) (es : List Numbered) → number_after n (map (behind key) es) ≡ number_after n es
after-behind n key [] = refl
after-behind n key (e ∷ es) = after-behind (next_number n) key es

wrong_before : (job n : ℕ) (es fs : List Numbered) (fault : ReadFault) → Wrong job n es fault → Wrong job n (es ++ fs) fault
wrong_before job n [] fs fault h = absurd h
wrong_before job n (e ∷ es) fs fault (inl h) = inl h
wrong_before job n (e ∷ es) fs fault (inr h) = inr (wrong_before job (next_number n) es fs fault h)

wrong_later : (job n : ℕ) (es fs : List Numbered) (fault : ReadFault) → Wrong job (number_after n es) fs fault → Wrong job n (es ++ fs) fault
wrong_later job n [] fs fault h = h
wrong_later job n (e ∷ es) fs fault h = inr (wrong_later job (next_number n) es fs fault h)

wrong-behind : (job n : ℕ) (key : Key) (es : List Numbered) (fault : ReadFault) → Wrong job n es fault → Wrong job n (map (behind key) es) fault
wrong-behind job n key [] fault h = absurd h
wrong-behind job n key (e ∷ es) fault (inl h) = inl h
wrong-behind job n key (e ∷ es) fault (inr h) = inr (wrong-behind job (next_number n) key es fault h)

-- ---- outcomes

outcome-behind : {A : Type 0} (job n : ℕ) (key : Key) (es : List Numbered) (r : Read A) → Outcome job n es r → Outcome job n (map (behind key) es) r
outcome-behind job n key es (Ok x) h = h ∙ sym (after-behind n key es)
outcome-behind job n key es (Err fault) h = wrong-behind job n key es fault h

-- the element itself is right
itself_right : {A : Type 0} (job n : ℕ) (e : Numbered) (es : List Numbered) (r : Read A) → Outcome job (next_number n) es r → Outcome job n (e ∷ es) r
itself_right job n e es (Ok x) h = h
itself_right job n e es (Err fault) h = inr h

-- another value of what was read
over : {A B : Type 0} (job n : ℕ) (es : List Numbered) (r : Read A) (f : A × ℕ → B) → Outcome job n es r → Outcome job n es (r >>= λ x. Ok (f x, x.1))
over job n es (Ok x) f h = h
over job n es (Err fault) f h = h

joined : {A : Type 0} (job n k : ℕ) (es fs : List Numbered) (first : A) (r : Read (List A)) → k ≡ number_after n es → Outcome job k fs r → Outcome job n (es ++ fs) (r >>= λ y. Ok (first ∷ y.0, y.1))
joined job n k es fs first (Ok y) is h = h ∙ ap (λ m. number_after m fs) is ∙ sym (after-append n es fs)
joined job n k es fs first (Err fault) is h = wrong_later job n es fs fault (subst (λ (m : ℕ). Wrong job m fs fault) is h)

one_more : {A : Type 0} (job n : ℕ) (es fs : List Numbered) (r : Read A) (rest : ℕ → Read (List A)) → Outcome job n es r → ((k : ℕ) → Outcome job k fs (rest k)) → Outcome job n (es ++ fs) (followed r rest)
one_more job n es fs (Ok x) rest h more = joined job n x.1 es fs x.0 (rest x.1) h (more x.1)
one_more job n es fs (Err fault) rest h more = wrong_before job n es fs fault h

-- ---- kinds

-- what an element of this kind shows of its object
abbrev Kinded : Kind → Data → Type 0
Kinded (step next transitions s) d = is_text (codes "kind") (codes "step") d ≡ true
Kinded (flow next transitions ds) d = (is_text (codes "kind") (codes "flow") d ≡ true) × (list_at (codes "elements") d ≡ Some ds)
Kinded (split next ds) d = (is_text (codes "kind") (codes "split") d ≡ true) × (list_at (codes "flows") d ≡ Some ds)
Kinded (decision transitions artifact) d = is_text (codes "kind") (codes "decision") d ≡ true

-- a value that is made in steps
pub made : {A B : Type 0} (P : B → Type 0) (o : Option A) (f : A → Option B) (b : B) → option_and_then f o ≡ Some b → ((a : A) → o ≡ Some a → f a ≡ Some b → P b) → P b
made P None f b is h = absurd (none-some b is)
made P (Some a) f b is h = h a refl is

pub last : {B : Type 0} (P : B → Type 0) (x b : B) → Some x ≡ Some b → P x → P b
last P x b is h = subst P (same_Some x b is) h

pub tested : {B : Type 0} (P : B → Type 0) (c : Bool) (x : Option B) (b : B) → cond c x None ≡ Some b → (c ≡ true → x ≡ Some b → P b) → P b
tested P true x b is h = h refl is
tested P false x b is h = absurd (none-some b is)

chosen : {B : Type 0} (P : B → Type 0) (c : Bool) (x y : Option B) (b : B) → cond c x y ≡ Some b → (c ≡ true → x ≡ Some b → P b) → (y ≡ Some b → P b) → P b
chosen P true x y b is h k = h refl is
chosen P false x y b is h k = k is

step_kind : (d : Data) (kind : Kind) → is_text (codes "kind") (codes "step") d ≡ true → step_of_data d ≡ Some kind → Kinded kind d
unfolding step_of_data
step_kind d kind kinded is =
    let P : Kind → Type 0 = λ k. Kinded k d in
    tested P (has_only step_names d) _ kind is
    (λ listed i0. made P (optional_text (codes "next") d) _ kind i0
    (λ next e1 i1. made P (transitions_at d) _ kind i1
    (λ transitions e2 i2. made P (count_or (codes "start-limit") 0 d) _ kind i2
    (λ start_limit e3 i3. made P (truth_or (codes "allow-start-if-complete") false d) _ kind i3
    (λ again e4 i4. made P (partitions_at d) _ kind i4
    (λ partitions e5 i5. made P (task_at d) _ kind i5 (λ task e6 i6. last P _ kind i6 kinded)))))))

flow_kind : (d : Data) (kind : Kind) → is_text (codes "kind") (codes "flow") d ≡ true → flow_of_data d ≡ Some kind → Kinded kind d
unfolding flow_of_data
flow_kind d kind kinded is =
    let P : Kind → Type 0 = λ k. Kinded k d in
    tested P (has_only flow_names d) _ kind is
    (λ listed i0. made P (optional_text (codes "next") d) _ kind i0
    (λ next e1 i1. made P (transitions_at d) _ kind i1 (λ transitions e2 i2. made P (list_at (codes "elements") d) _ kind i2 (λ elements e3 i3. last P _ kind i3 (kinded, e3)))))

split_kind : (d : Data) (kind : Kind) → is_text (codes "kind") (codes "split") d ≡ true → split_of_data d ≡ Some kind → Kinded kind d
unfolding split_of_data
split_kind d kind kinded is =
    let P : Kind → Type 0 = λ k. Kinded k d in
    tested P (has_only split_names d) _ kind is
    (λ listed i0. made P (optional_text (codes "next") d) _ kind i0 (λ next e1 i1. made P (list_at (codes "flows") d) _ kind i1 (λ flows e2 i2. last P _ kind i2 (kinded, e2))))

decision_kind : (d : Data) (kind : Kind) → is_text (codes "kind") (codes "decision") d ≡ true → decision_of_data d ≡ Some kind → Kinded kind d
unfolding decision_of_data
decision_kind d kind kinded is =
    let P : Kind → Type 0 = λ k. Kinded k d in
    tested P (has_only decision_names d) _ kind is
    (λ listed i0. made P (transitions_at d) _ kind i0 (λ transitions e1 i1. made P (text_at (codes "ref") d) _ kind i1 (λ artifact e2 i2. last P _ kind i2 kinded)))

some_kind : (d : Data) (kind : Kind) → element_kind d ≡ Some kind → Kinded kind d
unfolding element_kind
some_kind d kind is =
    let P : Kind → Type 0 = λ k. Kinded k d in
    chosen P (is_text (codes "kind") (codes "step") d) (step_of_data d) _ kind is (λ k i. step_kind d kind k i)
    (λ i1. chosen P (is_text (codes "kind") (codes "flow") d) (flow_of_data d) _ kind i1 (λ k i. flow_kind d kind k i)
    (λ i2. chosen P (is_text (codes "kind") (codes "split") d) (split_of_data d) _ kind i2 (λ k i. split_kind d kind k i)
    (λ i3. tested P (is_text (codes "kind") (codes "decision") d) (decision_of_data d) kind i3 (λ k i. decision_kind d kind k i))))

own_kind : (d : Data) (own : OwnMembers) → own_of d ≡ Some own → Kinded own.kind d
unfolding own_of
own_kind d own is =
    let P : OwnMembers → Type 0 = λ o. Kinded o.kind d in
    made P (element_kind d) _ own is (λ kind k i. made P (text_at (codes "id") d) _ own i (λ id e j. last P _ own j (some_kind d kind k)))

kinded_inside : (kind : Kind) (d : Data) → Kinded kind d → IsInside kind d
kinded_inside (step next transitions s) d h = tt
kinded_inside (flow next transitions ds) d h = h.1
kinded_inside (split next ds) d h = h.1
kinded_inside (decision transitions artifact) d h = tt

-- one text is not another
not_both : (o : Option (List ℕ)) (one other : List ℕ) → bytes_eq one other ≡ false → unwrap_or (option_map (λ found. bytes_eq found one) o) false ≡ true → unwrap_or (option_map (λ found. bytes_eq found other) o) false ≡ false
not_both None one other differ is = refl
not_both (Some found) one other differ is = ap (λ t. bytes_eq t other) ((bytes_eq-Decides found one).0 is) ∙ differ

not_kind : (d : Data) (one other : List ℕ) → bytes_eq one other ≡ false → is_text (codes "kind") one d ≡ true → is_text (codes "kind") other d ≡ false
not_kind d one other differ is = not_both (text_at (codes "kind") d) one other differ is

inside_by : (a b : Bool) (d : Data) → is_text (codes "kind") (codes "flow") d ≡ a → is_text (codes "kind") (codes "split") d ≡ b → all_inside d ≡ by_kind a b d
inside_by a b d f s = inside-is d ∙ ap (λ x. by_kind x (is_text (codes "kind") (codes "split") d) d) f ∙ ap (λ x. by_kind a x d) s

inside_flow : (d : Data) (ds : Items) → is_text (codes "kind") (codes "flow") d ≡ true → list_at (codes "elements") d ≡ Some ds → all_inside d ≡ map (behind (named (codes "elements"))) (all_in false 0 ds)
inside_flow d ds f is =
    inside-is d ∙ ap (λ b. by_kind b (is_text (codes "kind") (codes "split") d) d) f ∙ ap (λ o. all_by (codes "elements") false o) is

inside_split : (d : Data) (ds : Items) → is_text (codes "kind") (codes "split") d ≡ true → list_at (codes "flows") d ≡ Some ds → all_inside d ≡ map (behind (named (codes "flows"))) (all_in true 0 ds)
inside_split d ds s is =
    inside_by false true d (not_kind d (codes "split") (codes "flow") refl s) s ∙ ap (λ o. all_by (codes "flows") true o) is

inside_none : (d : Data) (kind : List ℕ) → bytes_eq kind (codes "flow") ≡ false → bytes_eq kind (codes "split") ≡ false → is_text (codes "kind") kind d ≡ true → all_inside d ≡ []
inside_none d kind f s is = inside_by false false d (not_kind d kind (codes "flow") f is) (not_kind d kind (codes "split") s is)

-- ---- elements

-- the law for the elements of a list, and for the flows of a split
abbrev pub Counts : ℕ → Items → Type 0
Counts job ds = (n m : ℕ) → Outcome job n (all_in false m ds) (elements_at job ds n) × Outcome job n (all_in true m ds) (flows_at job ds n)

abbrev flow_content : Option (List ℕ) → List Transition → List Element × ℕ → Content
flow_content next transitions x = record { next = next; transitions = transitions; body = Flow x.0 }

abbrev split_content : Option (List ℕ) → List SplitFlow × ℕ → Content
split_content next x = record { next = next; transitions = []; body = Split x.0 }

content_counts : (job n : ℕ) (kind : Kind) (d : Data) → ((ds : Items) → items_depth ds < depth d → Counts job ds) → Kinded kind d → Outcome job n (all_inside d) (content_at job kind n)
content_counts job n (step next transitions s) d below h = ap (number_after n) (sym (inside_none d (codes "step") refl refl h))
content_counts job n (flow next transitions ds) d below h =
    let inner = map (behind (named (codes "elements"))) (all_in false 0 ds) in
    let read = outcome-behind job n (named (codes "elements")) (all_in false 0 ds) (elements_at job ds n) (below ds (list_depth (codes "elements") d ds h.1) n 0).0 in
    let P : List Numbered → Type 0 = λ es. Outcome job n es (content_at job (flow next transitions ds) n) in
    subst P (sym (inside_flow d ds h.0 h.1)) (over job n inner (elements_at job ds n) (flow_content next transitions) read)
content_counts job n (split next ds) d below h =
    let inner = map (behind (named (codes "flows"))) (all_in true 0 ds) in
    let read = outcome-behind job n (named (codes "flows")) (all_in true 0 ds) (flows_at job ds n) (below ds (list_depth (codes "flows") d ds h.1) n 0).1 in
    let P : List Numbered → Type 0 = λ es. Outcome job n es (content_at job (split next ds) n) in
    subst P (sym (inside_split d ds h.0 h.1)) (over job n inner (flows_at job ds n) (split_content next) read)
content_counts job n (decision transitions artifact) d below h = ap (number_after n) (sym (inside_none d (codes "decision") refl refl h))

abbrev element_over_content : OwnMembers → Content × ℕ → Element
element_over_content own x = record { id = own.id; next = x.0.next; transitions = x.0.transitions; body = x.0.body }

element_counts : (job n : ℕ) (e : Numbered) (o : Option OwnMembers) → e.in_split ≡ false → own_of e.value ≡ o → ((ds : Items) → items_depth ds < depth e.value → Counts job ds) → Outcome job n (e ∷ all_inside e.value) (element_at job e.value n)
element_counts job n e None element is below =
    let P : Read Element → Type 0 = λ r. Outcome job n (e ∷ all_inside e.value) r in
    let has : IsWrong e = subst (λ s. OwnWrong s e.value) (sym element) is in
    subst P (sym (at_wrong job e.value n is)) (inl (has, refl))
element_counts job n e (Some own) element is below =
    let kinded = own_kind e.value own is in
    let P : Read Element → Type 0 = λ r. Outcome job n (e ∷ all_inside e.value) r in
    let content = content_at job own.kind (next_number n) in
    subst P (sym (at_right job e.value n own is (kinded_inside own.kind e.value kinded)))
    (itself_right job n e (all_inside e.value) (element_over own content)
    (over job (next_number n) (all_inside e.value) content (element_over_content own) (content_counts job (next_number n) own.kind e.value below kinded)))

-- ---- flows of splits

-- what a flow of a split shows of its object
abbrev Flows : OwnFlowMembers → Data → Type 0
Flows own d = (is_text (codes "kind") (codes "flow") d ≡ true) × (list_at (codes "elements") d ≡ Some own.elements)

both_true : (a b : Bool) → (a && b) ≡ true → b ≡ true
both_true true b h = h
both_true false b h = absurd (true≢false (sym h))

own_flow : (d : Data) (own : OwnFlowMembers) → own_flow_of d ≡ Some own → Flows own d
unfolding own_flow_of
own_flow d own is =
    let P : OwnFlowMembers → Type 0 = λ o. Flows o d in
    tested P (has_only split_flow_names d && is_text (codes "kind") (codes "flow") d) _ own is
    (λ listed i0. made P (text_at (codes "id") d) _ own i0
    (λ id e1 i1. made P (list_at (codes "elements") d) _ own i1 (λ elements e2 i2. last P _ own i2 (both_true (has_only split_flow_names d) (is_text (codes "kind") (codes "flow") d) listed, e2))))

abbrev flow_over_elements : List ℕ → List Element × ℕ → SplitFlow
flow_over_elements id x = roll-SplitFlow record { id = id; elements = x.0 }

flow_counts : (job n : ℕ) (e : Numbered) (o : Option OwnFlowMembers) → e.in_split ≡ true → own_flow_of e.value ≡ o → ((ds : Items) → items_depth ds < depth e.value → Counts job ds) → Outcome job n (e ∷ all_inside e.value) (flow_at job e.value n)
flow_counts job n e None flows is below =
    let P : Read SplitFlow → Type 0 = λ r. Outcome job n (e ∷ all_inside e.value) r in
    let has : IsWrong e = subst (λ s. OwnWrong s e.value) (sym flows) is in
    subst P (sym (flow_wrong job e.value n is)) (inl (has, refl))
flow_counts job n e (Some own) flows is below =
    let shown = own_flow e.value own is in
    let elements = elements_at job own.elements (next_number n) in
    let inner = below own.elements (list_depth (codes "elements") e.value own.elements shown.1) (next_number n) 0 in
    let P : Read SplitFlow → Type 0 = λ r. Outcome job n (e ∷ all_inside e.value) r in
    let Q : List Numbered → Type 0 = λ es. Outcome job (next_number n) es elements in
    let read = subst Q (sym (inside_flow e.value own.elements shown.0 shown.1)) (outcome-behind job (next_number n) (named (codes "elements")) (all_in false 0 own.elements) elements inner.0) in
    subst P (sym (flow_right job e.value n own is shown.1))
    (itself_right job n e (all_inside e.value) (flow_over own.id elements) (over job (next_number n) (all_inside e.value) elements (flow_over_elements own.id) read))

-- ---- lists

list_counts : (job bound : ℕ) (ds : Items) → ((es : Items) → items_depth es < bound → Counts job es) → items_depth ds ≤ bound → Counts job ds
unfolding element_at all_in
list_counts job bound no_items below h n m = (refl, refl)
list_counts job bound (item d ds) below h n m =
    let inner : (es : Items) → items_depth es < depth d → Counts job es = λ es lt. below es (omega arith) in
    let rest : Counts job ds = list_counts job bound ds below (omega arith) in
    let element : Numbered = record { path = []; in_split = false; value = d } in
    let flow_of_split : Numbered = record { path = []; in_split = true; value = d } in (
      one_more job n (from_item false m d) (all_in false (m + 1) ds) (element_at job d n) (λ k. elements_at job ds k)
          (outcome-behind job n (nth m) (element ∷ all_inside d) (element_at job d n) (element_counts job n element (own_of d) refl refl inner))
          (λ k. (rest k (m + 1)).0),
      one_more job n (from_item true m d) (all_in true (m + 1) ds) (flow_at job d n) (λ k. flows_at job ds k)
          (outcome-behind job n (nth m) (flow_of_split ∷ all_inside d) (flow_at job d n) (flow_counts job n flow_of_split (own_flow_of d) refl refl inner))
          (λ k. (rest k (m + 1)).1),
    )

pub all_count : (job bound : ℕ) (ds : Items) → items_depth ds ≤ bound → Counts job ds
all_count job zero ds h = list_counts job zero ds (λ es lt. absurd (omega arith)) h
all_count job (suc bound) ds h = list_counts job (suc bound) ds (λ es lt. all_count job bound es (omega arith)) h

-- ---- the element of the number

pub number_found : (job n : ℕ) (es : List Numbered) (fault : ReadFault) → Wrong job n es fault → n + length es < 2 ^ 64
    → (i : ℕ) × (e : Numbered) × (slice_get es i ≡ Some e) × IsWrong e × (fault ≡ BadElement job (Some (n + i)))
number_found job n [] fault h few = absurd h
number_found job n (e ∷ es) fault (inl h) few =
    let here : n ≡ n + 0 = omega arith in
    (0, e, refl, h.0, h.1 ∙ ap (λ m. BadElement job (Some m)) here)
number_found job n (e ∷ es) fault (inr h) few =
    let next : next_number n ≡ n + 1 = omega arith in
    let r = number_found job (n + 1) es fault (subst (λ m. Wrong job m es fault) next h) (omega arith) in
    let on : n + 1 + r.0 ≡ n + suc r.0 = omega arith in
    (suc r.0, r.1, r.2, r.3, r.4 ∙ ap (λ m. BadElement job (Some m)) on)

-- the element of the number in a fault is wrong
pub wrong_there : (job m : ℕ) (ds : Items) → elements_at job ds 0 ≡ Err (BadElement job (Some m)) → length (all_in false 0 ds) < 2 ^ 64 → (e : Numbered) × (slice_get (all_in false 0 ds) m ≡ Some e) × IsWrong e
wrong_there job m ds fails few =
    let bound : items_depth ds ≤ items_depth ds = omega arith in
    let P : Read (List Element) → Type 0 = λ r. Outcome job 0 (all_in false 0 ds) r in
    let r = number_found job 0 (all_in false 0 ds) (BadElement job (Some m)) (subst P fails (all_count job (items_depth ds) ds bound 0 0).0) (omega arith) in
    let from_0 : 0 + r.0 ≡ r.0 = omega arith in
    let same : m ≡ 0 + r.0 = cc (r.4) in
    (r.1, ap (slice_get (all_in false 0 ds)) (same ∙ from_0) ∙ r.2, r.3)
