-- The lists of a checked job are ordered, and so the value of each goes on from element to element.
use Rattle.std.proofs.Common.{◌≡◌, ℕ, zero, suc, Bool, true, false, cond, not, Option, None, Some, List, [], ◌∷◌, map, find, refl, sym, ◌∙◌, ap, subst, arith}
use Rattle.std.specs.List.{All, Contains, list_any, list_all, flat_map}
use Rattle.std.specs.Str.{bytes_eq}
use Rattle.std.specs.Option.{option_map}
use Rattle.std.proofs.lemmas.List.Elements.{All-head, All-cons, All-nil}
use Rattle.std.proofs.lemmas.Bool.{or_parts}
use Rattle.std.proofs.lemmas.List.Folds.{list_all-append}
use Rattle.jsl_model.specs.declared.job.JobFault.{JobFault}
use Rattle.jsl_model.specs.declared.job.JobFault.TheVariants.{TextTooLong, Empty, TooDeep, TooMany, DuplicateId, NoSuchTarget}
use Rattle.jsl_model.specs.declared.element.Element.{Element}
use Rattle.jsl_model.specs.declared.element.SplitFlow.{out-SplitFlow}
use Rattle.jsl_model.specs.Jobs.{JobTree}
use Rattle.jsl_model.specs.Names.{is_among}
use Rattle.jsl_model.specs.Targets.{Item, ids, targets_in, item_of, outline, named_in, lists_of, lists_inside, lists_of_flow, lacks_target, lacks_some_target, HasRanks}
use Rattle.jsl_model.specs.Faults.{has_long_text, has_empty, is_too_deep, has_too_many, has_duplicate, tree_fault, IsChecked}
use Rattle.jsl_model.proofs.InnerLists.{inside-flow, inside-split, flow-lists}
use Rattle.walk_rules.specs.declared.work_key.WorkKey.{WorkKey}
use Rattle.walk_rules.specs.declared.facts.Fact.{Fact}
use Rattle.walk_rules.specs.Walk.{WalkedElement, walked_element, value_of}
use Rattle.job_plans.specs.Lists.{has_element, IsOrdered, StandsIn, Itself, InFlow, InSplit, value_from}
use Rattle.job_plans.proofs.Alls.{All-tail, All-held}
use Rattle.job_plans.proofs.Following.{find-walked}
use Rattle.job_plans.proofs.Passing.{both-true}
use Rattle.job_plans.proofs.Points.{no-fault, among-own}
use Rattle.job_plans.proofs.Ranks.{ranked-ids, ranked-walked, list-on}

-- ---- What holds of all lists of a job

-- what holds of all lists of a job, holds of each that stands in it
pub All-standing : (P : List Item → Type 0) (list elements : List Element) → StandsIn list elements → All P (lists_of elements) → P (outline list)
All-standing P list _ Itself h = All-head P (outline list) (flat_map lists_inside list) h
All-standing P list _ (InFlow elements inner element among is stands) h =
    All-standing P list inner stands
    (subst (All P) (inside-flow element inner is) (All-held P lists_inside elements element (All-tail P (outline elements) (flat_map lists_inside elements) h) among))
All-standing P list _ (InSplit elements element flows flow among is flow_among stands) h =
    let inside : All P (flat_map lists_of_flow flows) =
    subst (All P) (inside-split element flows is) (All-held P lists_inside elements element (All-tail P (outline elements) (flat_map lists_inside elements) h) among) in
    All-standing P list (out-SplitFlow flow).elements stands (subst (All P) (flow-lists flow) (All-held P lists_of_flow flows flow inside flow_among))

-- ---- Checked jobs

none-passes : (p : List Item → Bool) (xs : List (List Item)) → list_any p xs ≡ false → All (λ x. p x ≡ false) xs
none-passes p [] h = All-nil (λ x. p x ≡ false)
none-passes p (x ∷ xs) h =
    let parts = or_parts (p x) (list_any p xs) h in
    All-cons (λ x. p x ≡ false) x xs parts.0 (none-passes p xs parts.1)

pub not-fault : (b : Bool) (fault : JobFault) (rest : Option JobFault) → cond b (Some fault) rest ≡ None → b ≡ false
not-fault true fault rest h = cc
not-fault false fault rest h = refl

-- in a checked job nothing is named that is not there
complete-job : (job : JobTree) → IsChecked job → lacks_some_target job.elements ≡ false
complete-job job checked =
    not-fault (lacks_some_target job.elements) NoSuchTarget _
    (no-fault (has_duplicate job) DuplicateId _
    (no-fault (has_too_many job) TooMany _
    (no-fault (is_too_deep job) TooDeep _
    (no-fault (has_empty job) Empty _
    (no-fault (has_long_text job) TextTooLong (tree_fault job) checked.faultless)))))

-- each list of a checked job is ordered
pub ordered : (job : JobTree) → IsChecked job → (list : List Element) → StandsIn list job.elements → IsOrdered (outline list)
ordered job checked list stands = record {
  complete = All-standing (λ items. lacks_target items ≡ false) list job.elements stands (none-passes lacks_target (lists_of job.elements) (complete-job job checked));
  ranked = All-standing HasRanks list job.elements stands checked.ranked;
}

-- ---- Ordered lists

-- the value of an ordered list from an element is what the element comes to by itself, carried on by the list's value
pub goes-on : (list : List Element) → IsOrdered (outline list) → (facts : WorkKey → Fact) (id : List ℕ) (element : Element)
    → find (λ (e : Element). bytes_eq e.id id) list ≡ Some element → value_of facts list id ≡ value_from facts list element
goes-on list is facts id element found =
    let rows : List WalkedElement = map (walked_element facts) list in
    list-on _ rows (ranked-ids rows (ranked-walked facts list is.ranked)) id (walked_element facts element)
    (find-walked facts list id ∙ ap (option_map (walked_element facts)) found)

-- of a checked job: so does each of its lists
pub goes-on-checked : (job : JobTree) → IsChecked job → (list : List Element) → StandsIn list job.elements
    → (facts : WorkKey → Fact) (id : List ℕ) (element : Element)
    → find (λ (e : Element). bytes_eq e.id id) list ≡ Some element → value_of facts list id ≡ value_from facts list element
goes-on-checked job checked list stands = goes-on list (ordered job checked list stands)

-- ---- What is named

not-false : (b : Bool) → not b ≡ false → b ≡ true
not-false true h = refl
not-false false h = cc

one-passes : (p : List ℕ → Bool) (xs : List (List ℕ)) (x : List ℕ) → list_all p xs ≡ true → Contains xs x → p x ≡ true
one-passes p [] x h (k, lt, e) = absurd (omega (arith, lt))
one-passes p (y ∷ ys) x h (zero, lt, e) = ap p (sym e) ∙ (both-true (p y) (list_all p ys) h).0
one-passes p (y ∷ ys) x h (suc k, lt, e) = one-passes p ys x (both-true (p y) (list_all p ys) h).1 (k, omega (arith, lt), e)

held-pass : (p : List ℕ → Bool) (items : List Item) (item : Item) → list_all p (targets_in items) ≡ true → Contains items item → list_all p item.targets ≡ true
held-pass p [] item h (k, lt, e) = absurd (omega (arith, lt))
held-pass p (y ∷ ys) item h (zero, lt, e) =
    ap (λ (i : Item). list_all p i.targets) (sym e)
    ∙ (both-true (list_all p y.targets) (list_all p (targets_in ys)) (sym (list_all-append p y.targets (targets_in ys)) ∙ h)).0
held-pass p (y ∷ ys) item h (suc k, lt, e) =
    held-pass p ys item (both-true (list_all p y.targets) (list_all p (targets_in ys)) (sym (list_all-append p y.targets (targets_in ys)) ∙ h)).1 (k, omega (arith, lt), e)

item-there : (list : List Element) (element : Element) → Contains list element → Contains (outline list) (item_of element)
item-there [] element (k, lt, e) = absurd (omega (arith, lt))
item-there (y ∷ ys) element (zero, lt, e) = (0, omega arith, ap item_of e)
item-there (y ∷ ys) element (suc k, lt, e) =
    let there = item-there ys element (k, omega (arith, lt), e) in (suc there.0, omega (arith, there.1), there.2)

-- what an element of an ordered list names is in the list
pub names-there : (list : List Element) → IsOrdered (outline list) → (element : Element) → Contains list element
    → (to : List ℕ) → Contains (named_in element.next element.transitions) to → has_element list to ≡ true
names-there list is element among to named =
    let held : List ℕ → Bool = is_among (ids (outline list)) in
    sym (among-own list to)
    ∙ one-passes held (named_in element.next element.transitions) to
    (held-pass held (outline list) (item_of element) (not-false (list_all held (targets_in (outline list))) is.complete) (item-there list element among)) named

-- of a checked job: so it is in each of its lists
pub names-there-checked : (job : JobTree) → IsChecked job → (list : List Element) → StandsIn list job.elements
    → (element : Element) → Contains list element → (to : List ℕ) → Contains (named_in element.next element.transitions) to → has_element list to ≡ true
names-there-checked job checked list stands = names-there list (ordered job checked list stands)
