-- The lists inside an element, one layer at a time, and lists that are put together.
use Rattle.std.proofs.Common.{◌≡◌, ℕ, ◌+◌, ◌<◌, ◌≤◌, Bor, List, [], ◌∷◌, ◌++◌, length, map, drop, get_or, append_assoc, refl, sym, ◌∙◌, ap}
use Rattle.std.proofs.lemmas.List.{drop_more, drop_all, map-append}
use Rattle.std.specs.List.{flat_map}
use Rattle.jsl_model.specs.declared.element.Element.{Element, fold_out-Element}
use Rattle.jsl_model.specs.declared.element.SplitFlow.{SplitFlow, out-SplitFlow, fold_out-SplitFlow}
use Rattle.jsl_model.specs.declared.element.Step.{Step as StepBody}
use Rattle.jsl_model.specs.declared.element.Body.{fold-roll-Body}
use Rattle.jsl_model.specs.declared.element.Body.TheVariants.{Step, Flow, Split, Decision, rolls-Step, rolls-Flow, rolls-Split, rolls-Decision}
use Rattle.jsl_model.specs.declared.element.Body.TheOpen.{Step as OpenStep, Flow as OpenFlow, Split as OpenSplit, Decision as OpenDecision}
use Rattle.jsl_model.specs.Targets.{Item, ItemLists, item_of, outline, body_lists, element_lists, flow_lists, lists_in_body, lists_of_flow, item_lists_of, lists_of_items, lists_inside, lists_of}

-- the outlines of borrowed lists
abbrev pub outlines : List (Bor (List Element)) → List (List Item)
outlines lists = map (λ list. outline list.now) lists

item-same : (e : Element) → (item_lists_of e).item ≡ item_of e
item-same e = ap (λ (p : ItemLists). p.item) (fold_out-Element (List (List Item)) ItemLists (List (List Item)) body_lists element_lists flow_lists e)

items-of_items : (es : List Element) → map (λ (p : ItemLists). p.item) (map item_lists_of es) ≡ outline es
items-of_items [] = refl
items-of_items (e ∷ es) = cc (item-same e, items-of_items es)

insides-of_items : (es : List Element) → flat_map (λ (p : ItemLists). p.inside) (map item_lists_of es) ≡ flat_map lists_inside es
insides-of_items [] = refl
insides-of_items (e ∷ es) = ap (λ (xs : List (List Item)). lists_inside e ++ xs) (insides-of_items es)

lists-of_items : (es : List Element) → lists_of_items (map item_lists_of es) ≡ lists_of es
lists-of_items es = cc (items-of_items es, insides-of_items es)

inside-body : (e : Element) → lists_inside e ≡ lists_in_body e.body
inside-body e = ap (λ (p : ItemLists). p.inside) (fold_out-Element (List (List Item)) ItemLists (List (List Item)) body_lists element_lists flow_lists e)

body-flow : (es : List Element) → lists_in_body (Flow es) ≡ lists_of_items (map item_lists_of es)
body-flow es = ap lists_in_body (sym (rolls-Flow es)) ∙ fold-roll-Body (List (List Item)) ItemLists (List (List Item)) body_lists element_lists flow_lists (OpenFlow es)

flows-flat : (flows : List SplitFlow) → flat_map (λ (lists : List (List Item)). lists) (map lists_of_flow flows) ≡ flat_map lists_of_flow flows
flows-flat [] = refl
flows-flat (f ∷ flows) = ap (λ (xs : List (List Item)). lists_of_flow f ++ xs) (flows-flat flows)

body-split : (flows : List SplitFlow) → lists_in_body (Split flows) ≡ flat_map lists_of_flow flows
body-split flows = ap lists_in_body (sym (rolls-Split flows)) ∙ (fold-roll-Body (List (List Item)) ItemLists (List (List Item)) body_lists element_lists flow_lists (OpenSplit flows) ∙ flows-flat flows)

pub inside-flow : (e : Element) (es : List Element) → e.body ≡ Flow es → lists_inside e ≡ lists_of es
inside-flow e es is = inside-body e ∙ (ap lists_in_body is ∙ (body-flow es ∙ lists-of_items es))

pub inside-split : (e : Element) (flows : List SplitFlow) → e.body ≡ Split flows → lists_inside e ≡ flat_map lists_of_flow flows
inside-split e flows is = inside-body e ∙ (ap lists_in_body is ∙ body-split flows)

pub inside-step : (e : Element) (s : StepBody) → e.body ≡ Step s → lists_inside e ≡ []
inside-step e s is = inside-body e ∙ (ap lists_in_body is ∙ (ap lists_in_body (sym (rolls-Step s)) ∙ fold-roll-Body (List (List Item)) ItemLists (List (List Item)) body_lists element_lists flow_lists (OpenStep s)))

pub inside-decision : (e : Element) (s : List ℕ) → e.body ≡ Decision s → lists_inside e ≡ []
inside-decision e s is = inside-body e ∙ (ap lists_in_body is ∙ (ap lists_in_body (sym (rolls-Decision s)) ∙ fold-roll-Body (List (List Item)) ItemLists (List (List Item)) body_lists element_lists flow_lists (OpenDecision s)))

-- the lists of a flow are those of its elements
pub flow-lists : (f : SplitFlow) → lists_of_flow f ≡ lists_of (out-SplitFlow f).elements
flow-lists f = fold_out-SplitFlow (List (List Item)) ItemLists (List (List Item)) body_lists element_lists flow_lists f ∙ lists-of_items (out-SplitFlow f).elements

no-more : (xs : List (List Item)) → xs ++ [] ≡ xs
no-more [] = refl
no-more (x ∷ xs) = ap (λ (ys : List (List Item)). x ∷ ys) (no-more xs)

-- a list is added, and what is inside its elements is left
pub added-first : (lists new : List (Bor (List Element))) (list : Bor (List Element)) → new ≡ lists ++ list ∷ []
    → outlines new ++ flat_map lists_inside list.now ≡ outlines lists ++ lists_of list.now
added-first lists new list is =
    ap (λ (ls : List (Bor (List Element))). outlines ls ++ flat_map lists_inside list.now) is
    ∙ (ap (λ (ls : List (List Item)). ls ++ flat_map lists_inside list.now) (map-append (λ (l : Bor (List Element)). outline l.now) lists (list ∷ []))
    ∙ append_assoc (outlines lists) (outline list.now ∷ []) (flat_map lists_inside list.now))

-- what this one has is added, and less is left
pub added-next : {X : Type 0} (inside : X → List (List Item)) (xs : List X) (i : ℕ) (x : X) (before after whole : List (List Item))
    → i < length xs → x ≡ get_or xs i x → after ≡ before ++ inside x
    → before ++ flat_map inside (drop i xs) ≡ whole → after ++ flat_map inside (drop (i + 1) xs) ≡ whole
added-next inside xs i x before after whole h is added left =
    let rest : List (List Item) = flat_map inside (drop (i + 1) xs) in
    ap (λ (ls : List (List Item)). ls ++ rest) added
    ∙ (append_assoc before (inside x) rest
    ∙ (ap (λ y. before ++ (inside y ++ rest)) is
    ∙ (ap (λ ys. before ++ flat_map inside ys) (sym (drop_more xs i x h)) ∙ left)))

-- nothing is left
pub added-all : {X : Type 0} (inside : X → List (List Item)) (xs : List X) (i : ℕ) (before whole : List (List Item))
    → length xs ≤ i → before ++ flat_map inside (drop i xs) ≡ whole → before ≡ whole
added-all inside xs i before whole h left =
    sym (no-more before) ∙ (ap (λ ys. before ++ flat_map inside ys) (sym (drop_all i xs h)) ∙ left)

-- nothing was inside
pub added-none : (lists inside : List (List Item)) → inside ≡ [] → lists ≡ lists ++ inside
added-none lists inside is = sym (ap (λ (ls : List (List Item)). lists ++ ls) is ∙ no-more lists)
