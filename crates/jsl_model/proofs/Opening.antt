-- The elements inside an element, one layer at a time.
use Rattle.std.proofs.Common.{◌≡◌, ℕ, List, [], ◌∷◌, ◌++◌, map, refl, sym, ◌∙◌, ap, subst}
use Rattle.std.specs.List.{flat_map}
use Rattle.jsl_model.specs.declared.element.Step.{Step as StepRecord}
use Rattle.jsl_model.specs.declared.element.Element.{Element, fold_out-Element}
use Rattle.jsl_model.specs.declared.element.SplitFlow.{SplitFlow, out-SplitFlow, roll-SplitFlow, fold_out-SplitFlow, fold-roll-SplitFlow}
use Rattle.jsl_model.specs.declared.element.Body.{Body, roll-Body, fold-roll-Body}
use Rattle.jsl_model.specs.declared.element.Body.TheVariants.{Step, Flow, Split, Decision, rolls-Step, rolls-Flow, rolls-Split, rolls-Decision}
use Rattle.jsl_model.specs.declared.element.Body.TheOpen.{Body-F, Element-F, SplitFlow-F, Step as OpenStep, Flow as OpenFlow, Split as OpenSplit, Decision as OpenDecision}
use Rattle.jsl_model.specs.declared.element.Body.TheFolds.{ind-Element, map-Body}
use Rattle.jsl_model.specs.Trees.{Opened, opened_elements, body_opened, element_opened, flow_opened, open_element, open_body, open_flow, elements_in_body, elements_in_flow, all_elements}

abbrev IsWholeBody : Body → Type 0
IsWholeBody b = (open_body b).whole ≡ b

abbrev IsWholeElement : Element → Type 0
IsWholeElement e = (open_element e).whole ≡ e

abbrev IsWholeFlow : SplitFlow → Type 0
IsWholeFlow f = (open_flow f).whole ≡ f

abbrev WholeBody : Type 0
WholeBody = (b : Body) × IsWholeBody b

abbrev WholeElement : Type 0
WholeElement = (e : Element) × IsWholeElement e

abbrev WholeFlow : Type 0
WholeFlow = (f : SplitFlow) × IsWholeFlow f

elements_whole : (es : List WholeElement) → map (λ (o : Opened Element). o.whole) (map open_element (map (λ (e : WholeElement). e.0) es)) ≡ map (λ (e : WholeElement). e.0) es
elements_whole [] = refl
elements_whole (e ∷ es) = cc (e.1, elements_whole es)

flows_whole : (fs : List WholeFlow) → map (λ (o : Opened SplitFlow). o.whole) (map open_flow (map (λ (f : WholeFlow). f.0) fs)) ≡ map (λ (f : WholeFlow). f.0) fs
flows_whole [] = refl
flows_whole (f ∷ fs) = cc (f.1, flows_whole fs)

opened_body : (x : Body-F Body Element SplitFlow) → open_body (roll-Body x) ≡ body_opened (map-Body Body Element SplitFlow (Opened Body) (Opened Element) (Opened SplitFlow) open_body open_element open_flow x)
opened_body x = fold-roll-Body (Opened Body) (Opened Element) (Opened SplitFlow) body_opened element_opened flow_opened x

body_step : (y : Body-F WholeBody WholeElement WholeFlow) → IsWholeBody (roll-Body (map-Body WholeBody WholeElement WholeFlow Body Element SplitFlow (λ e. e.0) (λ e. e.0) (λ e. e.0) y))
body_step (OpenStep s) = ap (λ (o : Opened Body). o.whole) (opened_body (OpenStep s)) ∙ sym (rolls-Step s)
body_step (OpenFlow es) =
    let inner : List Element = map (λ (e : WholeElement). e.0) es in
    ap (λ (o : Opened Body). o.whole) (opened_body (OpenFlow inner)) ∙ (ap Flow (elements_whole es) ∙ sym (rolls-Flow inner))
body_step (OpenSplit fs) =
    let inner : List SplitFlow = map (λ (f : WholeFlow). f.0) fs in
    ap (λ (o : Opened Body). o.whole) (opened_body (OpenSplit inner)) ∙ (ap Split (flows_whole fs) ∙ sym (rolls-Split inner))
body_step (OpenDecision artifact) = ap (λ (o : Opened Body). o.whole) (opened_body (OpenDecision artifact)) ∙ sym (rolls-Decision artifact)

opened_element : (e : Element) → open_element e ≡ element_opened record { id = e.id; next = e.next; transitions = e.transitions; body = open_body e.body }
opened_element e = fold_out-Element (Opened Body) (Opened Element) (Opened SplitFlow) body_opened element_opened flow_opened e

-- an element whose body is whole is whole
of_body : (e : Element) → IsWholeBody e.body → IsWholeElement e
of_body e whole =
    ap (λ (o : Opened Element). o.whole) (opened_element e)
    ∙ ap (λ (b : Body). record { id = e.id; next = e.next; transitions = e.transitions; body = b }) whole

flow_step : (y : SplitFlow-F WholeBody WholeElement WholeFlow) → IsWholeFlow (roll-SplitFlow record { id = y.id; elements = map (λ (e : WholeElement). e.0) y.elements })
flow_step y =
    let inner : List Element = map (λ (e : WholeElement). e.0) y.elements in
    ap (λ (o : Opened SplitFlow). o.whole)
    (fold-roll-SplitFlow (Opened Body) (Opened Element) (Opened SplitFlow) body_opened element_opened flow_opened record { id = y.id; elements = inner })
    ∙ ap (λ (es : List Element). roll-SplitFlow record { id = y.id; elements = es }) (elements_whole y.elements)

-- an element that was opened is whole
pub element_whole : (e : Element) → (open_element e).whole ≡ e
element_whole = ind-Element IsWholeBody IsWholeElement IsWholeFlow
    (λ x y is. subst (λ z. IsWholeBody (roll-Body z)) is (body_step y))
    (λ x y is. subst (λ (z : Element-F Body Element SplitFlow). IsWholeElement record { id = z.id; next = z.next; transitions = z.transitions; body = z.body }) is (of_body record { id = y.id; next = y.next; transitions = y.transitions; body = y.body.0 } y.body.1))
    (λ x y is. subst (λ z. IsWholeFlow (roll-SplitFlow z)) is (flow_step y))

-- what is inside an element is what is inside its body
inside_element : (e : Element) → (open_element e).inside ≡ elements_in_body e.body
inside_element e = ap (λ (o : Opened Element). o.inside) (opened_element e)

all_opened : (es : List Element) → opened_elements (map open_element es) ≡ all_elements es
all_opened [] = refl
all_opened (e ∷ es) = cc (element_whole e, inside_element e, all_opened es)

-- the elements inside a step
pub in_step : (s : StepRecord) → elements_in_body (Step s) ≡ []
in_step s = ap elements_in_body (sym (rolls-Step s)) ∙ ap (λ (o : Opened Body). o.inside) (opened_body (OpenStep s))

-- the elements inside a flow
pub in_flow : (es : List Element) → elements_in_body (Flow es) ≡ all_elements es
in_flow es = ap elements_in_body (sym (rolls-Flow es)) ∙ (ap (λ (o : Opened Body). o.inside) (opened_body (OpenFlow es)) ∙ all_opened es)

in_flows : (fs : List SplitFlow) → flat_map (λ (o : Opened SplitFlow). o.inside) (map open_flow fs) ≡ flat_map elements_in_flow fs
in_flows [] = refl
in_flows (f ∷ fs) = ap (λ (es : List Element). elements_in_flow f ++ es) (in_flows fs)

-- the elements inside a split
pub in_split : (fs : List SplitFlow) → elements_in_body (Split fs) ≡ flat_map elements_in_flow fs
in_split fs = ap elements_in_body (sym (rolls-Split fs)) ∙ (ap (λ (o : Opened Body). o.inside) (opened_body (OpenSplit fs)) ∙ in_flows fs)

-- the elements inside a decision
pub in_decision : (artifact : List ℕ) → elements_in_body (Decision artifact) ≡ []
in_decision artifact = ap elements_in_body (sym (rolls-Decision artifact)) ∙ ap (λ (o : Opened Body). o.inside) (opened_body (OpenDecision artifact))

-- the elements inside a flow of a split are those of its list
pub in_split_flow : (f : SplitFlow) → elements_in_flow f ≡ all_elements (out-SplitFlow f).elements
in_split_flow f =
    ap (λ (o : Opened SplitFlow). o.inside)
    (fold_out-SplitFlow (Opened Body) (Opened Element) (Opened SplitFlow) body_opened element_opened flow_opened f)
    ∙ all_opened (out-SplitFlow f).elements
