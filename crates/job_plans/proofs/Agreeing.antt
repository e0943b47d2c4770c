-- A walk depends on what is known of the job's work keys alone.
use Rattle.std.specs.List.{All}
use Rattle.std.proofs.lemmas.Grind.{flat_map-append}
use Rattle.std.proofs.lemmas.List.Elements.{All-head}
use Rattle.std.proofs.Common.{◌≡◌, ℕ, Option, Some, None, List, [], ◌∷◌, ◌++◌, map, refl, sym, ◌∙◌, ap, subst}
use Rattle.jsl_model.specs.declared.element.Element.{Element, ind-Element, map-Element, fold-roll-Element}
use Rattle.jsl_model.specs.declared.element.SplitFlow.{SplitFlow, fold-roll-SplitFlow}
use Rattle.jsl_model.specs.declared.element.Body.{Body, Body-F, map-Body, fold-roll-Body}
use Rattle.jsl_model.specs.declared.element.Body.TheOpen.{Step, Flow, Split, Decision}
use Rattle.jsl_model.specs.Trees.{joined}
use Rattle.walk_rules.specs.declared.work_key.WorkKey.{WorkKey}
use Rattle.walk_rules.specs.declared.facts.Fact.{Fact}
use Rattle.walk_rules.specs.declared.facts.Value.{Value}
use Rattle.walk_rules.specs.declared.element_result.ElementResult.{ElementResult}
use Rattle.walk_rules.specs.Walk.{WalkedElement, BodyResult, IsStep, IsDecision, HasResult, known_of, runnable_result, partitioned_result, step_result, list_value, whole_value, flow_result, split_result, body_result, element_result, element_with_result, flow_value, walked_element, walked_body, value_of_flow, value_of}
use Rattle.walk_rules.specs.Keys.{key_of, keys_of_step}
use Rattle.job_plans.specs.Runnables.{keys_of, all_keys, Leaf, Inside, IsRun, Holds, body_leaves, leaves_at, element_leaves, flow_leaves, leaves, leaves_in_body, leaves_of_flow, all_leaves}
use Rattle.job_plans.specs.Lists.{Agree}
use Rattle.job_plans.proofs.Alls.{All-left, All-right, All-tail}

-- a body that is run comes to a step, in as many partitions, or to a decision
abbrev pub RunsAs : Option ℕ → BodyResult → Type 0
RunsAs partitions (IsStep step) = step.partitions ≡ partitions
RunsAs partitions IsDecision = None ≡ partitions
RunsAs partitions (HasResult own_result) = ⊥

-- and so it comes to what is known of its work keys
pub runs-step : (facts : WorkKey → Fact) (id : List ℕ) (partitions : Option ℕ) (part : BodyResult) → RunsAs partitions part
    → element_result facts id part ≡ step_result facts id partitions
runs-step facts id partitions (IsStep step) same = ap (step_result facts id) same
runs-step facts id partitions IsDecision same = ap (step_result facts id) same
runs-step facts id partitions (HasResult own_result) same = absurd same

-- what a body comes to, by both: a step or a decision the same, and what holds others the same where they agree
abbrev BodyPair : (WorkKey → Fact) → (WorkKey → Fact) → Inside → BodyResult → BodyResult → Type 0
BodyPair facts later (IsRun runs partitions) p q = (p ≡ q) × RunsAs partitions p
BodyPair facts later (Holds inside) p q = Agree facts later inside → (r : ElementResult) × (p ≡ HasResult r) × (q ≡ HasResult r)

abbrev BodySame : (WorkKey → Fact) → (WorkKey → Fact) → Body → Type 0
BodySame facts later b = BodyPair facts later (leaves_in_body b) (walked_body facts b) (walked_body later b)

abbrev ElementSame : (WorkKey → Fact) → (WorkKey → Fact) → Element → Type 0
ElementSame facts later e = Agree facts later (leaves e) → walked_element facts e ≡ walked_element later e

abbrev FlowSame : (WorkKey → Fact) → (WorkKey → Fact) → SplitFlow → Type 0
FlowSame facts later f = Agree facts later (leaves_of_flow f) → value_of_flow facts f ≡ value_of_flow later f

abbrev SameElement : (WorkKey → Fact) → (WorkKey → Fact) → Type 0
SameElement facts later = (e : Element) × ElementSame facts later e

abbrev SameFlow : (WorkKey → Fact) → (WorkKey → Fact) → Type 0
SameFlow facts later = (f : SplitFlow) × FlowSame facts later f

abbrev IsAgreed : (WorkKey → Fact) → (WorkKey → Fact) → WorkKey → Type 0
IsAgreed facts later key = facts key ≡ later key

agree-left : (facts later : WorkKey → Fact) (xs ys : List Leaf) → Agree facts later (xs ++ ys) → Agree facts later xs
agree-left facts later xs ys h = All-left (IsAgreed facts later) (all_keys xs) (all_keys ys) (subst (All (IsAgreed facts later)) (flat_map-append keys_of xs ys) h)

agree-right : (facts later : WorkKey → Fact) (xs ys : List Leaf) → Agree facts later (xs ++ ys) → Agree facts later ys
agree-right facts later xs ys h = All-right (IsAgreed facts later) (all_keys xs) (all_keys ys) (subst (All (IsAgreed facts later)) (flat_map-append keys_of xs ys) h)

rows-same : (facts later : WorkKey → Fact) (es : List (SameElement facts later)) → Agree facts later (joined (map leaves (map (λ (e : SameElement facts later). e.0) es)))
    → map (walked_element facts) (map (λ (e : SameElement facts later). e.0) es) ≡ map (walked_element later) (map (λ (e : SameElement facts later). e.0) es)
rows-same facts later [] h = refl
rows-same facts later (e ∷ es) h =
    let rest : List Leaf = joined (map leaves (map (λ (e : SameElement facts later). e.0) es)) in
    let here : walked_element facts e.0 ≡ walked_element later e.0 = e.1 (agree-left facts later (leaves e.0) rest h) in
    let others : map (walked_element facts) (map (λ (e : SameElement facts later). e.0) es) ≡ map (walked_element later) (map (λ (e : SameElement facts later). e.0) es) =
    rows-same facts later es (agree-right facts later (leaves e.0) rest h) in
    cc

values-same : (facts later : WorkKey → Fact) (fs : List (SameFlow facts later)) → Agree facts later (joined (map leaves_of_flow (map (λ (f : SameFlow facts later). f.0) fs)))
    → map (value_of_flow facts) (map (λ (f : SameFlow facts later). f.0) fs) ≡ map (value_of_flow later) (map (λ (f : SameFlow facts later). f.0) fs)
values-same facts later [] h = refl
values-same facts later (f ∷ fs) h =
    let rest : List Leaf = joined (map leaves_of_flow (map (λ (f : SameFlow facts later). f.0) fs)) in
    let here : value_of_flow facts f.0 ≡ value_of_flow later f.0 = f.1 (agree-left facts later (leaves_of_flow f.0) rest h) in
    let others : map (value_of_flow facts) (map (λ (f : SameFlow facts later). f.0) fs) ≡ map (value_of_flow later) (map (λ (f : SameFlow facts later). f.0) fs) =
    values-same facts later fs (agree-right facts later (leaves_of_flow f.0) rest h) in
    cc

abbrev inside_at : Body-F Body Element SplitFlow → Inside
inside_at x = body_leaves (map-Body Body Element SplitFlow Inside (List Leaf) (List Leaf) leaves_in_body leaves leaves_of_flow x)

abbrev part_at : (WorkKey → Fact) → Body-F Body Element SplitFlow → BodyResult
part_at facts x = body_result (map-Body Body Element SplitFlow BodyResult WalkedElement Value (walked_body facts) (walked_element facts) (value_of_flow facts) x)

body-same : (facts later : WorkKey → Fact) (y : Body-F ((b : Body) × BodySame facts later b) (SameElement facts later) (SameFlow facts later))
    → BodyPair facts later (inside_at (map-Body _ _ _ Body Element SplitFlow (λ e. e.0) (λ e. e.0) (λ e. e.0) y))
    (part_at facts (map-Body _ _ _ Body Element SplitFlow (λ e. e.0) (λ e. e.0) (λ e. e.0) y)) (part_at later (map-Body _ _ _ Body Element SplitFlow (λ e. e.0) (λ e. e.0) (λ e. e.0) y))
body-same facts later (Step step) = (refl, refl)
body-same facts later (Decision artifact) = (refl, refl)
body-same facts later (Flow es) =
    λ h. (flow_result (whole_value (map (walked_element facts) (map (λ (e : SameElement facts later). e.0) es))), refl, ap (λ rows. HasResult (flow_result (whole_value rows))) (sym (rows-same facts later es h)))
body-same facts later (Split fs) =
    λ h. (split_result (map (value_of_flow facts) (map (λ (f : SameFlow facts later). f.0) fs)), refl, ap (λ values. HasResult (split_result values)) (sym (values-same facts later fs h)))

known-same : (facts later : WorkKey → Fact) (keys : List WorkKey) → All (IsAgreed facts later) keys → known_of facts keys ≡ known_of later keys
known-same facts later [] h = refl
known-same facts later (key ∷ keys) h =
    let here : facts key ≡ later key = All-head (IsAgreed facts later) key keys h in
    let others : known_of facts keys ≡ known_of later keys = known-same facts later keys (All-tail (IsAgreed facts later) key keys h) in
    cc

step-same : (facts later : WorkKey → Fact) (id : List ℕ) (partitions : Option ℕ) → All (IsAgreed facts later) (keys_of_step id partitions)
    → step_result facts id partitions ≡ step_result later id partitions
step-same facts later id None h = ap (runnable_result (key_of id 0)) (All-head (IsAgreed facts later) (key_of id 0) [] h)
step-same facts later id (Some count) h = ap partitioned_result (known-same facts later (keys_of_step id (Some count)) h)

part-same : (facts later : WorkKey → Fact) (id : List ℕ) (inside : Inside) (p q : BodyResult) → BodyPair facts later inside p q → Agree facts later (leaves_at id inside)
    → element_result facts id p ≡ element_result later id q
part-same facts later id (IsRun runs partitions) p q same h =
    runs-step facts id partitions p same.1
    ∙ (step-same facts later id partitions (All-left (IsAgreed facts later) (keys_of_step id partitions) [] h)
    ∙ (sym (runs-step later id partitions p same.1) ∙ ap (element_result later id) same.0))
part-same facts later id (Holds inside) p q same h = let r = same h in rw r.1 (rw r.2 refl)

-- two facts functions that agree on the steps and decisions in an element give it the same result
pub element-same : (facts later : WorkKey → Fact) (e : Element) → Agree facts later (leaves e) → walked_element facts e ≡ walked_element later e
element-same facts later =
    ind-Element (BodySame facts later) (ElementSame facts later) (FlowSame facts later)
    (λ x y is.
    rw (fold-roll-Body BodyResult WalkedElement Value body_result (element_with_result facts) flow_value x)
    (rw (fold-roll-Body BodyResult WalkedElement Value body_result (element_with_result later) flow_value x)
    (rw (fold-roll-Body Inside (List Leaf) (List Leaf) body_leaves element_leaves flow_leaves x)
    (subst (λ z. BodyPair facts later (inside_at z) (part_at facts z) (part_at later z)) is (body-same facts later y)))))
    (λ x y is.
    rw (fold-roll-Element BodyResult WalkedElement Value body_result (element_with_result facts) flow_value x)
    (rw (fold-roll-Element BodyResult WalkedElement Value body_result (element_with_result later) flow_value x)
    (rw (fold-roll-Element Inside (List Leaf) (List Leaf) body_leaves element_leaves flow_leaves x)
    (subst (λ z. Agree facts later (element_leaves (map-Element Body Element SplitFlow Inside (List Leaf) (List Leaf) leaves_in_body leaves leaves_of_flow z))
    → element_with_result facts (map-Element Body Element SplitFlow BodyResult WalkedElement Value (walked_body facts) (walked_element facts) (value_of_flow facts) z)
    ≡ element_with_result later (map-Element Body Element SplitFlow BodyResult WalkedElement Value (walked_body later) (walked_element later) (value_of_flow later) z)) is
    (λ h. ap (λ (r : ElementResult). record { id = y.id; next = y.next; transitions = y.transitions; own_result = r })
    (part-same facts later y.id (leaves_in_body y.body.0) (walked_body facts y.body.0) (walked_body later y.body.0) y.body.1 h))))))
    (λ x y is.
    rw (fold-roll-SplitFlow BodyResult WalkedElement Value body_result (element_with_result facts) flow_value x)
    (rw (fold-roll-SplitFlow BodyResult WalkedElement Value body_result (element_with_result later) flow_value x)
    (rw (fold-roll-SplitFlow Inside (List Leaf) (List Leaf) body_leaves element_leaves flow_leaves x)
    (subst (λ z. Agree facts later (joined (map leaves z.elements)) → whole_value (map (walked_element facts) z.elements) ≡ whole_value (map (walked_element later) z.elements)) is
    (λ h. ap whole_value (rows-same facts later y.elements h))))))

walked-same : (facts later : WorkKey → Fact) (elements : List Element) → Agree facts later (all_leaves elements)
    → map (walked_element facts) elements ≡ map (walked_element later) elements
walked-same facts later [] h = refl
walked-same facts later (e ∷ es) h =
    let here : walked_element facts e ≡ walked_element later e = element-same facts later e (agree-left facts later (leaves e) (all_leaves es) h) in
    let others : map (walked_element facts) es ≡ map (walked_element later) es = walked-same facts later es (agree-right facts later (leaves e) (all_leaves es) h) in
    cc

-- two facts functions that agree on the steps and decisions of a list give it the same value
pub value-same : (facts later : WorkKey → Fact) (elements : List Element) → Agree facts later (all_leaves elements)
    → (from : List ℕ) → value_of facts elements from ≡ value_of later elements from
value-same facts later elements h from = ap (λ rows. list_value rows from) (walked-same facts later elements h)
