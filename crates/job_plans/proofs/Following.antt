-- Finding in a list, and one element further along a list.
use Rattle.std.proofs.Common.{◌≡◌, ℕ, suc, ◌+◌, ◌-◌, ◌<◌, ◌≤◌, Bool, true, false, cond, None, Some, List, [], ◌∷◌, length, map, find, get_or, slice_get, refl, sym, ◌∙◌, ap, arith}
use Rattle.std.proofs.lemmas.List.{length-map}
use Rattle.std.specs.Option.{option_map}
use Rattle.std.proofs.lemmas.Option.{slice_get_read}
use Rattle.std.specs.Str.{bytes_eq}
use Rattle.std.specs.Cmp.Lexicographic.{bytes_decides}
use Rattle.job_plans.specs.Lists.{has_element}
use Rattle.jsl_model.specs.declared.element.Element.{Element, fold_out-Element}
use Rattle.jsl_model.specs.declared.element.SplitFlow.{SplitFlow, out-SplitFlow, fold_out-SplitFlow}
use Rattle.jsl_model.specs.declared.element.Step.{Step as ItsStep}
use Rattle.jsl_model.specs.declared.element.Body.{fold-roll-Body}
use Rattle.jsl_model.specs.declared.element.Body.TheVariants.{Step, Decision, Flow, Split, rolls-Step, rolls-Decision, rolls-Flow, rolls-Split}
use Rattle.jsl_model.specs.declared.element.Body.TheOpen.{Step as OpenStep, Decision as OpenDecision, Flow as OpenFlow, Split as OpenSplit}
use Rattle.walk_rules.specs.declared.work_key.WorkKey.{WorkKey}
use Rattle.walk_rules.specs.declared.facts.Fact.{Fact}
use Rattle.batch_ids.specs.declared.status.WorkOutcome.{WorkOutcome}
use Rattle.walk_rules.specs.declared.element_result.ElementResult.TheVariants.{ListValue, Outcome}
use Rattle.walk_rules.specs.declared.continuation.Continuation.{Continuation}
use Rattle.walk_rules.specs.declared.facts.Value.{Value}
use Rattle.walk_rules.specs.declared.facts.Value.TheVariants.{Done}
use Rattle.transitions.specs.Transitions.{matching_transition}
use Rattle.walk_rules.specs.Keys.{key_of}
use Rattle.walk_rules.specs.Walk.{WalkedElement, BodyResult, walked_element, walked_body, element_result, body_result, element_with_result, flow_value, follow, list_value, whole_value, value_by_result, value_at, value_after_outcome, value_of, value_of_continuation, value_of_flow, runnable_result, step_result, flow_result, split_result}

-- an element with its own result, part by part
pub walked_element-parts : (facts : WorkKey → Fact) (e : Element)
    → walked_element facts e ≡ record { id = e.id; next = e.next; transitions = e.transitions; own_result = element_result facts e.id (walked_body facts e.body) }
walked_element-parts facts e = fold_out-Element BodyResult WalkedElement Value body_result (element_with_result facts) flow_value e

-- ---- What an element comes to by itself, by its body

by-body : (facts : WorkKey → Fact) (e : Element) (part : BodyResult) → walked_body facts e.body ≡ part → (walked_element facts e).own_result ≡ element_result facts e.id part
by-body facts e part is = ap (λ (r : WalkedElement). r.own_result) (walked_element-parts facts e) ∙ ap (element_result facts e.id) is

pub walked-step : (facts : WorkKey → Fact) (e : Element) (step : ItsStep) → e.body ≡ Step step → (walked_element facts e).own_result ≡ step_result facts e.id step.partitions
walked-step facts e step is =
    by-body facts e (body_result (OpenStep step))
    (ap (walked_body facts) (is ∙ sym (rolls-Step step)) ∙ fold-roll-Body BodyResult WalkedElement Value body_result (element_with_result facts) flow_value (OpenStep step))

pub walked-decision : (facts : WorkKey → Fact) (e : Element) (artifact : List ℕ) → e.body ≡ Decision artifact
    → (walked_element facts e).own_result ≡ runnable_result (key_of e.id 0) (facts (key_of e.id 0))
walked-decision facts e artifact is =
    by-body facts e (body_result (OpenDecision artifact))
    (ap (walked_body facts) (is ∙ sym (rolls-Decision artifact)) ∙ fold-roll-Body BodyResult WalkedElement Value body_result (element_with_result facts) flow_value (OpenDecision artifact))

pub walked-flow : (facts : WorkKey → Fact) (e : Element) (es : List Element) → e.body ≡ Flow es
    → (walked_element facts e).own_result ≡ flow_result (whole_value (map (walked_element facts) es))
walked-flow facts e es is =
    by-body facts e (body_result (OpenFlow (map (walked_element facts) es)))
    (ap (walked_body facts) (is ∙ sym (rolls-Flow es)) ∙ fold-roll-Body BodyResult WalkedElement Value body_result (element_with_result facts) flow_value (OpenFlow es))

pub walked-split : (facts : WorkKey → Fact) (e : Element) (flows : List SplitFlow) → e.body ≡ Split flows
    → (walked_element facts e).own_result ≡ split_result (map (value_of_flow facts) flows)
walked-split facts e flows is =
    by-body facts e (body_result (OpenSplit (map (value_of_flow facts) flows)))
    (ap (walked_body facts) (is ∙ sym (rolls-Split flows)) ∙ fold-roll-Body BodyResult WalkedElement Value body_result (element_with_result facts) flow_value (OpenSplit flows))

pub flow-parts : (facts : WorkKey → Fact) (flow : SplitFlow) → value_of_flow facts flow ≡ whole_value (map (walked_element facts) (out-SplitFlow flow).elements)
flow-parts facts flow = fold_out-SplitFlow BodyResult WalkedElement Value body_result (element_with_result facts) flow_value flow

-- ---- A list from its first element

pub whole-none : (facts : WorkKey → Fact) (es : List Element) → None ≡ slice_get es 0 → Done [] ≡ whole_value (map (walked_element facts) es)
whole-none facts [] none = refl
whole-none facts (e ∷ es) none = cc

pub whole-some : (facts : WorkKey → Fact) (es : List Element) (e : Element) → Some e ≡ slice_get es 0 → value_of facts es e.id ≡ whole_value (map (walked_element facts) es)
whole-some facts [] e some = cc
whole-some facts (x ∷ es) e some =
    let same : e ≡ x = cc in
    let named : e.id ≡ (walked_element facts x).id = ap (λ (y : Element). y.id) same ∙ sym (ap (λ (r : WalkedElement). r.id) (walked_element-parts facts x)) in
    ap (list_value (map (walked_element facts) (x ∷ es))) named

pub first-among : (es : List Element) (e : Element) → Some e ≡ slice_get es 0 → has_element es e.id ≡ true
first-among [] e some = cc
first-among (x ∷ es) e some =
    let same : x ≡ e = cc in
    let on : bytes_eq x.id e.id ≡ true = (bytes_decides x.id e.id).1 (ap (λ (y : Element). y.id) same) in
    rw on refl

-- ---- Finding

pub find-map : {X Y : Type 0} (f : X → Y) (p : Y → Bool) (q : X → Bool) → ((x : X) → p (f x) ≡ q x) → (xs : List X)
    → find p (map f xs) ≡ option_map f (find q xs)
find-map f p q same [] = refl
find-map f p q same (x ∷ xs) =
    rw (same x) (elim (q x) as (λ b. cond b (Some (f x)) (find p (map f xs)) ≡ option_map f (cond b (Some x) (find q xs))) [
      | true ↦ refl
      | false ↦ find-map f p q same xs
    ])

pub find-walked : (facts : WorkKey → Fact) (es : List Element) (id : List ℕ)
    → find (λ (row : WalkedElement). bytes_eq row.id id) (map (walked_element facts) es) ≡ option_map (walked_element facts) (find (λ e. bytes_eq e.id id) es)
find-walked facts es id =
    find-map (walked_element facts) (λ row. bytes_eq row.id id) (λ e. bytes_eq e.id id) (λ e. ap (λ (r : WalkedElement). bytes_eq r.id id) (walked_element-parts facts e)) es

abbrev pub rows : (WorkKey → Fact) → List Element → List WalkedElement
rows facts es = map (walked_element facts) es

pub follow-more : (rs : List WalkedElement) (id : List ℕ) (n i : ℕ) → i < n
    → follow (n - i) rs id ≡ value_at (follow (n - (i + 1)) rs) (find (λ (row : WalkedElement). bytes_eq row.id id) rs)
follow-more rs id n i lt = let e : n - i ≡ suc (n - (i + 1)) = omega arith in rw e refl

pub follow-begins : (facts : WorkKey → Fact) (es : List Element) (id from : List ℕ) → id ≡ from
    → follow (length es - 0) (rows facts es) id ≡ follow (length (rows facts es)) (rows facts es) from
follow-begins facts es id from is =
    let l = length-map es (walked_element facts) in
    let n : length es - 0 ≡ length (rows facts es) = omega (arith, l) in
    ap (follow (length es - 0) (rows facts es)) is ∙ ap (λ k. follow k (rows facts es) from) n

pub follow-ends : (facts : WorkKey → Fact) (es : List Element) (id : List ℕ) (i : ℕ) → length es ≤ i → Done [] ≡ follow (length es - i) (rows facts es) id
follow-ends facts es id i past =
    let n : 0 ≡ length es - i = omega (arith, past) in
    ap (λ k. follow k (rows facts es) id) n

pub follow-none : (facts : WorkKey → Fact) (es : List Element) (id : List ℕ) (i : ℕ) → i < length es
    → find (λ e. bytes_eq e.id id) es ≡ None
    → follow (length es - i) (rows facts es) id ≡ Done []
follow-none facts es id i lt none =
    follow-more (rows facts es) id (length es) i lt
    ∙ ap (value_at (follow (length es - (i + 1)) (rows facts es))) (find-walked facts es id ∙ ap (option_map (walked_element facts)) none)

pub follow-some : (facts : WorkKey → Fact) (es : List Element) (id : List ℕ) (i k : ℕ) (e : Element) → i < length es
    → find (λ e. bytes_eq e.id id) es ≡ slice_get es k → k < length es → e ≡ get_or es k e
    → follow (length es - i) (rows facts es) id ≡ value_by_result (follow (length es - (i + 1)) (rows facts es)) (walked_element facts e) (walked_element facts e).own_result
follow-some facts es id i k e lt found within is =
    follow-more (rows facts es) id (length es) i lt
    ∙ ap (value_at (follow (length es - (i + 1)) (rows facts es))) (find-walked facts es id ∙ ap (option_map (walked_element facts)) (found ∙ slice_get_read es (length es) k e refl within is))

pub follow-to_value : (facts : WorkKey → Fact) (es : List Element) (id : List ℕ) (i k : ℕ) (e : Element) (v : Value) → i < length es
    → find (λ e. bytes_eq e.id id) es ≡ slice_get es k → k < length es → e ≡ get_or es k e
    → (walked_element facts e).own_result ≡ ListValue v
    → follow (length es - i) (rows facts es) id ≡ v
follow-to_value facts es id i k e v lt found within is own_result =
    follow-some facts es id i k e lt found within is
    ∙ ap (value_by_result (follow (length es - (i + 1)) (rows facts es)) (walked_element facts e)) own_result

pub follow-on : (facts : WorkKey → Fact) (es : List Element) (id : List ℕ) (i k : ℕ) (e : Element) (o : WorkOutcome) (x : List ℕ) (turn : Continuation) → i < length es
    → find (λ e. bytes_eq e.id id) es ≡ slice_get es k → k < length es → e ≡ get_or es k e
    → (walked_element facts e).own_result ≡ Outcome o x
    → ((on : List ℕ → Value) → value_after_outcome on e.next (matching_transition e.transitions x) o x ≡ value_of_continuation on turn)
    → follow (length es - i) (rows facts es) id ≡ value_of_continuation (follow (length es - (i + 1)) (rows facts es)) turn
follow-on facts es id i k e o x turn lt found within is own_result leads =
    let on = follow (length es - (i + 1)) (rows facts es) in
    follow-some facts es id i k e lt found within is
    ∙ (ap (value_by_result on (walked_element facts e)) own_result
    ∙ (ap (λ (r : WalkedElement). value_by_result on r (Outcome o x)) (walked_element-parts facts e)
    ∙ leads on))
