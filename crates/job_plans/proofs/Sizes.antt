-- How much a list, an element and a flow hold: less the deeper they lie.
use Rattle.std.proofs.Common.{◌≡◌, ℕ, zero, suc, ◌+◌, ◌<◌, ◌≤◌, List, [], ◌∷◌, length, length-append, map, get_or, sym, ◌∙◌, ap, arith}
use Rattle.jsl_model.specs.Trees.{joined, Node, BodyNodes, body_nodes, element_nodes, flow_nodes, nodes_of, in_body, nodes_of_flow, nodes}
use Rattle.jsl_model.specs.declared.element.Element.{Element, fold_out-Element}
use Rattle.jsl_model.specs.declared.element.SplitFlow.{SplitFlow, out-SplitFlow, fold_out-SplitFlow}
use Rattle.jsl_model.specs.declared.element.Body.{fold-roll-Body}
use Rattle.jsl_model.specs.declared.element.Body.TheVariants.{Flow, Split, rolls-Flow, rolls-Split}
use Rattle.jsl_model.specs.declared.element.Body.TheOpen.{Flow as OpenFlow, Split as OpenSplit}

-- one of several
joined-holds : {X Y : Type 0} (g : X → List Y) (xs : List X) (k : ℕ) (x : X) → k < length xs → x ≡ get_or xs k x → length (g x) ≤ length (joined (map g xs))
joined-holds g [] k x lt is = absurd (omega (arith, lt))
joined-holds g (y ∷ xs) zero x lt is =
    let same : length (g x) ≡ length (g y) = ap (λ z. length (g z)) is in
    let l = length-append (g y) (joined (map g xs)) in
    omega (arith, same, l)
joined-holds g (y ∷ xs) (suc k) x lt is =
    let more = joined-holds g xs k x (omega (arith, lt)) is in
    let l = length-append (g y) (joined (map g xs)) in
    omega (arith, more, l)

-- an element of a list
pub nodes-at : (es : List Element) (k : ℕ) (e : Element) → k < length es → e ≡ get_or es k e → length (nodes_of e) ≤ length (nodes es)
nodes-at = joined-holds nodes_of

body-below : (e : Element) → length (nodes_of e) ≡ suc (length (in_body e.body).nodes)
body-below e = ap length (fold_out-Element BodyNodes (List Node) (List Node) body_nodes element_nodes flow_nodes e)

-- the list of a flow
pub nodes-flow : (e : Element) (es those : List Element) → e.body ≡ Flow es → those ≡ es → length (nodes those) + 1 ≤ length (nodes_of e)
nodes-flow e es those is same =
    let here : (in_body e.body).nodes ≡ nodes es =
    ap (λ b. (in_body b).nodes) is
    ∙ ap (λ (x : BodyNodes). x.nodes) (ap in_body (sym (rolls-Flow es)) ∙ fold-roll-Body BodyNodes (List Node) (List Node) body_nodes element_nodes flow_nodes (OpenFlow es)) in
    let l : length (in_body e.body).nodes ≡ length (nodes es) = ap length here in
    let m : length (nodes those) ≡ length (nodes es) = ap (λ xs. length (nodes xs)) same in
    let n = body-below e in
    omega (arith, l, m, n)

-- the list of a flow of a split
pub nodes-split : (e : Element) (flows those : List SplitFlow) (i : ℕ) (f : SplitFlow) (es : List Element) → e.body ≡ Split flows → those ≡ flows → i < length those → f ≡ get_or those i f
    → es ≡ (out-SplitFlow f).elements → length (nodes es) + 1 ≤ length (nodes_of e)
nodes-split e flows those i f es is same lt at these =
    let here : (in_body e.body).nodes ≡ joined (map nodes_of_flow those) =
    ap (λ b. (in_body b).nodes) is
    ∙ (ap (λ (x : BodyNodes). x.nodes) (ap in_body (sym (rolls-Split flows)) ∙ fold-roll-Body BodyNodes (List Node) (List Node) body_nodes element_nodes flow_nodes (OpenSplit flows))
    ∙ ap (λ fs. joined (map nodes_of_flow fs)) (sym same)) in
    let l : length (in_body e.body).nodes ≡ length (joined (map nodes_of_flow those)) = ap length here in
    let held = joined-holds nodes_of_flow those i f lt at in
    let mine : length (nodes_of_flow f) ≡ suc (length (nodes (out-SplitFlow f).elements)) =
    ap length (fold_out-SplitFlow BodyNodes (List Node) (List Node) body_nodes element_nodes flow_nodes f) in
    let m : length (nodes es) ≡ length (nodes (out-SplitFlow f).elements) = ap (λ xs. length (nodes xs)) these in
    let n = body-below e in
    omega (arith, l, held, mine, m, n)
