-- How often a flow, or a flow of a split, has an id.
use Rattle.std.proofs.Common.{◌≡◌, ℕ, ◌≤◌, List, map, sym, ◌∙◌, ap, arith}
use Rattle.jsl_model.specs.declared.element.Element.{Element, fold_out-Element}
use Rattle.jsl_model.specs.declared.element.SplitFlow.{SplitFlow, out-SplitFlow, fold_out-SplitFlow}
use Rattle.jsl_model.specs.declared.element.Body.{fold-roll-Body}
use Rattle.jsl_model.specs.declared.element.Body.TheVariants.{Flow, Split, rolls-Flow, rolls-Split}
use Rattle.jsl_model.specs.declared.element.Body.TheOpen.{Flow as OpenFlow, Split as OpenSplit}
use Rattle.walk_rules.specs.Counts.{total, body_count, element_count, flow_count, count_in, count_in_body, count_in_flow, count_of}

count-parts : (id : List ℕ) (e : Element) → count_in_body id e.body ≤ count_in id e
count-parts id e =
    let parts : count_in id e ≡ _ = fold_out-Element ℕ ℕ ℕ body_count (element_count id) (flow_count id) e in
    omega (arith, parts)

pub flow-once : (id : List ℕ) (e : Element) (es : List Element) → e.body ≡ Flow es → count_of id es ≤ count_in id e
flow-once id e es is =
    let body : count_in_body id e.body ≡ count_of id es =
    ap (count_in_body id) is ∙ (ap (count_in_body id) (sym (rolls-Flow es)) ∙ fold-roll-Body ℕ ℕ ℕ body_count (element_count id) (flow_count id) (OpenFlow es)) in
    let parts = count-parts id e in
    omega (arith, body, parts)

pub split-count : (id : List ℕ) (e : Element) (flows : List SplitFlow) → e.body ≡ Split flows → total (map (count_in_flow id) flows) ≤ count_in id e
split-count id e flows is =
    let body : count_in_body id e.body ≡ total (map (count_in_flow id) flows) =
    ap (count_in_body id) is ∙ (ap (count_in_body id) (sym (rolls-Split flows)) ∙ fold-roll-Body ℕ ℕ ℕ body_count (element_count id) (flow_count id) (OpenSplit flows)) in
    let parts = count-parts id e in
    omega (arith, body, parts)

pub flow-count : (id : List ℕ) (f : SplitFlow) → count_of id (out-SplitFlow f).elements ≤ count_in_flow id f
flow-count id f =
    let parts : count_in_flow id f ≡ _ = fold_out-SplitFlow ℕ ℕ ℕ body_count (element_count id) (flow_count id) f in
    omega (arith, parts)
