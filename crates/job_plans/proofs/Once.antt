-- An id of a checked job stands once.
use Rattle.std.proofs.Common.{◌≡◌, ℕ, ◌+◌, ◌≤◌, true, false, List, [], ◌∷◌, ◌++◌, map, refl, sym, ◌∙◌, ap, subst, arith}
use Rattle.std.specs.Str.{bytes_eq}
use Rattle.std.specs.Cmp.Lexicographic.{bytes_decides}
use Rattle.std.proofs.lemmas.Bool.{or_parts}
use Rattle.jsl_model.specs.declared.job.JobFault.TheVariants.{TextTooLong, Empty, TooDeep, TooMany, DuplicateId}
use Rattle.jsl_model.specs.declared.element.Element.{Element, ind-Element, map-Element, fold-roll-Element}
use Rattle.jsl_model.specs.declared.element.SplitFlow.{SplitFlow, fold-roll-SplitFlow}
use Rattle.jsl_model.specs.declared.element.Body.{Body, Body-F, map-Body, fold-roll-Body}
use Rattle.jsl_model.specs.declared.element.Body.TheOpen.{Step, Flow, Split, Decision}
use Rattle.jsl_model.specs.Jobs.{JobTree}
use Rattle.jsl_model.specs.Names.{is_among, has_twice}
use Rattle.jsl_model.specs.Trees.{joined, Node, BodyNodes, body_nodes, element_nodes, flow_nodes, nodes_of, in_body, nodes_of_flow, nodes}
use Rattle.jsl_model.specs.Faults.{has_long_text, has_empty, is_too_deep, has_too_many, has_duplicate, node_ids, tree_fault, IsChecked}
use Rattle.jsl_model.proofs.Among.{bytes_eq-sym}
use Rattle.walk_rules.specs.Counts.{total, one_if, body_count, element_count, flow_count, count_in, count_in_body, count_in_flow, count_of}
use Rattle.job_plans.proofs.Ordered.{not-fault}
use Rattle.job_plans.proofs.Points.{no-fault}

-- ---- How often a name stands in a list

abbrev occurs : List ℕ → List (List ℕ) → ℕ
occurs id [] = 0
occurs id (name ∷ rest) = one_if (bytes_eq name id) + occurs id rest

none-occurs : (id : List ℕ) (names : List (List ℕ)) → is_among names id ≡ false → occurs id names ≡ 0
none-occurs id [] h = refl
none-occurs id (name ∷ rest) h =
    let parts = or_parts (bytes_eq id name) (is_among rest id) h in
    let off : bytes_eq name id ≡ false = bytes_eq-sym name id ∙ parts.0 in
    let here = ap one_if off in
    let more = none-occurs id rest parts.1 in
    omega (arith, here, more)

once-occurs : (id : List ℕ) (names : List (List ℕ)) → has_twice names ≡ false → occurs id names ≤ 1
once-occurs id [] h = omega arith
once-occurs id (name ∷ rest) h =
    let parts = or_parts (is_among rest name) (has_twice rest) h in
    (elim (bytes_eq name id) as (λ b. bytes_eq name id ≡ b → one_if b + occurs id rest ≤ 1) [
      | true ↦ λ e.
          let same : name ≡ id = (bytes_decides name id).0 e in
          let none : occurs id rest ≡ 0 = none-occurs id rest (ap (is_among rest) (sym same) ∙ parts.0) in
          omega (arith, none)
      | false ↦ λ e. let more = once-occurs id rest parts.1 in omega (arith, more)
    ]) refl

-- ---- How often an id stands in a tree

abbrev node_occurs : List ℕ → List Node → ℕ
node_occurs id [] = 0
node_occurs id (node ∷ rest) = one_if (bytes_eq node.id id) + node_occurs id rest

occurs-ids : (id : List ℕ) (all : List Node) → node_occurs id all ≡ occurs id (node_ids all)
occurs-ids id [] = refl
occurs-ids id (node ∷ rest) = ap (λ n. one_if (bytes_eq node.id id) + n) (occurs-ids id rest)

occurs-append : (id : List ℕ) (xs ys : List Node) → node_occurs id (xs ++ ys) ≡ node_occurs id xs + node_occurs id ys
occurs-append id [] ys = omega arith
occurs-append id (x ∷ xs) ys = let more = occurs-append id xs ys in omega (arith, more)

counts-all : {X : Type 0} (id : List ℕ) (count : X → ℕ) (g : X → List Node) (xs : List ((x : X) × (count x ≡ node_occurs id (g x))))
    → total (map count (map (λ x. x.0) xs)) ≡ node_occurs id (joined (map g (map (λ x. x.0) xs)))
counts-all id count g [] = refl
counts-all {X = X} id count g (x ∷ xs) =
    let more = counts-all id count g xs in
    let here = x.1 in
    let both = occurs-append id (g x.0) (joined (map g (map (λ (y : (z : X) × (count z ≡ node_occurs id (g z))). y.0) xs))) in
    omega (arith, more, here, both)

abbrev BodyOnce : List ℕ → Body → Type 0
BodyOnce id b = count_in_body id b ≡ node_occurs id (in_body b).nodes

abbrev ElementOnce : List ℕ → Element → Type 0
ElementOnce id e = count_in id e ≡ node_occurs id (nodes_of e)

abbrev FlowOnce : List ℕ → SplitFlow → Type 0
FlowOnce id f = count_in_flow id f ≡ node_occurs id (nodes_of_flow f)

body-once : (id : List ℕ) (y : Body-F ((b : Body) × BodyOnce id b) ((e : Element) × ElementOnce id e) ((f : SplitFlow) × FlowOnce id f))
    → body_count (map-Body Body Element SplitFlow ℕ ℕ ℕ (count_in_body id) (count_in id) (count_in_flow id) (map-Body _ _ _ Body Element SplitFlow (λ e. e.0) (λ e. e.0) (λ e. e.0) y))
    ≡ node_occurs id (body_nodes (map-Body Body Element SplitFlow BodyNodes (List Node) (List Node) in_body nodes_of nodes_of_flow (map-Body _ _ _ Body Element SplitFlow (λ e. e.0) (λ e. e.0) (λ e. e.0) y))).nodes
body-once id (Step step) = refl
body-once id (Decision artifact) = refl
body-once id (Flow es) = counts-all id (count_in id) nodes_of es
body-once id (Split fs) = counts-all id (count_in_flow id) nodes_of_flow fs

element-once : (id : List ℕ) (e : Element) → ElementOnce id e
element-once id =
    ind-Element (BodyOnce id) (ElementOnce id) (FlowOnce id)
    (λ x y is.
    rw (fold-roll-Body ℕ ℕ ℕ body_count (element_count id) (flow_count id) x)
    (rw (fold-roll-Body BodyNodes (List Node) (List Node) body_nodes element_nodes flow_nodes x)
    (subst (λ z. body_count (map-Body Body Element SplitFlow ℕ ℕ ℕ (count_in_body id) (count_in id) (count_in_flow id) z)
    ≡ node_occurs id (body_nodes (map-Body Body Element SplitFlow BodyNodes (List Node) (List Node) in_body nodes_of nodes_of_flow z)).nodes) is (body-once id y))))
    (λ x y is.
    rw (fold-roll-Element ℕ ℕ ℕ body_count (element_count id) (flow_count id) x)
    (rw (fold-roll-Element BodyNodes (List Node) (List Node) body_nodes element_nodes flow_nodes x)
    (subst (λ z. element_count id (map-Element Body Element SplitFlow ℕ ℕ ℕ (count_in_body id) (count_in id) (count_in_flow id) z)
    ≡ node_occurs id (element_nodes (map-Element Body Element SplitFlow BodyNodes (List Node) (List Node) in_body nodes_of nodes_of_flow z))) is
    (let inner : count_in_body id y.body.0 ≡ node_occurs id (in_body y.body.0).nodes = y.body.1 in
    ap (λ n. one_if (bytes_eq y.id id) + n) inner))))
    (λ x y is.
    rw (fold-roll-SplitFlow ℕ ℕ ℕ body_count (element_count id) (flow_count id) x)
    (rw (fold-roll-SplitFlow BodyNodes (List Node) (List Node) body_nodes element_nodes flow_nodes x)
    (subst (λ z. one_if (bytes_eq z.id id) + total (map (count_in id) z.elements) ≡ one_if (bytes_eq z.id id) + node_occurs id (joined (map nodes_of z.elements))) is
    (ap (λ n. one_if (bytes_eq y.id id) + n) (counts-all id (count_in id) nodes_of y.elements)))))

list-once : (id : List ℕ) (es : List Element) → count_of id es ≡ node_occurs id (nodes es)
list-once id [] = refl
list-once id (e ∷ es) =
    let here = element-once id e in
    let more = list-once id es in
    let both = occurs-append id (nodes_of e) (nodes es) in
    omega (arith, here, more, both)

-- in a checked job an id stands once
pub ids-once : (job : JobTree) → IsChecked job → (id : List ℕ) → count_of id job.elements ≤ 1
ids-once job checked id =
    let none : has_duplicate job ≡ false =
    not-fault (has_duplicate job) DuplicateId _
    (no-fault (has_too_many job) TooMany _
    (no-fault (is_too_deep job) TooDeep _
    (no-fault (has_empty job) Empty _
    (no-fault (has_long_text job) TextTooLong (tree_fault job) checked.faultless)))) in
    let few = once-occurs id (node_ids (nodes job.elements)) none in
    let same = list-once id job.elements ∙ occurs-ids id (nodes job.elements) in
    omega (arith, few, same)
