-- A step or decision that is found anywhere in a checked job is the one with its work key.
use Rattle.std.proofs.Common.{◌≡◌, ℕ, zero, suc, ◌+◌, ◌<◌, ◌≤◌, ◌||◌, true, false, cond, None, Some, List, [], ◌∷◌, ◌++◌, length, map, find, get_or, refl, sym, ◌∙◌, ap, arith}
use Rattle.std.specs.Option.{option_map}
use Rattle.jsl_model.specs.Trees.{joined}
use Rattle.jsl_model.specs.declared.element.Element.{Element, fold_out-Element}
use Rattle.jsl_model.specs.declared.element.SplitFlow.{SplitFlow, out-SplitFlow}
use Rattle.jsl_model.specs.declared.element.Body.{fold-roll-Body}
use Rattle.jsl_model.specs.declared.element.Body.TheVariants.{Flow, Split, rolls-Flow, rolls-Split}
use Rattle.jsl_model.specs.declared.element.Body.TheOpen.{Flow as OpenFlow, Split as OpenSplit}
use Rattle.walk_rules.specs.declared.work_key.WorkKey.{WorkKey}
use Rattle.walk_rules.specs.Keys.{is_same_key, has_key}
use Rattle.job_plans.specs.Lists.{key_count}
use Rattle.walk_rules.specs.Counts.{one_if, total, count_in, count_in_flow, count_of}
use Rattle.job_plans.specs.Runnables.{Leaf, Inside, IsRun, keys_of, all_keys, run_with, leaves, leaves_at, leaves_in_body, leaves_of_flow, all_leaves, body_leaves, element_leaves, flow_leaves}
use Rattle.job_plans.proofs.Counted.{flow-once, split-count, flow-count}
use Rattle.job_plans.proofs.KeysOnce.{count-append, element-keys, list-keys}
use Rattle.job_plans.proofs.Leaves.{run-here, run-later, leaves_of_flow-parts}
use Rattle.walk_rules.proofs.Places.{within}

some-counts : (key : WorkKey) (keys : List WorkKey) → has_key keys key ≡ true → 1 ≤ key_count key keys
some-counts key [] h = cc
some-counts key (k ∷ ks) h =
    (elim (is_same_key key k) as (λ b. (b || has_key ks key) ≡ true → 1 ≤ one_if b + key_count key ks) [
      | true ↦ λ e. omega arith
      | false ↦ λ e. let more = some-counts key ks e in omega (arith, more)
    ]) h

-- a work key that is run is one of theirs
run-counts : (ls : List Leaf) (key : WorkKey) (run : Inside) → run_with ls key ≡ Some run → 1 ≤ key_count key (all_keys ls)
run-counts [] key run e = cc
run-counts (l ∷ ls) key run e =
    let both = count-append key (keys_of l) (all_keys ls) in
    (elim (has_key (keys_of l) key) as (λ b. has_key (keys_of l) key ≡ b
    → option_map (λ (leaf : Leaf). IsRun leaf.runs leaf.partitions) (cond b (Some l) (find (λ (leaf : Leaf). has_key (keys_of leaf) key) ls)) ≡ Some run
    → 1 ≤ key_count key (keys_of l ++ all_keys ls)) [
      | true ↦ λ has found. let some = some-counts key (keys_of l) has in omega (arith, both, some)
      | false ↦ λ has found. let more = run-counts ls key run found in omega (arith, both, more)
    ]) refl e

none-run : (ls : List Leaf) (key : WorkKey) → key_count key (all_keys ls) ≡ 0 → None ≡ run_with ls key
none-run ls key none =
    (elim (run_with ls key) as (λ o. run_with ls key ≡ o → None ≡ o) [
      | Some run ↦ λ e. let some = run-counts ls key run e in absurd (omega (arith, some, none))
      | None ↦ λ e. refl
    ]) refl

-- what is run for it in one of these is run for it in all of them
pub run-there : {X : Type 0} (g : X → List Leaf) (count : X → ℕ) (key : WorkKey) → ((x : X) → key_count key (all_keys (g x)) ≤ count x)
    → (xs : List X) (k : ℕ) (x : X) (run : Inside) → k < length xs → x ≡ get_or xs k x → total (map count xs) ≤ 1 → run_with (g x) key ≡ Some run
    → run_with (joined (map g xs)) key ≡ Some run
run-there g count key few [] k x run lt is once e = absurd (omega (arith, lt))
run-there g count key few (y ∷ ys) zero x run lt is once e =
    sym (run-here (g y) (joined (map g ys)) key (Some run) (sym (ap (λ z. run_with (g z) key) (sym is) ∙ e)) refl)
run-there g count key few (y ∷ ys) (suc k) x run lt is once e =
    let there = run-counts (g x) key run e in
    let many = few x in
    let part = within count ys k x (omega (arith, lt)) in
    let same = ap count is in
    let first = few y in
    let none : key_count key (all_keys (g y)) ≡ 0 = omega (arith, there, many, part, same, first, once) in
    run-later (g y) (joined (map g ys)) key None (none-run (g y) key none) refl ∙ run-there g count key few ys k x run (omega (arith, lt)) is (omega (arith, once)) e

-- ---- A list

pub list-run : (es : List Element) (key : WorkKey) (k : ℕ) (e : Element) (run : Inside) → k < length es → e ≡ get_or es k e → count_of key.element es ≤ 1
    → run_with (leaves e) key ≡ Some run → run_with (all_leaves es) key ≡ Some run
list-run es key k e run lt is once found = run-there leaves (count_in key.element) key (element-keys key) es k e run lt is once found

pub list-once-in : (id : List ℕ) (es : List Element) (k : ℕ) (e : Element) → k < length es → e ≡ get_or es k e → count_of id es ≤ 1 → count_in id e ≤ 1
list-once-in id es k e lt is once =
    let part = within (count_in id) es k e lt in
    let same = ap (count_in id) is in
    omega (arith, part, same, once)

-- ---- A flow

pub flow-leaves : (e : Element) (es : List Element) → e.body ≡ Flow es → leaves e ≡ all_leaves es
flow-leaves e es is =
    fold_out-Element Inside (List Leaf) (List Leaf) body_leaves element_leaves flow_leaves e
    ∙ ap (leaves_at e.id)
    (ap leaves_in_body is ∙ (ap leaves_in_body (sym (rolls-Flow es)) ∙ fold-roll-Body Inside (List Leaf) (List Leaf) body_leaves element_leaves flow_leaves (OpenFlow es)))

pub flow-run : (e : Element) (es : List Element) (key : WorkKey) (run : Inside) → e.body ≡ Flow es → run_with (all_leaves es) key ≡ Some run → run_with (leaves e) key ≡ Some run
flow-run e es key run is found = ap (λ ls. run_with ls key) (flow-leaves e es is) ∙ found

pub flow-once-in : (id : List ℕ) (e : Element) (es : List Element) → e.body ≡ Flow es → count_in id e ≤ 1 → count_of id es ≤ 1
flow-once-in id e es is once = let part = flow-once id e es is in omega (arith, part, once)

-- ---- A split

flow-keys : (key : WorkKey) (f : SplitFlow) → key_count key (all_keys (leaves_of_flow f)) ≤ count_in_flow key.element f
flow-keys key f =
    let same = ap (λ ls. key_count key (all_keys ls)) (leaves_of_flow-parts f) in
    let few = list-keys key (out-SplitFlow f).elements in
    let part = flow-count key.element f in
    omega (arith, same, few, part)

pub split-leaves : (e : Element) (flows : List SplitFlow) → e.body ≡ Split flows → leaves e ≡ joined (map leaves_of_flow flows)
split-leaves e flows is =
    fold_out-Element Inside (List Leaf) (List Leaf) body_leaves element_leaves flow_leaves e
    ∙ ap (leaves_at e.id)
    (ap leaves_in_body is ∙ (ap leaves_in_body (sym (rolls-Split flows)) ∙ fold-roll-Body Inside (List Leaf) (List Leaf) body_leaves element_leaves flow_leaves (OpenSplit flows)))

pub split-run : (e : Element) (flows : List SplitFlow) (key : WorkKey) (k : ℕ) (f : SplitFlow) (run : Inside) → e.body ≡ Split flows → count_in key.element e ≤ 1
    → k < length flows → f ≡ get_or flows k f → run_with (all_leaves (out-SplitFlow f).elements) key ≡ Some run → run_with (leaves e) key ≡ Some run
split-run e flows key k f run is once lt at found =
    let part = split-count key.element e flows is in
    ap (λ ls. run_with ls key) (split-leaves e flows is)
    ∙ run-there leaves_of_flow (count_in_flow key.element) key (flow-keys key) flows k f run lt at (omega (arith, part, once))
    (ap (λ ls. run_with ls key) (leaves_of_flow-parts f) ∙ found)

pub split-once-in : (id : List ℕ) (e : Element) (flows : List SplitFlow) (k : ℕ) (f : SplitFlow) → e.body ≡ Split flows → count_in id e ≤ 1
    → k < length flows → f ≡ get_or flows k f → count_of id (out-SplitFlow f).elements ≤ 1
split-once-in id e flows k f is once lt at =
    let all = split-count id e flows is in
    let part = within (count_in_flow id) flows k f lt in
    let same = ap (count_in_flow id) at in
    let inner = flow-count id f in
    omega (arith, all, part, same, inner, once)
