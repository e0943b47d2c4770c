-- A work key of a checked job stands once.
use Rattle.std.proofs.Common.{◌≡◌, ◌||◌, ◌&&◌, ℕ, zero, suc, ◌+◌, ◌<◌, ◌≤◌, nat_lt, Bool, true, false, Option, None, Some, List, [], ◌∷◌, ◌++◌, length, map, get_or, refl, sym, ◌∙◌, ap, subst, arith, add-one}
use Rattle.std.specs.Str.{bytes_eq}
use Rattle.std.specs.Cmp.Lexicographic.{bytes_decides}
use Rattle.std.proofs.lemmas.Bool.{le-ltb}
use Rattle.std.proofs.lemmas.Grind.{flat_map-append}
use Rattle.std.proofs.lemmas.List.FromFn.{map-range_with_len_more}
use Rattle.jsl_model.specs.declared.element.Element.{Element, ind-Element, map-Element, fold-roll-Element}
use Rattle.jsl_model.specs.declared.element.SplitFlow.{SplitFlow, fold-roll-SplitFlow}
use Rattle.jsl_model.specs.declared.element.Body.{Body, Body-F, map-Body, fold-roll-Body}
use Rattle.jsl_model.specs.declared.element.Body.TheOpen.{Step, Flow, Split, Decision}
use Rattle.jsl_model.specs.Trees.{joined}
use Rattle.walk_rules.specs.declared.work_key.WorkKey.{WorkKey}
use Rattle.walk_rules.specs.declared.facts.Known.{Known}
use Rattle.job_plans.specs.Cursors.{known_keys}
use Rattle.walk_rules.specs.Keys.{key_of, keys_of_step, numbers_to, is_same_key, has_key}
use Rattle.job_plans.specs.Lists.{key_count}
use Rattle.walk_rules.specs.Counts.{one_if, total, body_count, element_count, flow_count, count_in, count_in_body, count_in_flow, count_of}
use Rattle.job_plans.specs.Runnables.{keys_of, all_keys, Leaf, Inside, IsRun, Holds, body_leaves, leaves_at, element_leaves, flow_leaves, leaves, leaves_in_body, leaves_of_flow, all_leaves}
use Rattle.walk_rules.specs.Walk.{fact_of}
use Rattle.job_plans.proofs.Newest.{AreOther}
use Rattle.walk_rules.proofs.SameKeys.{same-one, same-sym, one_of_partitions}

-- ---- How often a work key stands in a list

pub count-append : (key : WorkKey) (xs ys : List WorkKey) → key_count key (xs ++ ys) ≡ key_count key xs + key_count key ys
count-append key [] ys = omega arith
count-append key (x ∷ xs) ys = let more = count-append key xs ys in omega (arith, more)

none-counts : (key : WorkKey) (keys : List WorkKey) → has_key keys key ≡ false → key_count key keys ≡ 0
none-counts key [] h = refl
none-counts key (k ∷ ks) h =
    (elim (is_same_key key k) as (λ b. (b || has_key ks key) ≡ false → one_if b + key_count key ks ≡ 0) [
      | true ↦ λ e. cc
      | false ↦ λ e. let more = none-counts key ks e in omega (arith, more)
    ]) h

-- ---- The work keys of a step

both-off : (b : Bool) → (b && false) ≡ false
both-off true = refl
both-off false = refl

same-element : (key : WorkKey) (i : List ℕ) (n : ℕ) → one_if (is_same_key key (key_of i n)) ≤ one_if (bytes_eq i key.element)
same-element key i n =
    (elim (is_same_key key (key_of i n)) as (λ b. is_same_key key (key_of i n) ≡ b → one_if b ≤ one_if (bytes_eq i key.element)) [
      | true ↦ λ e.
          let element : key.element ≡ i = ap (λ (k : WorkKey). k.element) (same-one key (key_of i n) e) in
          let is = ap one_if ((bytes_decides i key.element).1 (sym element)) in
          omega (arith, is)
      | false ↦ λ e. omega arith
    ]) refl

few-partitions : (key : WorkKey) (i : List ℕ) (n : ℕ) → key_count key (map (key_of i) (numbers_to n)) ≤ one_if (bytes_eq i key.element)
few-partitions key i zero = omega arith
few-partitions key i (suc n) =
    let more : key_count key (map (key_of i) (numbers_to (suc n))) ≡ key_count key (map (key_of i) (numbers_to n)) + key_count key (key_of i n ∷ []) =
    ap (λ m. key_count key (map (key_of i) (numbers_to m))) (sym (add-one n))
    ∙ (ap (key_count key) (map-range_with_len_more (key_of i) 0 n n (omega arith)) ∙ count-append key (map (key_of i) (numbers_to n)) (key_of i n ∷ [])) in
    let before = few-partitions key i n in
    (elim (is_same_key key (key_of i n)) as (λ b. is_same_key key (key_of i n) ≡ b → key_count key (map (key_of i) (numbers_to (suc n))) ≤ one_if (bytes_eq i key.element)) [
      | true ↦ λ e.
          let same : key ≡ key_of i n = same-one key (key_of i n) e in
          let off : has_key (map (key_of i) (numbers_to n)) key ≡ false =
          one_of_partitions i n key
          ∙ (ap (λ (k : WorkKey). bytes_eq k.element i && nat_lt k.partition n) same ∙ (ap (λ b. bytes_eq i i && b) (le-ltb n n (omega arith)) ∙ both-off (bytes_eq i i))) in
          let none = none-counts key (map (key_of i) (numbers_to n)) off in
          let last = same-element key i n in
          omega (arith, more, none, last)
      | false ↦ λ e. let zero_more = ap one_if e in omega (arith, more, before, zero_more)
    ]) refl

few-keys : (key : WorkKey) (i : List ℕ) (partitions : Option ℕ) → key_count key (keys_of_step i partitions) ≤ one_if (bytes_eq i key.element)
few-keys key i None = let one = same-element key i 0 in omega (arith, one)
few-keys key i (Some count) = few-partitions key i count

-- ---- The work keys of a tree

abbrev InsideCount : WorkKey → Inside → ℕ → Type 0
InsideCount key (IsRun runs partitions) n = Unit {0}
InsideCount key (Holds inside) n = key_count key (all_keys inside) ≤ n

abbrev BodyKeys : WorkKey → Body → Type 0
BodyKeys key b = InsideCount key (leaves_in_body b) (count_in_body key.element b)

abbrev ElementKeys : WorkKey → Element → Type 0
ElementKeys key e = key_count key (all_keys (leaves e)) ≤ count_in key.element e

abbrev FlowKeys : WorkKey → SplitFlow → Type 0
FlowKeys key f = key_count key (all_keys (leaves_of_flow f)) ≤ count_in_flow key.element f

keys-append : (key : WorkKey) (xs ys : List Leaf) → key_count key (all_keys (xs ++ ys)) ≡ key_count key (all_keys xs) + key_count key (all_keys ys)
keys-append key xs ys = ap (key_count key) (flat_map-append keys_of xs ys) ∙ count-append key (all_keys xs) (all_keys ys)

keys-all : {X : Type 0} (key : WorkKey) (g : X → List Leaf) (count : X → ℕ) (xs : List ((x : X) × (key_count key (all_keys (g x)) ≤ count x)))
    → key_count key (all_keys (joined (map g (map (λ x. x.0) xs)))) ≤ total (map count (map (λ x. x.0) xs))
keys-all key g count [] = omega arith
keys-all {X = X} key g count (x ∷ xs) =
    let more = keys-all key g count xs in
    let here = x.1 in
    let both = keys-append key (g x.0) (joined (map g (map (λ (y : (z : X) × (key_count key (all_keys (g z)) ≤ count z)). y.0) xs))) in
    omega (arith, more, here, both)

body-keys : (key : WorkKey) (y : Body-F ((b : Body) × BodyKeys key b) ((e : Element) × ElementKeys key e) ((f : SplitFlow) × FlowKeys key f))
    → InsideCount key (body_leaves (map-Body Body Element SplitFlow Inside (List Leaf) (List Leaf) leaves_in_body leaves leaves_of_flow (map-Body _ _ _ Body Element SplitFlow (λ e. e.0) (λ e. e.0) (λ e. e.0) y)))
    (body_count (map-Body Body Element SplitFlow ℕ ℕ ℕ (count_in_body key.element) (count_in key.element) (count_in_flow key.element) (map-Body _ _ _ Body Element SplitFlow (λ e. e.0) (λ e. e.0) (λ e. e.0) y)))
body-keys key (Step step) = tt
body-keys key (Decision artifact) = tt
body-keys key (Flow es) = keys-all key leaves (count_in key.element) es
body-keys key (Split fs) = keys-all key leaves_of_flow (count_in_flow key.element) fs

inside-keys : (key : WorkKey) (i : List ℕ) (inside : Inside) (n : ℕ) → InsideCount key inside n → key_count key (all_keys (leaves_at i inside)) ≤ one_if (bytes_eq i key.element) + n
inside-keys key i (IsRun runs partitions) n h =
    let few = few-keys key i partitions in
    let both = count-append key (keys_of_step i partitions) [] in
    omega (arith, few, both)
inside-keys key i (Holds inside) n h = omega (arith, h)

pub element-keys : (key : WorkKey) (e : Element) → ElementKeys key e
element-keys key =
    ind-Element (BodyKeys key) (ElementKeys key) (FlowKeys key)
    (λ x y is.
    rw (fold-roll-Body ℕ ℕ ℕ body_count (element_count key.element) (flow_count key.element) x)
    (rw (fold-roll-Body Inside (List Leaf) (List Leaf) body_leaves element_leaves flow_leaves x)
    (subst (λ z. InsideCount key (body_leaves (map-Body Body Element SplitFlow Inside (List Leaf) (List Leaf) leaves_in_body leaves leaves_of_flow z))
    (body_count (map-Body Body Element SplitFlow ℕ ℕ ℕ (count_in_body key.element) (count_in key.element) (count_in_flow key.element) z))) is (body-keys key y))))
    (λ x y is.
    rw (fold-roll-Element ℕ ℕ ℕ body_count (element_count key.element) (flow_count key.element) x)
    (rw (fold-roll-Element Inside (List Leaf) (List Leaf) body_leaves element_leaves flow_leaves x)
    (subst (λ z. key_count key (all_keys (element_leaves (map-Element Body Element SplitFlow Inside (List Leaf) (List Leaf) leaves_in_body leaves leaves_of_flow z)))
    ≤ element_count key.element (map-Element Body Element SplitFlow ℕ ℕ ℕ (count_in_body key.element) (count_in key.element) (count_in_flow key.element) z)) is
    (inside-keys key y.id (leaves_in_body y.body.0) (count_in_body key.element y.body.0) y.body.1))))
    (λ x y is.
    rw (fold-roll-SplitFlow ℕ ℕ ℕ body_count (element_count key.element) (flow_count key.element) x)
    (rw (fold-roll-SplitFlow Inside (List Leaf) (List Leaf) body_leaves element_leaves flow_leaves x)
    (subst (λ z. key_count key (all_keys (joined (map leaves z.elements))) ≤ one_if (bytes_eq z.id key.element) + total (map (count_in key.element) z.elements)) is
    (let inner = keys-all key leaves (count_in key.element) y.elements in omega (arith, inner)))))

pub list-keys : (key : WorkKey) (es : List Element) → key_count key (all_keys (all_leaves es)) ≤ count_of key.element es
list-keys key [] = omega arith
list-keys key (e ∷ es) =
    let here = element-keys key e in
    let more = list-keys key es in
    let both = keys-append key (leaves e) (all_leaves es) in
    omega (arith, here, more, both)

-- where ids stand once, so do work keys
pub keys-once : (es : List Element) (known : List Known) → known_keys known ≡ all_keys (all_leaves es) → ((id : List ℕ) → count_of id es ≤ 1) → (key : WorkKey) → key_count key (known_keys known) ≤ 1
keys-once es known each once key =
    let same = ap (key_count key) each in
    let few = list-keys key es in
    let one = once key.element in
    omega (arith, same, few, one)

-- ---- What is known of a work key that stands once

counts-there : (known : List Known) (key : WorkKey) (place : ℕ) (d : Known) → place < length known → is_same_key key (get_or known place d).key ≡ true → 1 ≤ key_count key (known_keys known)
counts-there [] key place d lt on = absurd (omega (arith, lt))
counts-there (k ∷ ks) key zero d lt on = let is = ap one_if on in omega (arith, is)
counts-there (k ∷ ks) key (suc place) d lt on = let more = counts-there ks key place d (omega (arith, lt)) on in omega (arith, more)

-- none before it has the key
pub others-before : (known : List Known) (key : WorkKey) (place : ℕ) (d : Known) → place < length known → is_same_key key (get_or known place d).key ≡ true → key_count key (known_keys known) ≤ 1
    → AreOther known key place
others-before [] key place d lt on once j e h = absurd (omega (arith, lt))
others-before (k ∷ ks) key zero d lt on once j e h = absurd (omega (arith, h))
others-before (k ∷ ks) key (suc place) d lt on once zero e h =
    let there = counts-there ks key place d (omega (arith, lt)) on in
    (elim (is_same_key key k.key) as (λ b. is_same_key key k.key ≡ b → b ≡ false) [
      | true ↦ λ same. let is = ap one_if same in absurd (omega (arith, there, once, is))
      | false ↦ λ same. refl
    ]) refl
others-before (k ∷ ks) key (suc place) d lt on once (suc j) e h =
    others-before ks key place d (omega (arith, lt)) on (omega (arith, once)) j e (omega (arith, h))

first-there : (known : List Known) (key : WorkKey) (place : ℕ) (one : Known) → place < length known → AreOther known key place → one ≡ get_or known place one → is_same_key key one.key ≡ true
    → fact_of known key ≡ one.fact
first-there [] key place one lt others is on = absurd (omega (arith, lt))
first-there (k ∷ ks) key zero one lt others is on =
    let here : is_same_key k.key key ≡ true = same-sym k.key key ∙ (ap (λ (x : Known). is_same_key key x.key) (sym is) ∙ on) in
    rw here (ap (λ (x : Known). x.fact) (sym is))
first-there (k ∷ ks) key (suc place) one lt others is on =
    let off : is_same_key k.key key ≡ false = same-sym k.key key ∙ others 0 k (omega arith) in
    rw off (first-there ks key place one (omega (arith, lt)) (λ j d h. others (suc j) d (omega (arith, h))) is on)

pub known_there : (known : List Known) (key : WorkKey) (place : ℕ) (one : Known) → place < length known → one ≡ get_or known place one → is_same_key one.key key ≡ true
    → key_count key (known_keys known) ≤ 1 → fact_of known key ≡ one.fact
known_there known key place one lt is on once =
    let there : is_same_key key one.key ≡ true = same-sym key one.key ∙ on in
    first-there known key place one lt (others-before known key place one lt (ap (λ (x : Known). is_same_key key x.key) (sym is) ∙ there) once) is there
