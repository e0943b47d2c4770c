-- Looking for what is run in one list of leaves after another.
use Rattle.std.proofs.Common.{◌≡◌, ℕ, true, false, cond, Option, None, Some, is_some, List, [], ◌∷◌, ◌++◌, length, map, drop, find, refl, sym, ◌∙◌, ap, ◌<◌, ◌≤◌, ◌+◌, get_or}
use Rattle.std.specs.Option.{option_map}
use Rattle.walk_rules.specs.Keys.{has_key}
use Rattle.walk_rules.specs.declared.work_key.WorkKey.{WorkKey}
use Rattle.std.proofs.lemmas.List.{at_drop_more, drop_all}
use Rattle.jsl_model.specs.declared.element.SplitFlow.{SplitFlow, out-SplitFlow, fold_out-SplitFlow}
use Rattle.jsl_model.specs.Trees.{joined}
use Rattle.job_plans.specs.Runnables.{Leaf, Inside, IsRun, keys_of, run_with, leaves_of_flow, all_leaves, body_leaves, element_leaves, flow_leaves}

abbrev pub first_of_two : Option Inside → Option Inside → Option Inside
first_of_two (Some run) later = Some run
first_of_two None later = later

-- how a work key is run in two lists
pub run_with-append : (xs ys : List Leaf) (key : WorkKey) → run_with (xs ++ ys) key ≡ first_of_two (run_with xs key) (run_with ys key)
run_with-append [] ys key = refl
run_with-append (x ∷ xs) ys key =
    elim (has_key (keys_of x) key) as (λ b. option_map (λ (leaf : Leaf). IsRun leaf.runs leaf.partitions) (cond b (Some x) (find (λ (leaf : Leaf). has_key (keys_of leaf) key) (xs ++ ys)))
    ≡ first_of_two (option_map (λ (leaf : Leaf). IsRun leaf.runs leaf.partitions) (cond b (Some x) (find (λ (leaf : Leaf). has_key (keys_of leaf) key) xs))) (run_with ys key)) [
      | true ↦ refl
      | false ↦ run_with-append xs ys key
    ]

-- found in the first of two lists
pub run-here : (xs ys : List Leaf) (key : WorkKey) (found : Option Inside) → found ≡ run_with xs key → is_some found ≡ true
    → found ≡ run_with (xs ++ ys) key
run-here xs ys key (Some run) e some = sym (run_with-append xs ys key ∙ ap (λ o. first_of_two o (run_with ys key)) (sym e))
run-here xs ys key None e some = cc

-- not found in the first of two lists
pub run-later : (xs ys : List Leaf) (key : WorkKey) (found : Option Inside) → found ≡ run_with xs key → is_some found ≡ false
    → run_with (xs ++ ys) key ≡ run_with ys key
run-later xs ys key (Some run) e none = cc
run-later xs ys key None e none = run_with-append xs ys key ∙ ap (λ o. first_of_two o (run_with ys key)) (sym e)

pub is_some-map : {X Y : Type 0} (f : X → Y) (o : Option X) → is_some (option_map f o) ≡ is_some o
is_some-map f None = refl
is_some-map f (Some x) = refl

-- found at this place of a list
pub found-here : {X : Type 0} (f : X → List Leaf) (xs : List X) (k : ℕ) (x : X) (key : WorkKey) (found whole : Option Inside)
    → k < length xs → x ≡ get_or xs k x → found ≡ run_with (f x) key → is_some found ≡ true
    → run_with (joined (map f (drop k xs))) key ≡ whole → found ≡ whole
found-here f xs k x key found whole lt is e some rest =
    let others : List Leaf = joined (map f (drop (k + 1) xs)) in
    run-here (f x) others key found e some
    ∙ (ap (λ y. run_with (f y ++ others) key) is
    ∙ (sym (at_drop_more (λ ys. run_with (joined (map f ys)) key) xs k x lt) ∙ rest))

-- not found at this place of a list
pub found-later : {X : Type 0} (f : X → List Leaf) (xs : List X) (k : ℕ) (x : X) (key : WorkKey) (found whole : Option Inside)
    → k < length xs → x ≡ get_or xs k x → found ≡ run_with (f x) key → is_some found ≡ false
    → run_with (joined (map f (drop k xs))) key ≡ whole → run_with (joined (map f (drop (k + 1) xs))) key ≡ whole
found-later f xs k x key found whole lt is e none rest =
    let others : List Leaf = joined (map f (drop (k + 1) xs)) in
    sym (run-later (f x) others key found e none)
    ∙ (ap (λ y. run_with (f y ++ others) key) is
    ∙ (sym (at_drop_more (λ ys. run_with (joined (map f ys)) key) xs k x lt) ∙ rest))

-- found at no place of a list
pub found-nowhere : {X : Type 0} (f : X → List Leaf) (xs : List X) (k : ℕ) (key : WorkKey) (whole : Option Inside)
    → length xs ≤ k → run_with (joined (map f (drop k xs))) key ≡ whole → None ≡ whole
found-nowhere f xs k key whole past rest = ap (λ ys. run_with (joined (map f ys)) key) (sym (drop_all k xs past)) ∙ rest

-- the steps and decisions of a flow of a split are those of its elements
pub leaves_of_flow-parts : (flow : SplitFlow) → leaves_of_flow flow ≡ all_leaves (out-SplitFlow flow).elements
leaves_of_flow-parts flow = fold_out-SplitFlow Inside (List Leaf) (List Leaf) body_leaves element_leaves flow_leaves flow
