-- Flows: a list that begins at its first element, inside a flow or a flow of a split.
use Rattle.std.proofs.Common.{◌≡◌, ℕ, zero, suc, ◌+◌, ◌<◌, ◌≤◌, true, Option, None, Some, List, [], ◌∷◌, ◌++◌, length, length-append, map, take, drop, get_or, refl, sym, ◌∙◌, ap, arith, subst, ◌⊎◌, inl, inr}
use Rattle.std.proofs.lemmas.List.{append_assoc}
use Rattle.std.specs.List.{slice_get}
use Rattle.jsl_model.specs.Trees.{joined}
use Rattle.jsl_model.specs.declared.element.Element.{Element, fold_out-Element}
use Rattle.jsl_model.specs.declared.element.SplitFlow.{SplitFlow, out-SplitFlow, fold_out-SplitFlow}
use Rattle.jsl_model.specs.declared.element.Body.{fold-roll-Body}
use Rattle.jsl_model.specs.declared.element.Body.TheVariants.{Flow, Split, rolls-Flow, rolls-Split}
use Rattle.jsl_model.specs.declared.element.Body.TheOpen.{Flow as OpenFlow, Split as OpenSplit}
use Rattle.walk_rules.specs.declared.facts.Fact.{Fact}
use Rattle.walk_rules.specs.declared.facts.Value.{Value}
use Rattle.job_walk.specs.declared.kept_list.KeptList.{KeptList}
use Rattle.job_walk.specs.declared.kept_list.ListChange.{ListChange}
use Rattle.walk_rules.specs.declared.work_key.WorkKey.{WorkKey}
use Rattle.walk_rules.specs.Walk.{WalkedElement, first_id, element_result, flow_result}
use Rattle.job_walk.specs.KeptLists.{KeptElement, KeptBody, KeptTree, rows_in, kept_element, kept_body, kept_flow, body_kept, element_kept, flow_kept, tree_first, tree_of, kept_of, lists_in, value_kept, first_shows, result_shows, Puts, DifferAt, Keeps, KeepsFirst, KeepsInside, KeepsFlows}
use Rattle.walk_rules.specs.Counts.{total, body_count, element_count, flow_count, count_in, count_in_body, count_in_flow, count_of}
use Rattle.walk_rules.specs.Shown.{shows}
use Rattle.job_walk.proofs.Descent.{head_in, reached, reached-shows, never-nowhere}
use Rattle.job_plans.proofs.Counted.{flow-once, split-count, flow-count}
use Rattle.job_plans.proofs.Following.{walked_element-parts}
use Rattle.job_walk.proofs.KeptAtFirst.{one-more, joined-last, whole-parts}
use Rattle.job_walk.proofs.KeptTrees.{kept-row, kept-same}
use Rattle.job_walk.proofs.Reporting.{states}
use Rattle.job_walk.proofs.ShownCounts.{flow-shown, shown-counts}
use Rattle.walk_rules.proofs.Places.{within}

-- ---- The first element is the same one, whatever is known

first-is : (facts : WorkKey → Fact) (e : Element) → (kept_element facts e).row.id ≡ e.id
first-is facts e = ap (λ (r : WalkedElement). r.id) (kept-row facts e ∙ walked_element-parts facts e)

pub first-same : (facts later : WorkKey → Fact) (es : List Element) → first_id (rows_in (states later es)) ≡ first_id (rows_in (states facts es))
first-same facts later [] = refl
first-same facts later (e ∷ es) = first-is later e ∙ sym (first-is facts e)

pub no-first : (facts : WorkKey → Fact) (es : List Element) → None ≡ slice_get es 0 → first_id (rows_in (states facts es)) ≡ []
no-first facts [] none = refl
no-first facts (e ∷ es) none = cc

pub its-first : (facts : WorkKey → Fact) (es : List Element) (e : Element) → Some e ≡ slice_get es 0 → first_id (rows_in (states facts es)) ≡ e.id
its-first facts [] e some = cc
its-first facts (x ∷ es) e some =
    let same : x ≡ e = cc in
    first-is facts x ∙ ap (λ (y : Element). y.id) same

-- lists added from the first element on
pub from-first : (facts : WorkKey → Fact) (es : List Element) (from : List ℕ) (before now : List KeptList) → first_id (rows_in (states facts es)) ≡ from
    → now ≡ before ++ kept_of facts es from → now ≡ before ++ lists_in (tree_first (states facts es))
from-first facts es from before now is added = added ∙ ap (λ f. before ++ kept_of facts es f) (sym is)

-- ---- Where the list shows the work key

-- what is kept of it is kept of a list
pub first-kept : (facts : WorkKey → Fact) (es : List Element) (lists : List KeptList) → KeepsFirst facts es lists → Keeps facts es lists
first-kept facts es lists keeps = (first_id (rows_in (states facts es)), keeps.0, keeps.1)

pub first-value : (facts later : WorkKey → Fact) (es : List Element) (value : Value) → value ≡ value_kept (tree_of later es (first_id (rows_in (states facts es))))
    → value ≡ value_kept (tree_first (states later es))
first-value facts later es value is = is ∙ ap (λ from. value_kept (tree_of later es from)) (sym (first-same facts later es))

pub first-puts : (facts later : WorkKey → Fact) (es : List Element) (others changes : List ListChange) (base : ℕ)
    → Puts others changes base (kept_of facts es (first_id (rows_in (states facts es)))) (kept_of later es (first_id (rows_in (states facts es))))
    → Puts others changes base (lists_in (tree_first (states facts es))) (lists_in (tree_first (states later es)))
first-puts facts later es others changes base puts =
    subst (λ from. Puts others changes base (lists_in (tree_first (states facts es))) (kept_of later es from)) (sym (first-same facts later es)) puts

-- ---- Where it does not hold an id

pub list-same : (id : List ℕ) (facts later : WorkKey → Fact) → DifferAt id facts later → (es : List Element) → count_of id es ≡ 0 → states later es ≡ states facts es
list-same id facts later differ [] none = refl
list-same id facts later differ (e ∷ es) none =
    let here : count_in id e ≡ 0 = omega (arith, none) in
    let rest : count_of id es ≡ 0 = omega (arith, none) in
    ap (λ s. s ∷ states later es) (kept-same id facts later differ e here) ∙ ap (λ ss. kept_element facts e ∷ ss) (list-same id facts later differ es rest)

-- ---- A flow

kept-flow-body : (facts : WorkKey → Fact) (es : List Element) → kept_body facts (Flow es) ≡ body_kept (OpenFlow (states facts es))
kept-flow-body facts es = ap (kept_body facts) (sym (rolls-Flow es)) ∙ fold-roll-Body KeptBody KeptElement KeptTree body_kept (element_kept facts) flow_kept (OpenFlow es)

pub kept-flow : (facts : WorkKey → Fact) (e : Element) (es : List Element) → e.body ≡ Flow es
    → ((kept_element facts e).row.own_result ≡ flow_result (value_kept (tree_first (states facts es)))) × ((kept_element facts e).inside ≡ lists_in (tree_first (states facts es)))
kept-flow facts e es is =
    let parts = fold_out-Element KeptBody KeptElement KeptTree body_kept (element_kept facts) flow_kept e in
    let body : kept_body facts e.body ≡ body_kept (OpenFlow (states facts es)) = ap (kept_body facts) is ∙ kept-flow-body facts es in (
      ap (λ (s : KeptElement). s.row.own_result) parts ∙ ap (λ (h : KeptBody). element_result facts e.id h.part) body,
      ap (λ (s : KeptElement). s.inside) parts ∙ ap (λ (h : KeptBody). h.inside) body,
    )

pub flow-all : (e : Element) (es : List Element) → e.body ≡ Flow es → ((id : List ℕ) → count_in id e ≤ 1) → (id : List ℕ) → count_of id es ≤ 1
flow-all e es is once id =
    let part = flow-once id e es is in
    let all = once id in
    omega (arith, part, all)

pub flow-puts : (facts later : WorkKey → Fact) (e : Element) (es those : List Element) (others changes : List ListChange) (base : ℕ) → e.body ≡ Flow es → those ≡ es
    → Puts others changes base (lists_in (tree_first (states facts those))) (lists_in (tree_first (states later those)))
    → Puts others changes base (kept_element facts e).inside (kept_element later e).inside
flow-puts facts later e es those others changes base is same puts =
    let one = (kept-flow facts e es is).1 ∙ ap (λ xs. lists_in (tree_first (states facts xs))) (sym same) in
    let two = (kept-flow later e es is).1 ∙ ap (λ xs. lists_in (tree_first (states later xs))) (sym same) in
    subst (λ x. Puts others changes base x (kept_element later e).inside) (sym one)
    (subst (λ x. Puts others changes base (lists_in (tree_first (states facts those))) x) (sym two) puts)

-- what is kept of its list
pub flow-kept : (facts : WorkKey → Fact) (e : Element) (es : List Element) (lists : List KeptList) → e.body ≡ Flow es → KeepsInside facts e lists → KeepsFirst facts es lists
flow-kept facts e es lists is keeps = (keeps.0, keeps.1 ∙ ap (λ xs. xs ++ keeps.0) (kept-flow facts e es is).1)

pub flow-shows : (facts : WorkKey → Fact) (e : Element) (es : List Element) (key : WorkKey) (lists : List KeptList) → e.body ≡ Flow es → KeepsInside facts e lists
    → result_shows key (kept_element facts e).row.own_result ≡ true → first_shows key lists ≡ true
flow-shows facts e es key lists is keeps shown =
    ap (first_shows key) (flow-kept facts e es lists is keeps).1
    ∙ flow-shown key (value_kept (tree_first (states facts es))) (ap (result_shows key) (sym (kept-flow facts e es is).0) ∙ shown)

-- ---- A split

-- the lists of a flow of a split, by what is known
abbrev pub flow_lists : (WorkKey → Fact) → SplitFlow → List KeptList
flow_lists facts f = lists_in (kept_flow facts f)

pub flow-lists-first : (facts : WorkKey → Fact) (f : SplitFlow) → flow_lists facts f ≡ lists_in (tree_first (states facts (out-SplitFlow f).elements))
flow-lists-first facts f = ap lists_in (whole-parts facts f)

drop-past : {X : Type 0} (xs ys : List X) → drop (length xs) (xs ++ ys) ≡ ys
drop-past [] ys = refl
drop-past (x ∷ xs) ys = drop-past xs ys

pub joined-take : {X Y : Type 0} (g : X → List Y) (xs : List X) (i : ℕ) (x : X) → i < length xs → x ≡ get_or xs i x
    → joined (map g xs) ≡ joined (map g (take i xs)) ++ (g x ++ joined (map g (drop (i + 1) xs)))
joined-take g [] i x lt is = absurd (omega (arith, lt))
joined-take g (y ∷ xs) zero x lt is = ap (λ z. g z ++ joined (map g xs)) (sym is)
joined-take g (y ∷ xs) (suc i) x lt is =
    let e : suc i + 1 ≡ suc (i + 1) = omega arith in
    ap (λ r. g y ++ r) (joined-take g xs i x (omega (arith, lt)) is)
    ∙ (sym (append_assoc (g y) (joined (map g (take i xs))) (g x ++ joined (map g (drop (i + 1) xs))))
    ∙ ap (λ n. (g y ++ joined (map g (take i xs))) ++ (g x ++ joined (map g (drop n (y ∷ xs))))) (sym e))

-- what is kept of the flow at a place stands behind what is kept of those before it
pub flows-inside : (facts : WorkKey → Fact) (flows : List SplitFlow) (lists : List KeptList) (i start : ℕ) (f : SplitFlow)
    → KeepsFlows facts flows lists → i < length flows → f ≡ get_or flows i f → start ≡ length (joined (map (flow_lists facts) (take i flows)))
    → (KeepsFirst facts (out-SplitFlow f).elements (drop start lists)) × (start + length (flow_lists facts f) ≤ length lists)
flows-inside facts flows lists i start f keeps lt at begins =
    let before : List KeptList = joined (map (flow_lists facts) (take i flows)) in
    let behind : List KeptList = joined (map (flow_lists facts) (drop (i + 1) flows)) in
    let whole : lists ≡ before ++ (flow_lists facts f ++ (behind ++ keeps.0)) =
    keeps.1 ∙ (ap (λ r. r ++ keeps.0) (joined-take (flow_lists facts) flows i f lt at)
    ∙ (append_assoc before (flow_lists facts f ++ behind) keeps.0 ∙ ap (λ r. before ++ r) (append_assoc (flow_lists facts f) behind keeps.0))) in
    let l : length lists ≡ length (before ++ (flow_lists facts f ++ (behind ++ keeps.0))) = ap length whole in
    let a = length-append before (flow_lists facts f ++ (behind ++ keeps.0)) in
    let b = length-append (flow_lists facts f) (behind ++ keeps.0) in (
      (
        behind ++ keeps.0,
        ap (λ n. drop n lists) begins ∙ (ap (drop (length before)) whole ∙ (drop-past before (flow_lists facts f ++ (behind ++ keeps.0))
            ∙ ap (λ r. r ++ (behind ++ keeps.0)) (flow-lists-first facts f))),
      ),
      omega (arith, begins, l, a, b),
    )

place-there : (p : Option ℕ) → p ≡ None ⊎ ((k : ℕ) × (p ≡ Some k))
place-there None = inl refl
place-there (Some k) = inr (k, refl)

-- a list that shows a work key holds its element
list-holds : (facts : WorkKey → Fact) (es : List Element) (from : List ℕ) (key : WorkKey) (d : Element) → shows key (value_kept (tree_of facts es from)) ≡ true → 1 ≤ count_of key.element es
list-holds facts es from key d shown =
    elim (place-there (head_in facts es from).progress.place) [
      | inl nowhere ↦ absurd (never-nowhere facts es from key shown nowhere)
      | inr at ↦
          let there = reached facts es from key at.0 d shown at.1 in
          let x : Element = get_or es at.0 d in
          let counted : 1 ≤ count_in key.element x =
          shown-counts key facts x (ap (λ (row : WalkedElement). result_shows key row.own_result) (sym (kept-row facts x)) ∙ reached-shows facts es from key at.0 d shown there) in
          let part = within (count_in key.element) es at.0 d there.within in
          omega (arith, counted, part)
    ]

pub flow-holds : (facts : WorkKey → Fact) (f : SplitFlow) (key : WorkKey) (d : Element) → shows key (value_kept (kept_flow facts f)) ≡ true → 1 ≤ count_in_flow key.element f
flow-holds facts f key d shown =
    let es = (out-SplitFlow f).elements in
    let held = list-holds facts es (first_id (rows_in (states facts es))) key d (ap (λ w. shows key (value_kept w)) (sym (whole-parts facts f)) ∙ shown) in
    let fits = flow-count key.element f in
    omega (arith, held, fits)

pub split-once : (e : Element) (flows : List SplitFlow) (id : List ℕ) (i : ℕ) (f : SplitFlow) (es : List Element) → e.body ≡ Split flows → count_in id e ≤ 1
    → i < length flows → f ≡ get_or flows i f → es ≡ (out-SplitFlow f).elements → count_of id es ≤ 1
split-once e flows id i f es is once lt at these =
    let all = split-count id e flows is in
    let part = within (count_in_flow id) flows i f lt in
    let same : count_in_flow id f ≡ count_in_flow id (get_or flows i f) = ap (count_in_flow id) at in
    let fits = flow-count id f in
    let these2 : count_of id es ≡ count_of id (out-SplitFlow f).elements = ap (count_of id) these in
    omega (arith, all, once, part, same, fits, these2)

pub split-start : (facts : WorkKey → Fact) (flows : List SplitFlow) (i : ℕ) (f : SplitFlow) (start size : ℕ) → i < length flows → f ≡ get_or flows i f
    → start ≡ length (joined (map (flow_lists facts) (take i flows))) → size ≡ length (flow_lists facts f)
    → start + size ≡ length (joined (map (flow_lists facts) (take (i + 1) flows)))
split-start facts flows i f start size lt at begins many =
    let more : length (joined (map (flow_lists facts) (take (i + 1) flows))) ≡ length (joined (map (flow_lists facts) (take i flows)) ++ flow_lists facts f) =
    ap length (ap joined (one-more (flow_lists facts) flows i f lt at) ∙ joined-last (map (flow_lists facts) (take i flows)) (flow_lists facts f)) in
    let a = length-append (joined (map (flow_lists facts) (take i flows))) (flow_lists facts f) in
    omega (arith, begins, many, more, a)
