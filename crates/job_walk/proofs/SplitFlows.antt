-- The flows of a split, of which one shows a work key: where its lists stand, and what becomes of all once it changes.
use Rattle.std.proofs.Common.{Bool, ◌≡◌, ◌≢◌, ◌⊎◌, inl, inr, ℕ, zero, suc, ◌+◌, ◌<◌, ◌≤◌, true, false, List, [], ◌∷◌, ◌++◌, length, map, take, drop, get_or, set, refl, sym, ◌∙◌, ap, arith, subst}
use Rattle.std.proofs.lemmas.List.{append_assoc, drop_more, get_or-drop, get_or-map, get_or-set_same, get_or-set_other, length-map, length-set, set_split, take_more, take-map, drop-map}
use Rattle.jsl_model.specs.Trees.{joined}
use Rattle.jsl_model.specs.declared.element.Element.{Element}
use Rattle.jsl_model.specs.declared.element.SplitFlow.{SplitFlow, out-SplitFlow}
use Rattle.jsl_model.specs.declared.element.Body.TheVariants.{Split}
use Rattle.walk_rules.specs.declared.facts.Fact.{Fact}
use Rattle.walk_rules.specs.declared.facts.Value.{Value}
use Rattle.walk_rules.specs.declared.work_key.WorkKey.{WorkKey}
use Rattle.walk_rules.specs.Counts.{total, count_in, count_in_flow}
use Rattle.walk_rules.specs.Shown.{shows}
use Rattle.job_walk.specs.declared.kept_list.KeptList.{KeptList}
use Rattle.job_walk.specs.declared.kept_list.ListChange.{ListChange}
use Rattle.job_walk.specs.KeptLists.{KeptTree, insides, kept_element, kept_flow, tree_first, lists_in, value_kept, result_shows, Puts, DifferAt, KeepsFirst, KeepsInside, KeepsFlows, ShowsInFlow}
use Rattle.job_plans.proofs.Counted.{flow-count, split-count}
use Rattle.job_walk.proofs.Flows.{flow_lists, flow-lists-first, flow-holds, flows-inside, joined-take, list-same, split-start}
use Rattle.job_walk.proofs.KeptAtFirst.{kept-split, whole-parts}
use Rattle.job_walk.proofs.Putting.{puts-first, puts-more, puts-none}
use Rattle.job_walk.proofs.Reporting.{states}
use Rattle.job_walk.proofs.ShownCounts.{all_show, one-shows}

-- ---- Where a flow's lists stand

-- what is kept of the lists inside a split is kept of its flows
pub split-keeps : (facts : WorkKey → Fact) (e : Element) (flows : List SplitFlow) (lists : List KeptList) → e.body ≡ Split flows → KeepsInside facts e lists → KeepsFlows facts flows lists
split-keeps facts e flows lists is keeps = (keeps.0, keeps.1 ∙ ap (λ r. r ++ keeps.0) (kept-split facts e flows is).1)

pub split-shows : (facts : WorkKey → Fact) (e : Element) (flows : List SplitFlow) (lists : List KeptList) (key : WorkKey) → e.body ≡ Split flows → KeepsInside facts e lists
    → result_shows key (kept_element facts e).row.own_result ≡ true → ShowsInFlow key flows lists
split-shows facts e flows lists key is keeps shown =
    (facts, split-keeps facts e flows lists is keeps, ap (result_shows key) (sym (kept-split facts e flows is).0) ∙ shown)

-- there is a flow at a place
pub flow-there : (flows : List SplitFlow) (i : ℕ) → i < length flows → (f : SplitFlow) × (f ≡ get_or flows i f)
flow-there [] i lt = absurd (omega (arith, lt))
flow-there (f ∷ flows) zero lt = (f, refl)
flow-there (f ∷ flows) (suc i) lt = flow-there flows i (omega (arith, lt))

flow-size : (facts : WorkKey → Fact) (f : SplitFlow) → (kept_flow facts f).head.size ≡ length (flow_lists facts f)
flow-size facts f =
    let head : (kept_flow facts f).head.size ≡ length (joined (insides (states facts (out-SplitFlow f).elements))) + 1 = ap (λ (w : KeptTree). w.head.size) (whole-parts facts f) in
    let l : length (flow_lists facts f) ≡ length (lists_in (tree_first (states facts (out-SplitFlow f).elements))) = ap length (flow-lists-first facts f) in
    let m : length (lists_in (tree_first (states facts (out-SplitFlow f).elements))) ≡ suc (length (joined (insides (states facts (out-SplitFlow f).elements)))) = refl in
    omega (arith, head, l, m)

-- what stands at hand of a flow whose lists begin behind this many
pub record AtFlow (facts : WorkKey → Fact) (flows : List SplitFlow) (lists : List KeptList) (i start : ℕ) (f : SplitFlow) : Type 0 where
  pub first : KeepsFirst facts (out-SplitFlow f).elements (drop start lists)
  pub room : start + length (flow_lists facts f) ≤ length lists
  pub some : start < length lists
  pub head : (kept : KeptList) → kept ≡ get_or lists start kept → kept ≡ (kept_flow facts f).head
  pub fits : (kept : KeptList) → kept ≡ get_or lists start kept → start + kept.size ≤ length lists
  pub next : (kept : KeptList) → kept ≡ get_or lists start kept → start + kept.size ≡ length (joined (map (flow_lists facts) (take (i + 1) flows)))

pub at-flow : (facts : WorkKey → Fact) (flows : List SplitFlow) (lists : List KeptList) (i start : ℕ) (f : SplitFlow)
    → KeepsFlows facts flows lists → i < length flows → f ≡ get_or flows i f → start ≡ length (joined (map (flow_lists facts) (take i flows)))
    → AtFlow facts flows lists i start f
at-flow facts flows lists i start f keeps lt at begins =
    let inner = flows-inside facts flows lists i start f keeps lt at begins in
    let room = inner.1 in
    let l : length (flow_lists facts f) ≡ length (lists_in (tree_first (states facts (out-SplitFlow f).elements))) = ap length (flow-lists-first facts f) in
    let m : length (lists_in (tree_first (states facts (out-SplitFlow f).elements))) ≡ suc (length (joined (insides (states facts (out-SplitFlow f).elements)))) = refl in
    let here : (kept : KeptList) → kept ≡ get_or lists start kept → kept ≡ (kept_flow facts f).head =
    λ kept got.
    let e : start + 0 ≡ start = omega arith in
    got ∙ (sym (get_or-drop start lists 0 kept ∙ ap (λ n. get_or lists n kept) e)
    ∙ (ap (λ ls. get_or ls 0 kept) inner.0.1 ∙ ap (λ (w : KeptTree). w.head) (sym (whole-parts facts f)))) in
    record {
      first = inner.0;
      room = room;
      some = omega (arith, room, l, m);
      head = here;
      fits = λ kept got.
          let size : kept.size ≡ length (flow_lists facts f) = ap (λ (k : KeptList). k.size) (here kept got) ∙ flow-size facts f in
          omega (arith, room, size);
      next = λ kept got.
          split-start facts flows i f start kept.size lt at begins (ap (λ (k : KeptList). k.size) (here kept got) ∙ flow-size facts f);
    }

-- ---- Which flow shows a work key

-- where a flow does not show it, one of those behind it does
pub later-shows : (key : WorkKey) (g : SplitFlow → Value) (flows : List SplitFlow) (i : ℕ) (f : SplitFlow) → i < length flows → f ≡ get_or flows i f
    → all_show key (map g (drop i flows)) ≡ true → shows key (g f) ≡ false → all_show key (map g (drop (i + 1) flows)) ≡ true
later-shows key g flows i f lt at all hidden =
    let rest : all_show key (g f ∷ map g (drop (i + 1) flows)) ≡ true =
    ap (λ x. all_show key (g x ∷ map g (drop (i + 1) flows))) at ∙ (sym (ap (λ fs. all_show key (map g fs)) (drop_more flows i f lt)) ∙ all) in
    elim (one-shows key (g f) (map g (drop (i + 1) flows)) rest) [
      | inl here ↦ absurd (shown-hidden _ here hidden)
      | inr later ↦ later
    ]
  where
    shown-hidden : (b : Bool) → b ≡ true → b ≡ false → ⊥
    shown-hidden b shown hidden = cc

-- ---- What becomes of the flows once one of them changes

-- one value more, of which one is changed
pub value-more : (g : SplitFlow → Value) (flows : List SplitFlow) (i changed : ℕ) (f : SplitFlow) (value : Value) (now more : List Value) (pushed : Value) → i < length flows → f ≡ get_or flows i f
    → now ≡ take i (set (map g flows) changed value) → more ≡ now ++ pushed ∷ []
    → ((i ≡ changed) × (pushed ≡ value)) ⊎ ((i ≢ changed) × (pushed ≡ g f))
    → more ≡ take (i + 1) (set (map g flows) changed value)
value-more g flows i changed f value now more pushed lt at so_far adds which =
    let l = length-map flows g in
    let l2 = length-set (map g flows) changed value in
    let here : pushed ≡ get_or (set (map g flows) changed value) i pushed =
    elim which [
      | inl one ↦ one.1 ∙ (sym (get_or-set_same (map g flows) changed value pushed (let e = one.0 in omega (arith, lt, l, e))) ∙ ap (λ n. get_or (set (map g flows) changed value) n pushed) (sym one.0))
      | inr other ↦ other.1 ∙ (ap g at ∙ (sym (get_or-map g flows i f pushed lt) ∙ sym (get_or-set_other (map g flows) changed i value pushed other.0)))
    ] in
    adds ∙ (ap (λ r. r ++ pushed ∷ []) so_far ∙ (ap (λ v. take i (set (map g flows) changed value) ++ v ∷ []) here
    ∙ sym (take_more (set (map g flows) changed value) i pushed (omega (arith, lt, l, l2)))))

total-apart : {X : Type 0} (count : X → ℕ) (xs : List X) (i : ℕ) (x : X) → i < length xs → x ≡ get_or xs i x
    → total (map count xs) ≡ total (map count (take i xs)) + (count x + total (map count (drop (i + 1) xs)))
total-apart count [] i x lt is = absurd (omega (arith, lt))
total-apart count (y ∷ xs) zero x lt is = let same : count x ≡ count y = ap count is in omega (arith, same)
total-apart count (y ∷ xs) (suc i) x lt is =
    let e : suc i + 1 ≡ suc (i + 1) = omega arith in
    let more = total-apart count xs i x (omega (arith, lt)) is in
    let d : total (map count (drop (suc i + 1) (y ∷ xs))) ≡ total (map count (drop (i + 1) xs)) = ap (λ n. total (map count (drop n (y ∷ xs)))) e in
    omega (arith, more, d)

map-apart : {X Y : Type 0} (h : X → Y) (xs : List X) (i : ℕ) (x : X) → i < length xs → x ≡ get_or xs i x
    → map h xs ≡ map h (take i xs) ++ (h x ∷ map h (drop (i + 1) xs))
map-apart h [] i x lt is = absurd (omega (arith, lt))
map-apart h (y ∷ xs) zero x lt is = ap (λ z. h z ∷ map h xs) (sym is)
map-apart h (y ∷ xs) (suc i) x lt is =
    let e : suc i + 1 ≡ suc (i + 1) = omega arith in
    ap (λ r. h y ∷ r) (map-apart h xs i x (omega (arith, lt)) is)
    ∙ ap (λ n. (h y ∷ map h (take i xs)) ++ (h x ∷ map h (drop n (y ∷ xs)))) (sym e)

-- flows that do not hold an id are as they were
flow-same : (id : List ℕ) (facts later : WorkKey → Fact) → DifferAt id facts later → (f : SplitFlow) → count_in_flow id f ≡ 0 → kept_flow later f ≡ kept_flow facts f
flow-same id facts later differ f none =
    let part = flow-count id f in
    whole-parts later f ∙ (ap tree_first (list-same id facts later differ (out-SplitFlow f).elements (omega (arith, none, part))) ∙ sym (whole-parts facts f))

flows-same : (id : List ℕ) (facts later : WorkKey → Fact) → DifferAt id facts later → {Y : Type 0} (g : KeptTree → Y) (flows : List SplitFlow) → total (map (count_in_flow id) flows) ≡ 0
    → map (λ f. g (kept_flow later f)) flows ≡ map (λ f. g (kept_flow facts f)) flows
flows-same id facts later differ g [] none = refl
flows-same id facts later differ g (f ∷ flows) none =
    let here : count_in_flow id f ≡ 0 = omega (arith, none) in
    let rest : total (map (count_in_flow id) flows) ≡ 0 = omega (arith, none) in
    ap (λ w. g w ∷ map (λ f2. g (kept_flow later f2)) flows) (flow-same id facts later differ f here)
    ∙ ap (λ r. g (kept_flow facts f) ∷ r) (flows-same id facts later differ g flows rest)

-- in a split whose elements have each id once, the flow at a place holds one, and no other does
pub record Alone (id : List ℕ) (flows : List SplitFlow) (i : ℕ) : Type 0 where
  pub before : total (map (count_in_flow id) (take i flows)) ≡ 0
  pub behind : total (map (count_in_flow id) (drop (i + 1) flows)) ≡ 0

pub stands-alone : (facts : WorkKey → Fact) (e d : Element) (flows : List SplitFlow) (key : WorkKey) (i : ℕ) (f : SplitFlow) → e.body ≡ Split flows → count_in key.element e ≤ 1
    → i < length flows → f ≡ get_or flows i f → shows key (value_kept (kept_flow facts f)) ≡ true → Alone key.element flows i
stands-alone facts e d flows key i f is once lt at shown =
    let held = flow-holds facts f key d shown in
    let all = split-count key.element e flows is in
    let parts = total-apart (count_in_flow key.element) flows i f lt at in
    record { before = omega (arith, held, all, once, parts); behind = omega (arith, held, all, once, parts) }

-- what the flows come to then
pub flows-values : (id : List ℕ) (facts later : WorkKey → Fact) → DifferAt id facts later → (flows : List SplitFlow) (i : ℕ) (f : SplitFlow) (value : Value)
    → Alone id flows i → i < length flows → f ≡ get_or flows i f → value ≡ value_kept (kept_flow later f)
    → set (map (λ g. value_kept (kept_flow facts g)) flows) i value ≡ map (λ g. value_kept (kept_flow later g)) flows
flows-values id facts later differ flows i f value alone lt at is =
    let before : SplitFlow → Value = λ g. value_kept (kept_flow facts g) in
    let after : SplitFlow → Value = λ g. value_kept (kept_flow later g) in
    let l = length-map flows before in
    let e : suc i ≡ i + 1 = omega arith in
    set_split (map before flows) i value (omega (arith, lt, l))
    ∙ (ap (λ r. r ++ value ∷ drop (suc i) (map before flows)) (take-map before i flows ∙ sym (flows-same id facts later differ value_kept (take i flows) alone.before))
    ∙ (ap (λ r. map after (take i flows) ++ value ∷ r) (drop-map before (suc i) flows ∙ (ap (λ n. map before (drop n flows)) e ∙ sym (flows-same id facts later differ value_kept (drop (i + 1) flows) alone.behind)))
    ∙ (ap (λ v. map after (take i flows) ++ v ∷ map after (drop (i + 1) flows)) is
    ∙ sym (map-apart after flows i f lt at))))

-- what is put into one flow is put into all
pub flows-put : (id : List ℕ) (facts later : WorkKey → Fact) → DifferAt id facts later → (flows : List SplitFlow) (i : ℕ) (f : SplitFlow) (others changes : List ListChange) (base start : ℕ)
    → Alone id flows i → i < length flows → f ≡ get_or flows i f → start ≡ length (joined (map (flow_lists facts) (take i flows)))
    → Puts others changes (base + start) (lists_in (tree_first (states facts (out-SplitFlow f).elements))) (lists_in (tree_first (states later (out-SplitFlow f).elements)))
    → Puts others changes base (joined (map (flow_lists facts) flows)) (joined (map (flow_lists later) flows))
flows-put id facts later differ flows i f others changes base start alone lt at begins puts =
    let before : List KeptList = joined (map (flow_lists facts) (take i flows)) in
    let behind : List KeptList = joined (map (flow_lists facts) (drop (i + 1) flows)) in
    let old : joined (map (flow_lists facts) flows) ≡ (before ++ flow_lists facts f) ++ behind =
    joined-take (flow_lists facts) flows i f lt at ∙ sym (append_assoc before (flow_lists facts f) behind) in
    let new : joined (map (flow_lists later) flows) ≡ (before ++ flow_lists later f) ++ behind =
    joined-take (flow_lists later) flows i f lt at
    ∙ (ap (λ r. joined r ++ (flow_lists later f ++ joined (map (flow_lists later) (drop (i + 1) flows)))) (flows-same id facts later differ lists_in (take i flows) alone.before)
    ∙ (ap (λ r. before ++ (flow_lists later f ++ joined r)) (flows-same id facts later differ lists_in (drop (i + 1) flows) alone.behind)
    ∙ sym (append_assoc before (flow_lists later f) behind))) in
    let there : Puts others changes (base + length before) (flow_lists facts f) (flow_lists later f) =
    subst (λ n. Puts others changes (base + n) (flow_lists facts f) (flow_lists later f)) begins
    (subst (λ x. Puts others changes (base + start) x (flow_lists later f)) (sym (flow-lists-first facts f))
    (subst (λ x. Puts others changes (base + start) (lists_in (tree_first (states facts (out-SplitFlow f).elements))) x) (sym (flow-lists-first later f)) puts)) in
    let whole = puts-first others changes base (before ++ flow_lists facts f) (before ++ flow_lists later f) behind
    (puts-more others others changes base before before (flow_lists facts f) (flow_lists later f) (puts-none others base before) there) in
    subst (λ x. Puts others changes base x (joined (map (flow_lists later) flows))) (sym old)
    (subst (λ x. Puts others changes base ((before ++ flow_lists facts f) ++ behind) x) (sym new) whole)
