-- What is kept of a tree: its rows are the walk's, a fact changes only what holds its element, and what is shown stands in it.
use Rattle.std.proofs.Common.{◌≡◌, ◌≢◌, ℕ, ◌+◌, Bool, true, false, Option, None, Some, List, [], ◌∷◌, length, map, refl, ◌∙◌, ap, arith, subst}
use Rattle.std.specs.Cmp.Lexicographic.{bytes_decides}
use Rattle.std.specs.Str.{bytes_eq}
use Rattle.jsl_model.specs.declared.element.Element.{Element, ind-Element, map-Element, fold-roll-Element}
use Rattle.jsl_model.specs.declared.element.SplitFlow.{SplitFlow, fold-roll-SplitFlow}
use Rattle.jsl_model.specs.declared.element.Body.{Body, Body-F, map-Body, fold-roll-Body}
use Rattle.jsl_model.specs.declared.element.Body.TheOpen.{Step, Flow, Split, Decision}
use Rattle.walk_rules.specs.declared.facts.Fact.{Fact}
use Rattle.walk_rules.specs.declared.facts.Value.{Value}
use Rattle.walk_rules.specs.declared.element_result.ElementResult.{ElementResult}
use Rattle.job_walk.specs.declared.kept_list.KeptList.{KeptList}
use Rattle.walk_rules.specs.declared.work_key.WorkKey.{WorkKey}
use Rattle.walk_rules.specs.Keys.{key_of, numbers_to}
use Rattle.walk_rules.specs.Walk.{WalkedElement, BodyResult, IsStep, IsDecision, HasResult, known_of, runnable_result, partitioned_result, step_result, follow, first_id, flow_result, split_result, body_result, element_with_result, flow_value, walked_element, walked_body, element_result, value_of_flow}
use Rattle.job_walk.specs.KeptLists.{DifferAt, KeptElement, KeptBody, KeptTree, rows_in, tree_first, value_kept, body_kept, element_kept, flow_kept, kept_element, kept_body, kept_flow}
use Rattle.walk_rules.specs.Counts.{body_count, element_count, flow_count, one_if, total, count_in, count_in_body, count_in_flow}

-- ---- The rows that are kept are the walk's

abbrev KeptPart : (WorkKey → Fact) → Body → Type 0
KeptPart facts b = (kept_body facts b).part ≡ walked_body facts b

abbrev KeptRow : (WorkKey → Fact) → Element → Type 0
KeptRow facts e = (kept_element facts e).row ≡ walked_element facts e

abbrev KeptFlow : (WorkKey → Fact) → SplitFlow → Type 0
KeptFlow facts f = value_kept (kept_flow facts f) ≡ value_of_flow facts f

rows-kept : (facts : WorkKey → Fact) (es : List ((e : Element) × KeptRow facts e)) → rows_in (map (kept_element facts) (map (λ e. e.0) es)) ≡ map (walked_element facts) (map (λ e. e.0) es)
rows-kept facts [] = refl
rows-kept facts (e ∷ es) = ap (λ (r : WalkedElement). r ∷ rows_in (map (kept_element facts) (map (λ (x : (y : Element) × KeptRow facts y). x.0) es))) e.1 ∙ ap (λ (rs : List WalkedElement). walked_element facts e.0 ∷ rs) (rows-kept facts es)

values-kept : (facts : WorkKey → Fact) (fs : List ((f : SplitFlow) × KeptFlow facts f)) → map value_kept (map (kept_flow facts) (map (λ f. f.0) fs)) ≡ map (value_of_flow facts) (map (λ f. f.0) fs)
values-kept facts [] = refl
values-kept facts (f ∷ fs) = ap (λ (v : Value). v ∷ map value_kept (map (kept_flow facts) (map (λ (x : (y : SplitFlow) × KeptFlow facts y). x.0) fs))) f.1 ∙ ap (λ (vs : List Value). value_of_flow facts f.0 ∷ vs) (values-kept facts fs)

abbrev whole_row_value : List WalkedElement → Value
whole_row_value rows = follow (length rows) rows (first_id rows)

part-kept : (facts : WorkKey → Fact) (y : Body-F ((b : Body) × KeptPart facts b) ((e : Element) × KeptRow facts e) ((f : SplitFlow) × KeptFlow facts f))
    → (body_kept (map-Body Body Element SplitFlow KeptBody KeptElement KeptTree (kept_body facts) (kept_element facts) (kept_flow facts) (map-Body _ _ _ Body Element SplitFlow (λ e. e.0) (λ e. e.0) (λ e. e.0) y))).part
    ≡ body_result (map-Body Body Element SplitFlow BodyResult WalkedElement Value (walked_body facts) (walked_element facts) (value_of_flow facts) (map-Body _ _ _ Body Element SplitFlow (λ e. e.0) (λ e. e.0) (λ e. e.0) y))
part-kept facts (Step step) = refl
part-kept facts (Decision artifact) = refl
part-kept facts (Flow es) = ap (λ (rs : List WalkedElement). HasResult (flow_result (whole_row_value rs))) (rows-kept facts es)
part-kept facts (Split fs) = ap (λ (vs : List Value). HasResult (split_result vs)) (values-kept facts fs)

pub kept-row : (facts : WorkKey → Fact) (e : Element) → (kept_element facts e).row ≡ walked_element facts e
kept-row facts =
    ind-Element (KeptPart facts) (KeptRow facts) (KeptFlow facts)
    (λ x y is.
    rw (fold-roll-Body KeptBody KeptElement KeptTree body_kept (element_kept facts) flow_kept x)
    (rw (fold-roll-Body BodyResult WalkedElement Value body_result (element_with_result facts) flow_value x)
    (subst (λ z. (body_kept (map-Body Body Element SplitFlow KeptBody KeptElement KeptTree (kept_body facts) (kept_element facts) (kept_flow facts) z)).part
    ≡ body_result (map-Body Body Element SplitFlow BodyResult WalkedElement Value (walked_body facts) (walked_element facts) (value_of_flow facts) z)) is (part-kept facts y))))
    (λ x y is.
    rw (fold-roll-Element KeptBody KeptElement KeptTree body_kept (element_kept facts) flow_kept x)
    (rw (fold-roll-Element BodyResult WalkedElement Value body_result (element_with_result facts) flow_value x)
    (subst (λ z. (element_kept facts (map-Element Body Element SplitFlow KeptBody KeptElement KeptTree (kept_body facts) (kept_element facts) (kept_flow facts) z)).row
    ≡ element_with_result facts (map-Element Body Element SplitFlow BodyResult WalkedElement Value (walked_body facts) (walked_element facts) (value_of_flow facts) z)) is
    (let inner : (kept_body facts y.body.0).part ≡ walked_body facts y.body.0 = y.body.1 in
    ap (λ (p : BodyResult). record { id = y.id; next = y.next; transitions = y.transitions; own_result = element_result facts y.id p }) inner))))
    (λ x y is.
    rw (fold-roll-SplitFlow KeptBody KeptElement KeptTree body_kept (element_kept facts) flow_kept x)
    (rw (fold-roll-SplitFlow BodyResult WalkedElement Value body_result (element_with_result facts) flow_value x)
    (subst (λ z. value_kept (tree_first (map (kept_element facts) z.elements)) ≡ whole_row_value (map (walked_element facts) z.elements)) is
    (ap whole_row_value (rows-kept facts y.elements)))))

-- ---- A fact changes only what holds its element

abbrev SameHeld : List ℕ → (WorkKey → Fact) → (WorkKey → Fact) → Body → Type 0
SameHeld id facts later b = count_in_body id b ≡ 0 → kept_body later b ≡ kept_body facts b

abbrev SameStated : List ℕ → (WorkKey → Fact) → (WorkKey → Fact) → Element → Type 0
SameStated id facts later e = count_in id e ≡ 0 → kept_element later e ≡ kept_element facts e

abbrev SameWhole : List ℕ → (WorkKey → Fact) → (WorkKey → Fact) → SplitFlow → Type 0
SameWhole id facts later f = count_in_flow id f ≡ 0 → kept_flow later f ≡ kept_flow facts f

all-same : {X S : Type 0} (count : X → ℕ) (f g : X → S) (xs : List ((x : X) × (count x ≡ 0 → g x ≡ f x)))
    → total (map count (map (λ x. x.0) xs)) ≡ 0 → map g (map (λ x. x.0) xs) ≡ map f (map (λ x. x.0) xs)
all-same count f g [] none = refl
all-same {X = X} {S = S} count f g (x ∷ xs) none =
    let rest : total (map count (map (λ (y : (x : X) × (count x ≡ 0 → g x ≡ f x)). y.0) xs)) ≡ 0 = omega (arith, none) in
    let here : count x.0 ≡ 0 = omega (arith, none) in
    ap (λ (s : S). s ∷ map g (map (λ (y : (x : X) × (count x ≡ 0 → g x ≡ f x)). y.0) xs)) (x.1 here) ∙ ap (λ (ss : List S). f x.0 ∷ ss) (all-same count f g xs rest)

kept_body-same : (id : List ℕ) (facts later : WorkKey → Fact)
    → (y : Body-F ((b : Body) × SameHeld id facts later b) ((e : Element) × SameStated id facts later e) ((f : SplitFlow) × SameWhole id facts later f))
    → body_count (map-Body Body Element SplitFlow ℕ ℕ ℕ (count_in_body id) (count_in id) (count_in_flow id) (map-Body _ _ _ Body Element SplitFlow (λ e. e.0) (λ e. e.0) (λ e. e.0) y)) ≡ 0
    → body_kept (map-Body Body Element SplitFlow KeptBody KeptElement KeptTree (kept_body later) (kept_element later) (kept_flow later) (map-Body _ _ _ Body Element SplitFlow (λ e. e.0) (λ e. e.0) (λ e. e.0) y))
    ≡ body_kept (map-Body Body Element SplitFlow KeptBody KeptElement KeptTree (kept_body facts) (kept_element facts) (kept_flow facts) (map-Body _ _ _ Body Element SplitFlow (λ e. e.0) (λ e. e.0) (λ e. e.0) y))
kept_body-same id facts later (Step step) none = refl
kept_body-same id facts later (Decision artifact) none = refl
kept_body-same id facts later (Flow es) none =
    ap (λ (all : List KeptElement). body_kept (Flow all)) (all-same (count_in id) (kept_element facts) (kept_element later) es none)
kept_body-same id facts later (Split fs) none =
    ap (λ (all : List KeptTree). body_kept (Split all)) (all-same (count_in_flow id) (kept_flow facts) (kept_flow later) fs none)

one-none : (b : Bool) → one_if b ≡ 0 → b ≡ false
one-none true e = absurd (omega (arith, e))
one-none false e = refl

off : (i id : List ℕ) → bytes_eq i id ≡ false → i ≢ id
off i id away same = let yes : bytes_eq i id ≡ true = (bytes_decides i id).1 same in cc

known-apart : (id : List ℕ) (facts later : WorkKey → Fact) → DifferAt id facts later → (i : List ℕ) → i ≢ id → (ns : List ℕ)
    → known_of later (map (key_of i) ns) ≡ known_of facts (map (key_of i) ns)
known-apart id facts later differ i away [] = refl
known-apart id facts later differ i away (n ∷ ns) =
    let here : later (key_of i n) ≡ facts (key_of i n) = differ (key_of i n) away in
    let rest : known_of later (map (key_of i) ns) ≡ known_of facts (map (key_of i) ns) = known-apart id facts later differ i away ns in
    cc

step-apart : (id : List ℕ) (facts later : WorkKey → Fact) → DifferAt id facts later → (i : List ℕ) → i ≢ id → (partitions : Option ℕ)
    → step_result later i partitions ≡ step_result facts i partitions
step-apart id facts later differ i away None = ap (runnable_result (key_of i 0)) (differ (key_of i 0) away)
step-apart id facts later differ i away (Some count) = ap partitioned_result (known-apart id facts later differ i away (numbers_to count))

-- what an element of another id comes to by itself
result-apart : (id : List ℕ) (facts later : WorkKey → Fact) → DifferAt id facts later → (i : List ℕ) → i ≢ id → (part : BodyResult)
    → element_result later i part ≡ element_result facts i part
result-apart id facts later differ i away (IsStep step) = step-apart id facts later differ i away step.partitions
result-apart id facts later differ i away IsDecision = ap (runnable_result (key_of i 0)) (differ (key_of i 0) away)
result-apart id facts later differ i away (HasResult own_result) = refl

element-apart : (id : List ℕ) (facts later : WorkKey → Fact) → DifferAt id facts later → (i : List ℕ) (n : ℕ) (h h2 : KeptBody)
    → one_if (bytes_eq i id) + n ≡ 0 → (n ≡ 0 → h2 ≡ h) → ((part : BodyResult) → element_result later i part ≡ element_result facts i part) × (h2 ≡ h)
element-apart id facts later differ i n h h2 none same =
    let here : one_if (bytes_eq i id) ≡ 0 = omega (arith, none) in
    let rest : n ≡ 0 = omega (arith, none) in
    (result-apart id facts later differ i (off i id (one-none (bytes_eq i id) here)), same rest)

-- THE LOCALITY LAW: what is kept of an element that holds no element of this id stays
pub kept-same : (id : List ℕ) (facts later : WorkKey → Fact) → DifferAt id facts later → (e : Element) → count_in id e ≡ 0 → kept_element later e ≡ kept_element facts e
kept-same id facts later differ =
    ind-Element (SameHeld id facts later) (SameStated id facts later) (SameWhole id facts later)
    (λ x y is.
    rw (fold-roll-Body ℕ ℕ ℕ body_count (element_count id) (flow_count id) x)
    (rw (fold-roll-Body KeptBody KeptElement KeptTree body_kept (element_kept facts) flow_kept x)
    (rw (fold-roll-Body KeptBody KeptElement KeptTree body_kept (element_kept later) flow_kept x)
    (subst (λ z. body_count (map-Body Body Element SplitFlow ℕ ℕ ℕ (count_in_body id) (count_in id) (count_in_flow id) z) ≡ 0
    → body_kept (map-Body Body Element SplitFlow KeptBody KeptElement KeptTree (kept_body later) (kept_element later) (kept_flow later) z)
    ≡ body_kept (map-Body Body Element SplitFlow KeptBody KeptElement KeptTree (kept_body facts) (kept_element facts) (kept_flow facts) z)) is (kept_body-same id facts later y)))))
    (λ x y is.
    rw (fold-roll-Element ℕ ℕ ℕ body_count (element_count id) (flow_count id) x)
    (rw (fold-roll-Element KeptBody KeptElement KeptTree body_kept (element_kept facts) flow_kept x)
    (rw (fold-roll-Element KeptBody KeptElement KeptTree body_kept (element_kept later) flow_kept x)
    (subst (λ z. element_count id (map-Element Body Element SplitFlow ℕ ℕ ℕ (count_in_body id) (count_in id) (count_in_flow id) z) ≡ 0
    → element_kept later (map-Element Body Element SplitFlow KeptBody KeptElement KeptTree (kept_body later) (kept_element later) (kept_flow later) z)
    ≡ element_kept facts (map-Element Body Element SplitFlow KeptBody KeptElement KeptTree (kept_body facts) (kept_element facts) (kept_flow facts) z)) is
    (λ none.
    let both = element-apart id facts later differ y.id (count_in_body id y.body.0) (kept_body facts y.body.0) (kept_body later y.body.0) none y.body.1 in
    let made : ElementResult → List KeptList → KeptElement = λ r inside. record { row = record { id = y.id; next = y.next; transitions = y.transitions; own_result = r }; inside = inside } in
    ap (λ r. made r (kept_body later y.body.0).inside) (both.0 (kept_body later y.body.0).part) ∙ ap (λ (h : KeptBody). made (element_result facts y.id h.part) h.inside) both.1)))))
    (λ x y is.
    rw (fold-roll-SplitFlow ℕ ℕ ℕ body_count (element_count id) (flow_count id) x)
    (rw (fold-roll-SplitFlow KeptBody KeptElement KeptTree body_kept (element_kept facts) flow_kept x)
    (rw (fold-roll-SplitFlow KeptBody KeptElement KeptTree body_kept (element_kept later) flow_kept x)
    (subst (λ z. one_if (bytes_eq z.id id) + total (map (count_in id) z.elements) ≡ 0
    → tree_first (map (kept_element later) z.elements) ≡ tree_first (map (kept_element facts) z.elements)) is
    (λ none. let rest : total (map (count_in id) (map (λ (e : (x : Element) × SameStated id facts later x). e.0) y.elements)) ≡ 0 = omega (arith, none) in
    ap tree_first (all-same (count_in id) (kept_element facts) (kept_element later) y.elements rest))))))
