-- What a walk shows as ready or busy stands among its elements.
use Rattle.std.proofs.Common.{◌≡◌, ◌≢◌, ℕ, zero, suc, ◌+◌, ◌≤◌, ◌<◌, ◌||◌, Bool, true, false, cond, Option, None, Some, List, [], ◌∷◌, ◌++◌, length, map, find, get_or, refl, sym, ◌∙◌, ap, arith, subst, ◌⊎◌, inl, inr}
use Rattle.std.proofs.lemmas.List.Folds.{list_any-append}
use Rattle.std.specs.Cmp.Lexicographic.{bytes_decides}
use Rattle.std.specs.Str.{bytes_eq}
use Rattle.batch_ids.specs.declared.status.BatchStatus.TheVariants.{Failed as StatusFailed, Stopped as StatusStopped, Completed as StatusCompleted}
use Rattle.std.specs.List.{list_all}
use Rattle.jsl_model.specs.declared.element.Element.{Element, ind-Element, map-Element, fold-roll-Element}
use Rattle.jsl_model.specs.declared.element.SplitFlow.{SplitFlow, fold-roll-SplitFlow}
use Rattle.jsl_model.specs.declared.element.Body.{Body, Body-F, map-Body, fold-roll-Body}
use Rattle.jsl_model.specs.declared.element.Body.TheOpen.{Step, Flow, Split, Decision}
use Rattle.walk_rules.specs.declared.facts.Fact.{Fact}
use Rattle.walk_rules.specs.declared.work_key.WorkKey.{WorkKey}
use Rattle.walk_rules.specs.Shown.{ready_of, busy_of}
use Rattle.walk_rules.specs.Keys.{key_of, keys_of_step, numbers_to, is_same_key, has_key}
use Rattle.walk_rules.specs.declared.facts.Value.{Value}
use Rattle.walk_rules.specs.declared.facts.Value.TheVariants.{Open, Done, Ended}
use Rattle.walk_rules.specs.declared.element_result.ElementResult.{ElementResult}
use Rattle.walk_rules.specs.declared.element_result.ElementResult.TheVariants.{ListValue, Outcome}
use Rattle.walk_rules.specs.Walk.{WalkedElement, BodyResult, IsStep, IsDecision, HasResult, step_result, follow, whole_value, flow_result, split_result, strongest_end, any_open, all_ready, all_busy, ended_as, body_result, element_with_result, flow_value, walked_element, walked_body, element_result, value_of_flow}
use Rattle.walk_rules.specs.Shown.{shows}
use Rattle.job_walk.specs.KeptLists.{result_shows}
use Rattle.walk_rules.specs.Counts.{total, one_if, body_count, element_count, flow_count, count_in, count_in_body, count_in_flow}
use Rattle.walk_rules.proofs.Stands.{shown-stands}
use Rattle.job_plans.proofs.Passing.{Tests, Passes, ResultPasses, step-passes}
use Rattle.job_walk.proofs.Reporting.{Passes as FoundPasses, find-passes}
use Rattle.job_plans.proofs.Shown.{ready-passes, busy-passes}
use Rattle.walk_rules.proofs.Places.{within}

turned-round : (one other : List ℕ) → bytes_eq one other ≡ true → bytes_eq other one ≡ true
turned-round one other h = (bytes_decides other one).1 (sym ((bytes_decides one other).0 h))

-- a test that work keys are of this element
abbrev of_element : List ℕ → Tests
of_element i = record { shown = λ key. bytes_eq key.element i; point = λ id. true }

all-numbered : (i : List ℕ) (ns : List ℕ) → list_all (of_element i).shown (map (key_of i) ns) ≡ true
all-numbered i [] = refl
all-numbered i (n ∷ ns) = let self : bytes_eq i i ≡ true = (bytes_decides i i).1 refl in rw self (all-numbered i ns)

all-own : (i : List ℕ) (partitions : Option ℕ) → list_all (of_element i).shown (keys_of_step i partitions) ≡ true
all-own i None = let self : bytes_eq i i ≡ true = (bytes_decides i i).1 refl in rw self refl
all-own i (Some count) = all-numbered i (numbers_to count)

value-shown : (tests : Tests) (v : Value) (key : WorkKey) (r b : Bool) → has_key (ready_of v) key ≡ r → has_key (busy_of v) key ≡ b
    → Passes tests v → (r || b) ≡ true → tests.shown key ≡ true
value-shown tests v key true b ready busy h shown = ready-passes tests v key h ready
value-shown tests v key false true ready busy h shown = busy-passes tests v key h busy
value-shown tests v key false false ready busy h shown = cc

result-shown : (tests : Tests) (r : ElementResult) (key : WorkKey) → ResultPasses tests r → result_shows key r ≡ true → tests.shown key ≡ true
result-shown tests (ListValue v) key h shown = value-shown tests v key (has_key (ready_of v) key) (has_key (busy_of v) key) refl refl h shown
result-shown tests (Outcome outcome exit) key h shown = cc

-- what a step shows is its own
step-shown : (key : WorkKey) (i : List ℕ) (facts : WorkKey → Fact) (partitions : Option ℕ) → result_shows key (step_result facts i partitions) ≡ true
    → bytes_eq i key.element ≡ true
step-shown key i facts partitions h =
    turned-round key.element i
    (result-shown (of_element i) (step_result facts i partitions) key (step-passes (of_element i) facts i partitions (all-own i partitions)) h)

-- a list
found-counts : {X : Type 0} (key : WorkKey) (f : X → WalkedElement) (count : X → ℕ) (p : WalkedElement → Bool) (xs : List ((x : X) × (result_shows key (f x).own_result ≡ true → 1 ≤ count x))) (row : WalkedElement)
    → find p (map f (map (λ x. x.0) xs)) ≡ Some row → result_shows key row.own_result ≡ true → 1 ≤ total (map count (map (λ x. x.0) xs))
found-counts key f count p [] row found shown = cc
found-counts {X = X} key f count p (x ∷ xs) row found shown =
    (elim (p (f x.0)) as (λ b. cond b (Some (f x.0)) (find p (map f (map (λ (y : (z : X) × (result_shows key (f z).own_result ≡ true → 1 ≤ count z)). y.0) xs))) ≡ Some row
    → 1 ≤ count x.0 + total (map count (map (λ (y : (z : X) × (result_shows key (f z).own_result ≡ true → 1 ≤ count z)). y.0) xs))) [
      | true ↦ λ e.
          let is : f x.0 ≡ row = cc in
          let here = x.1 (ap (λ (r : WalkedElement). result_shows key r.own_result) is ∙ shown) in
          omega (arith, here)
      | false ↦ λ e. let more = found-counts key f count p xs row e shown in omega (arith, more)
    ]) found

list-counts : {X : Type 0} (key : WorkKey) (f : X → WalkedElement) (count : X → ℕ) (xs : List ((x : X) × (result_shows key (f x).own_result ≡ true → 1 ≤ count x))) (n : ℕ) (from : List ℕ)
    → shows key (follow n (map f (map (λ x. x.0) xs)) from) ≡ true → 1 ≤ total (map count (map (λ x. x.0) xs))
list-counts key f count xs n from shown =
    let stands = shown-stands key _ n from shown in
    found-counts key f count _ xs stands.0 stands.1 (ap (result_shows key) stands.2 ∙ shown)

pub flow-shown : (key : WorkKey) (v : Value) → result_shows key (flow_result v) ≡ true → shows key v ≡ true
flow-shown key (Open ready busy) h = h
flow-shown key (Done exit) h = cc
flow-shown key (Ended status exit point) h = cc

-- a split
abbrev pub all_show : WorkKey → List Value → Bool
all_show key vs = has_key (all_ready vs) key || has_key (all_busy vs) key

sorted-out : (a1 a2 b1 b2 : Bool) → ((a1 || a2) || (b1 || b2)) ≡ true → ((a1 || b1) ≡ true) ⊎ ((a2 || b2) ≡ true)
sorted-out true a2 b1 b2 h = inl refl
sorted-out false true b1 b2 h = inr refl
sorted-out false false true b2 h = inl refl
sorted-out false false false b2 h = inr h

pub one-shows : (key : WorkKey) (v : Value) (rest : List Value) → all_show key (v ∷ rest) ≡ true → (shows key v ≡ true) ⊎ (all_show key rest ≡ true)
one-shows key (Open ready busy) rest h =
    sorted-out (has_key ready key) (has_key (all_ready rest) key) (has_key busy key) (has_key (all_busy rest) key)
    (sym (ap (λ b. b || has_key (busy ++ all_busy rest) key) (list_any-append (is_same_key key) ready (all_ready rest))
    ∙ ap (λ b. (has_key ready key || has_key (all_ready rest) key) || b) (list_any-append (is_same_key key) busy (all_busy rest))) ∙ h)
one-shows key (Done exit) rest h = inr h
one-shows key (Ended status exit point) rest h = inr h

flows-count : {X : Type 0} (key : WorkKey) (f : X → Value) (count : X → ℕ) (xs : List ((x : X) × (shows key (f x) ≡ true → 1 ≤ count x)))
    → all_show key (map f (map (λ x. x.0) xs)) ≡ true → 1 ≤ total (map count (map (λ x. x.0) xs))
flows-count key f count [] h = cc
flows-count key f count (x ∷ xs) h =
    elim (one-shows key (f x.0) _ h) [
      | inl here ↦ let one = x.1 here in omega (arith, one)
      | inr later ↦ let more = flows-count key f count xs later in omega (arith, more)
    ]

failed-hides : (key : WorkKey) (v : Value) → ended_as StatusFailed v ≡ true → shows key v ≡ false
failed-hides key (Open ready busy) h = cc
failed-hides key (Done exit) h = refl
failed-hides key (Ended status exit point) h = refl

stopped-hides : (key : WorkKey) (v : Value) → ended_as StatusStopped v ≡ true → shows key v ≡ false
stopped-hides key (Open ready busy) h = cc
stopped-hides key (Done exit) h = refl
stopped-hides key (Ended status exit point) h = refl

completed-hides : (key : WorkKey) (v : Value) → ended_as StatusCompleted v ≡ true → shows key v ≡ false
completed-hides key (Open ready busy) h = cc
completed-hides key (Done exit) h = refl
completed-hides key (Ended status exit point) h = refl

strongest_end-hides : (key : WorkKey) (f s c : Option Value) → FoundPasses (ended_as StatusFailed) f → FoundPasses (ended_as StatusStopped) s → FoundPasses (ended_as StatusCompleted) c
    → result_shows key (strongest_end f s c) ≡ false
strongest_end-hides key (Some v) s c h1 h2 h3 = failed-hides key v h1
strongest_end-hides key None (Some v) c h1 h2 h3 = stopped-hides key v h2
strongest_end-hides key None None (Some v) h1 h2 h3 = completed-hides key v h3
strongest_end-hides key None None None h1 h2 h3 = refl

pub split-shown : (key : WorkKey) (vs : List Value) → result_shows key (split_result vs) ≡ true → all_show key vs ≡ true
split-shown key vs h =
    (elim (any_open vs) as (λ b. result_shows key (cond b (ListValue (Open (all_ready vs) (all_busy vs))) (strongest_end (find (ended_as StatusFailed) vs) (find (ended_as StatusStopped) vs) (find (ended_as StatusCompleted) vs))) ≡ true → all_show key vs ≡ true) [
      | true ↦ λ e. e
      | false ↦ λ e.
          let hides = strongest_end-hides key _ _ _ (find-passes (ended_as StatusFailed) vs) (find-passes (ended_as StatusStopped) vs) (find-passes (ended_as StatusCompleted) vs) in
          cc
    ]) h

-- ---- Elements

abbrev PartShows : WorkKey → BodyResult → Type 0
PartShows key (IsStep step) = ⊥
PartShows key IsDecision = ⊥
PartShows key (HasResult own) = result_shows key own ≡ true

abbrev BodyCounts : WorkKey → (WorkKey → Fact) → Body → Type 0
BodyCounts key facts b = PartShows key (walked_body facts b) → 1 ≤ count_in_body key.element b

abbrev ElementCounts : WorkKey → (WorkKey → Fact) → Element → Type 0
ElementCounts key facts e = result_shows key (walked_element facts e).own_result ≡ true → 1 ≤ count_in key.element e

abbrev FlowCounts : WorkKey → (WorkKey → Fact) → SplitFlow → Type 0
FlowCounts key facts f = shows key (value_of_flow facts f) ≡ true → 1 ≤ count_in_flow key.element f

body-counts : (key : WorkKey) (facts : WorkKey → Fact)
    → (y : Body-F ((b : Body) × BodyCounts key facts b) ((e : Element) × ElementCounts key facts e) ((f : SplitFlow) × FlowCounts key facts f))
    → PartShows key (body_result (map-Body Body Element SplitFlow BodyResult WalkedElement Value (walked_body facts) (walked_element facts) (value_of_flow facts) (map-Body _ _ _ Body Element SplitFlow (λ e. e.0) (λ e. e.0) (λ e. e.0) y)))
    → 1 ≤ body_count (map-Body Body Element SplitFlow ℕ ℕ ℕ (count_in_body key.element) (count_in key.element) (count_in_flow key.element) (map-Body _ _ _ Body Element SplitFlow (λ e. e.0) (λ e. e.0) (λ e. e.0) y))
body-counts key facts (Step step) h = absurd h
body-counts key facts (Decision artifact) h = absurd h
body-counts key facts (Flow es) h = list-counts key (walked_element facts) (count_in key.element) es _ _ (flow-shown key _ h)
body-counts key facts (Split fs) h = flows-count key (value_of_flow facts) (count_in_flow key.element) fs (split-shown key (map (value_of_flow facts) (map (λ (e : (f : SplitFlow) × FlowCounts key facts f). e.0) fs)) h)

part-counts : (key : WorkKey) (i : List ℕ) (facts : WorkKey → Fact) (part : BodyResult) (n : ℕ) → (PartShows key part → 1 ≤ n) → result_shows key (element_result facts i part) ≡ true
    → 1 ≤ one_if (bytes_eq i key.element) + n
part-counts key i facts (IsStep step) n h shown = let is = ap one_if (step-shown key i facts step.partitions shown) in omega (arith, is)
part-counts key i facts IsDecision n h shown = let is = ap one_if (step-shown key i facts None shown) in omega (arith, is)
part-counts key i facts (HasResult own) n h shown = let more = h shown in omega (arith, more)

-- WHAT IS SHOWN STANDS THERE: an element that shows an key holds it
pub shown-counts : (key : WorkKey) (facts : WorkKey → Fact) (e : Element) → result_shows key (walked_element facts e).own_result ≡ true → 1 ≤ count_in key.element e
shown-counts key facts =
    ind-Element (BodyCounts key facts) (ElementCounts key facts) (FlowCounts key facts)
    (λ x y is.
    rw (fold-roll-Body ℕ ℕ ℕ body_count (element_count key.element) (flow_count key.element) x)
    (rw (fold-roll-Body BodyResult WalkedElement Value body_result (element_with_result facts) flow_value x)
    (subst (λ z. PartShows key (body_result (map-Body Body Element SplitFlow BodyResult WalkedElement Value (walked_body facts) (walked_element facts) (value_of_flow facts) z))
    → 1 ≤ body_count (map-Body Body Element SplitFlow ℕ ℕ ℕ (count_in_body key.element) (count_in key.element) (count_in_flow key.element) z)) is (body-counts key facts y))))
    (λ x y is.
    rw (fold-roll-Element ℕ ℕ ℕ body_count (element_count key.element) (flow_count key.element) x)
    (rw (fold-roll-Element BodyResult WalkedElement Value body_result (element_with_result facts) flow_value x)
    (subst (λ z. result_shows key (element_with_result facts (map-Element Body Element SplitFlow BodyResult WalkedElement Value (walked_body facts) (walked_element facts) (value_of_flow facts) z)).own_result ≡ true
    → 1 ≤ element_count key.element (map-Element Body Element SplitFlow ℕ ℕ ℕ (count_in_body key.element) (count_in key.element) (count_in_flow key.element) z)) is
    (part-counts key y.id facts (walked_body facts y.body.0) (count_in_body key.element y.body.0) y.body.1))))
    (λ x y is.
    rw (fold-roll-SplitFlow ℕ ℕ ℕ body_count (element_count key.element) (flow_count key.element) x)
    (rw (fold-roll-SplitFlow BodyResult WalkedElement Value body_result (element_with_result facts) flow_value x)
    (subst (λ z. shows key (whole_value (map (walked_element facts) z.elements)) ≡ true → 1 ≤ one_if (bytes_eq z.id key.element) + total (map (count_in key.element) z.elements)) is
    (λ h. let more = list-counts key (walked_element facts) (count_in key.element) y.elements _ _ h in omega (arith, more)))))

-- of an key that stands once, no other element holds it
pub others-none : {X : Type 0} (count : X → ℕ) (xs : List X) (k : ℕ) (d : X) → k < length xs → total (map count xs) ≤ 1 → 1 ≤ count (get_or xs k d)
    → (j : ℕ) → j ≢ k → j < length xs → count (get_or xs j d) ≡ 0
others-none count [] k d lt once here j apart below = absurd (omega (arith, lt))
others-none count (x ∷ xs) zero d lt once here zero apart below = absurd (apart refl)
others-none count (x ∷ xs) zero d lt once here (suc j) apart below =
    let part = within count xs j d (omega (arith, below)) in
    omega (arith, once, here, part)
others-none count (x ∷ xs) (suc k) d lt once here zero apart below =
    let part = within count xs k d (omega (arith, lt)) in
    omega (arith, once, here, part)
others-none count (x ∷ xs) (suc k) d lt once here (suc j) apart below =
    let less : total (map count xs) ≤ 1 = omega (arith, once) in
    others-none count xs k d (omega (arith, lt)) less here j (λ same. apart (ap suc same)) (omega (arith, below))
