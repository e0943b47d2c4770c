-- What a walk shows and where it lets a restart begin: work keys of the tree, and ids that stand in it.
use Rattle.std.proofs.Common.{◌≡◌, ℕ, zero, suc, Bool, true, false, cond, ◌&&◌, ◌||◌, Option, None, Some, List, [], ◌∷◌, ◌++◌, map, find, refl, sym, ◌∙◌, ap, subst}
use Rattle.std.specs.List.{list_all, filter, cons_option}
use Rattle.std.specs.Str.{bytes_eq}
use Rattle.std.proofs.lemmas.List.Folds.{list_all-append}
use Rattle.batch_ids.specs.declared.status.BatchStatus.TheVariants.{Failed as StatusFailed, Stopped as StatusStopped, Completed as StatusCompleted}
use Rattle.batch_ids.specs.declared.status.WorkOutcome.{WorkOutcome}
use Rattle.batch_ids.specs.declared.status.WorkOutcome.TheVariants.{Completed, Failed, Stopped}
use Rattle.jsl_model.specs.declared.element.Then.{Then}
use Rattle.jsl_model.specs.declared.element.Then.TheVariants.{Next, End, Fail, Stop}
use Rattle.jsl_model.specs.declared.element.Transition.{Transition}
use Rattle.jsl_model.specs.declared.element.Element.{Element, ind-Element, map-Element, fold-roll-Element}
use Rattle.jsl_model.specs.declared.element.SplitFlow.{SplitFlow, fold-roll-SplitFlow}
use Rattle.jsl_model.specs.declared.element.Body.{Body, Body-F, map-Body, fold-roll-Body}
use Rattle.jsl_model.specs.declared.element.Body.TheOpen.{Step, Flow, Split, Decision}
use Rattle.jsl_model.specs.Trees.{joined, Node, BodyNodes, body_nodes, element_nodes, flow_nodes, nodes_of, in_body, nodes_of_flow, nodes}
use Rattle.jsl_model.specs.Faults.{restart_at, restarts_in, restarts}
use Rattle.transitions.specs.Transitions.{matches_on, matching_transition}
use Rattle.walk_rules.specs.declared.work_key.WorkKey.{WorkKey}
use Rattle.walk_rules.specs.declared.facts.Fact.{Fact}
use Rattle.walk_rules.specs.declared.facts.Fact.TheVariants.{Nothing, Carried, Busy, Over, Barred}
use Rattle.walk_rules.specs.declared.facts.Value.{Value}
use Rattle.walk_rules.specs.declared.facts.Value.TheVariants.{Open, Done, Ended}
use Rattle.walk_rules.specs.declared.element_result.ElementResult.{ElementResult}
use Rattle.walk_rules.specs.declared.element_result.ElementResult.TheVariants.{ListValue, Outcome}
use Rattle.walk_rules.specs.Walk.{WalkedElement, BodyResult, IsStep, IsDecision, HasResult, known_of, is_left, is_busy, is_barred, has_fact, keys_with, strongest_outcome, named_outcome, open_or_over, step_result, runnable_result, value_by_transition, value_after_outcome, value_by_result, value_at, follow, list_value, whole_value, flow_result, all_ready, all_busy, any_open, ended_as, strongest_end, split_result, body_result, element_result, element_with_result, flow_value, walked_element, walked_body, value_of_flow, value_of}
use Rattle.std.proofs.lemmas.Grind.{flat_map-append}
use Rattle.batch_ids.specs.Statuses.{status_name}
use Rattle.walk_rules.specs.declared.facts.Known.{Known}
use Rattle.walk_rules.specs.Keys.{key_of, keys_of_step}
use Rattle.job_plans.specs.Runnables.{keys_of, all_keys, Leaf, Inside, IsRun, Holds, body_leaves, leaves_at, element_leaves, flow_leaves, leaves, leaves_in_body, leaves_of_flow, all_leaves}
use Rattle.job_plans.proofs.Agreeing.{RunsAs, runs-step}

-- ---- Values that pass tests

-- tests of the work keys that a value shows, and of its restart point
pub record Tests : Type 0 where
  pub shown : WorkKey → Bool
  pub point : List ℕ → Bool

-- what is there passes
abbrev pub IfThere : (List ℕ → Bool) → Option (List ℕ) → Type 0
IfThere test None = Unit {0}
IfThere test (Some point) = test point ≡ true

-- what is ready and what is busy passes, and so does the restart point, if there is one
abbrev pub Passes : Tests → Value → Type 0
Passes tests (Open ready busy) = (list_all tests.shown ready ≡ true) × (list_all tests.shown busy ≡ true)
Passes tests (Done exit) = Unit {0}
Passes tests (Ended status exit point) = IfThere tests.point point

-- the same of what an element comes to by itself
abbrev pub ResultPasses : Tests → ElementResult → Type 0
ResultPasses tests (ListValue value) = Passes tests value
ResultPasses tests (Outcome outcome exit) = Unit {0}

-- what an element comes to by itself passes, and so do the restart points of its transition elements
record RowPasses (tests : Tests) (row : WalkedElement) : Type 0 where
  transitions : list_all tests.point (restarts_in row.transitions) ≡ true
  own_result : ResultPasses tests row.own_result

abbrev RowsPass : Tests → List WalkedElement → Type 0
RowsPass tests [] = Unit {0}
RowsPass tests (row ∷ rows) = RowPasses tests row × RowsPass tests rows

abbrev ValuesPass : Tests → List Value → Type 0
ValuesPass tests [] = Unit {0}
ValuesPass tests (value ∷ values) = Passes tests value × ValuesPass tests values

pub both-true : (a b : Bool) → (a && b) ≡ true → (a ≡ true) × (b ≡ true)
both-true true b h = (refl, h)
both-true false b h = cc

-- ---- Lists

first-passes : (test : List ℕ → Bool) (point : Option (List ℕ)) (rest : List (List ℕ)) → list_all test (cons_option point rest) ≡ true
    → IfThere test point × (list_all test rest ≡ true)
first-passes test None rest h = (tt, h)
first-passes test (Some point) rest h = both-true (test point) (list_all test rest) h

-- the restart point of a transition element that may not be there passes
abbrev FoundPasses : (List ℕ → Bool) → Option Transition → Type 0
FoundPasses test None = Unit {0}
FoundPasses test (Some transition) = IfThere test (restart_at transition.then)

found-passes : (test : List ℕ → Bool) (p : Transition → Bool) (transitions : List Transition) → list_all test (restarts_in transitions) ≡ true
    → FoundPasses test (find p transitions)
found-passes test p [] h = tt
found-passes test p (t ∷ ts) h =
    let parts = first-passes test (restart_at t.then) (restarts_in ts) h in
    elim (p t) as (λ b. FoundPasses test (cond b (Some t) (find p ts))) [
      | true ↦ parts.0
      | false ↦ found-passes test p ts parts.1
    ]

taken-passes : (tests : Tests) (on : List ℕ → Value) → ((to : List ℕ) → Passes tests (on to)) → (then : Then) → IfThere tests.point (restart_at then)
    → Passes tests (value_by_transition on then)
taken-passes tests on h (Next to) p = h to
taken-passes tests on h (End exit) p = tt
taken-passes tests on h (Fail exit) p = tt
taken-passes tests on h (Stop exit point) p = p

after-passes : (tests : Tests) (on : List ℕ → Value) → ((to : List ℕ) → Passes tests (on to))
    → (next : Option (List ℕ)) (transition : Option Transition) → FoundPasses tests.point transition → (outcome : WorkOutcome) (exit : List ℕ)
    → Passes tests (value_after_outcome on next transition outcome exit)
after-passes tests on h next None p Stopped exit = tt
after-passes tests on h next (Some transition) p Stopped exit = tt
after-passes tests on h next (Some transition) p Completed exit = taken-passes tests on h transition.then p
after-passes tests on h next (Some transition) p Failed exit = taken-passes tests on h transition.then p
after-passes tests on h next None p Failed exit = tt
after-passes tests on h (Some to) None p Completed exit = h to
after-passes tests on h None None p Completed exit = tt

result-passes : (tests : Tests) (on : List ℕ → Value) → ((to : List ℕ) → Passes tests (on to)) → (row : WalkedElement)
    → list_all tests.point (restarts_in row.transitions) ≡ true → (own_result : ElementResult) → ResultPasses tests own_result
    → Passes tests (value_by_result on row own_result)
result-passes tests on h row p (ListValue value) q = q
result-passes tests on h row p (Outcome outcome exit) q =
    after-passes tests on h row.next (matching_transition row.transitions exit) (found-passes tests.point (matches_on exit) row.transitions p) outcome exit

at-passes : (tests : Tests) (on : List ℕ → Value) → ((to : List ℕ) → Passes tests (on to)) → (p : WalkedElement → Bool) (rows : List WalkedElement)
    → RowsPass tests rows → Passes tests (value_at on (find p rows))
at-passes tests on h p [] pass = tt
at-passes tests on h p (row ∷ rows) pass =
    elim (p row) as (λ b. Passes tests (value_at on (cond b (Some row) (find p rows)))) [
      | true ↦ result-passes tests on h row pass.0.transitions row.own_result pass.0.own_result
      | false ↦ at-passes tests on h p rows pass.1
    ]

follow-passes : (tests : Tests) (rows : List WalkedElement) → RowsPass tests rows → (n : ℕ) (from : List ℕ) → Passes tests (follow n rows from)
follow-passes tests rows pass zero from = tt
follow-passes tests rows pass (suc n) from =
    at-passes tests (follow n rows) (λ to. follow-passes tests rows pass n to) (λ row. bytes_eq row.id from) rows pass

list-passes : (tests : Tests) (rows : List WalkedElement) → RowsPass tests rows → (from : List ℕ) → Passes tests (list_value rows from)
list-passes tests rows pass from = follow-passes tests rows pass _ from

-- ---- Flows and splits

flow-passes : (tests : Tests) (value : Value) → Passes tests value → ResultPasses tests (flow_result value)
flow-passes tests (Open ready busy) h = h
flow-passes tests (Done exit) h = tt
flow-passes tests (Ended status exit point) h = h

abbrev EndPasses : Tests → Option Value → Type 0
EndPasses tests None = Unit {0}
EndPasses tests (Some value) = Passes tests value

end-passes : (tests : Tests) (p : Value → Bool) (values : List Value) → ValuesPass tests values → EndPasses tests (find p values)
end-passes tests p [] h = tt
end-passes tests p (v ∷ rest) h =
    elim (p v) as (λ b. EndPasses tests (cond b (Some v) (find p rest))) [
      | true ↦ h.0
      | false ↦ end-passes tests p rest h.1
    ]

strongest-passes : (tests : Tests) (failed stopped completed : Option Value) → EndPasses tests failed → EndPasses tests stopped → EndPasses tests completed
    → ResultPasses tests (strongest_end failed stopped completed)
strongest-passes tests (Some v) stopped completed h1 h2 h3 = h1
strongest-passes tests None (Some v) completed h1 h2 h3 = h2
strongest-passes tests None None (Some v) h1 h2 h3 = h3
strongest-passes tests None None None h1 h2 h3 = tt

abbrev split_ended : List Value → ElementResult
split_ended flows = strongest_end (find (ended_as StatusFailed) flows) (find (ended_as StatusStopped) flows) (find (ended_as StatusCompleted) flows)

both-pass : (test : WorkKey → Bool) (xs ys : List WorkKey) → list_all test xs ≡ true → list_all test ys ≡ true → list_all test (xs ++ ys) ≡ true
both-pass test xs ys h k = list_all-append test xs ys ∙ (ap (λ b. b && list_all test ys) h ∙ k)

all-shown : (tests : Tests) (flows : List Value) → ValuesPass tests flows → (list_all tests.shown (all_ready flows) ≡ true) × (list_all tests.shown (all_busy flows) ≡ true)
all-shown tests [] h = (refl, refl)
all-shown tests (Open ready busy ∷ rest) h =
    let others = all-shown tests rest h.1 in
    (both-pass tests.shown ready (all_ready rest) h.0.0 others.0, both-pass tests.shown busy (all_busy rest) h.0.1 others.1)
all-shown tests (Done exit ∷ rest) h = all-shown tests rest h.1
all-shown tests (Ended status exit point ∷ rest) h = all-shown tests rest h.1

split-passes : (tests : Tests) (flows : List Value) → ValuesPass tests flows → ResultPasses tests (split_result flows)
split-passes tests flows h =
    elim (any_open flows) as (λ b. ResultPasses tests (cond b (ListValue (Open (all_ready flows) (all_busy flows))) (split_ended flows))) [
      | true ↦ all-shown tests flows h
      | false ↦ strongest-passes tests _ _ _ (end-passes tests (ended_as StatusFailed) flows h) (end-passes tests (ended_as StatusStopped) flows h) (end-passes tests (ended_as StatusCompleted) flows h)
    ]

-- ---- What is written in a tree

-- the restart points that are written in these pass
abbrev pub PointsPass : (List ℕ → Bool) → List Node → Type 0
PointsPass test all = list_all test (restarts all) ≡ true

-- the work keys of these steps and decisions pass
abbrev pub LeavesPass : (WorkKey → Bool) → List Leaf → Type 0
LeavesPass test all = list_all test (all_keys all) ≡ true

and-assoc : (a b c : Bool) → (a && (b && c)) ≡ ((a && b) && c)
and-assoc true b c = refl
and-assoc false b c = refl

restarts-append : (test : List ℕ → Bool) (xs ys : List Node) → list_all test (restarts (xs ++ ys)) ≡ (list_all test (restarts xs) && list_all test (restarts ys))
restarts-append test [] ys = refl
restarts-append test (x ∷ xs) ys =
    list_all-append test (restarts_in x.transitions) (restarts (xs ++ ys))
    ∙ (ap (λ b. list_all test (restarts_in x.transitions) && b) (restarts-append test xs ys)
    ∙ (and-assoc (list_all test (restarts_in x.transitions)) (list_all test (restarts xs)) (list_all test (restarts ys))
    ∙ ap (λ b. b && list_all test (restarts ys)) (sym (list_all-append test (restarts_in x.transitions) (restarts xs)))))

points-append : (test : List ℕ → Bool) (xs ys : List Node) → PointsPass test (xs ++ ys) → PointsPass test xs × PointsPass test ys
points-append test xs ys h = both-true (list_all test (restarts xs)) (list_all test (restarts ys)) (sym (restarts-append test xs ys) ∙ h)

leaves-append : (test : WorkKey → Bool) (xs ys : List Leaf) → LeavesPass test (xs ++ ys) → LeavesPass test xs × LeavesPass test ys
leaves-append test xs ys h =
    both-true (list_all test (all_keys xs)) (list_all test (all_keys ys))
    (sym (list_all-append test (all_keys xs) (all_keys ys)) ∙ (ap (list_all test) (sym (flat_map-append keys_of xs ys)) ∙ h))

-- ---- Elements

-- what a body comes to: a step or a decision shows work keys of its own alone, and what holds others shows theirs
abbrev PartPasses : Tests → Inside → BodyResult → Type 0
PartPasses tests (IsRun runs partitions) part = RunsAs partitions part
PartPasses tests (Holds inside) (IsStep step) = ⊥
PartPasses tests (Holds inside) IsDecision = ⊥
PartPasses tests (Holds inside) (HasResult own_result) = LeavesPass tests.shown inside → ResultPasses tests own_result

abbrev BodyPasses : Tests → (WorkKey → Fact) → Body → Type 0
BodyPasses tests facts b = PointsPass tests.point (in_body b).nodes → PartPasses tests (leaves_in_body b) (walked_body facts b)

abbrev ElementPasses : Tests → (WorkKey → Fact) → Element → Type 0
ElementPasses tests facts e = PointsPass tests.point (nodes_of e) → LeavesPass tests.shown (leaves e) → RowPasses tests (walked_element facts e)

abbrev FlowPasses : Tests → (WorkKey → Fact) → SplitFlow → Type 0
FlowPasses tests facts f = PointsPass tests.point (nodes_of_flow f) → LeavesPass tests.shown (leaves_of_flow f) → Passes tests (value_of_flow facts f)

abbrev Passing : Tests → (WorkKey → Fact) → Type 0
Passing tests facts = (e : Element) × ElementPasses tests facts e

abbrev PassingFlow : Tests → (WorkKey → Fact) → Type 0
PassingFlow tests facts = (f : SplitFlow) × FlowPasses tests facts f

rows-pass : (tests : Tests) (facts : WorkKey → Fact) (es : List (Passing tests facts))
    → PointsPass tests.point (joined (map nodes_of (map (λ (e : Passing tests facts). e.0) es))) → LeavesPass tests.shown (joined (map leaves (map (λ (e : Passing tests facts). e.0) es)))
    → RowsPass tests (map (walked_element facts) (map (λ (e : Passing tests facts). e.0) es))
rows-pass tests facts [] h k = tt
rows-pass tests facts (e ∷ es) h k =
    let points = points-append tests.point (nodes_of e.0) (joined (map nodes_of (map (λ (e : Passing tests facts). e.0) es))) h in
    let shown = leaves-append tests.shown (leaves e.0) (joined (map leaves (map (λ (e : Passing tests facts). e.0) es))) k in
    (e.1 points.0 shown.0, rows-pass tests facts es points.1 shown.1)

values-pass : (tests : Tests) (facts : WorkKey → Fact) (fs : List (PassingFlow tests facts))
    → PointsPass tests.point (joined (map nodes_of_flow (map (λ (f : PassingFlow tests facts). f.0) fs))) → LeavesPass tests.shown (joined (map leaves_of_flow (map (λ (f : PassingFlow tests facts). f.0) fs)))
    → ValuesPass tests (map (value_of_flow facts) (map (λ (f : PassingFlow tests facts). f.0) fs))
values-pass tests facts [] h k = tt
values-pass tests facts (f ∷ fs) h k =
    let points = points-append tests.point (nodes_of_flow f.0) (joined (map nodes_of_flow (map (λ (f : PassingFlow tests facts). f.0) fs))) h in
    let shown = leaves-append tests.shown (leaves_of_flow f.0) (joined (map leaves_of_flow (map (λ (f : PassingFlow tests facts). f.0) fs))) k in
    (f.1 points.0 shown.0, values-pass tests facts fs points.1 shown.1)

abbrev nodes_at : Body-F Body Element SplitFlow → BodyNodes
nodes_at x = body_nodes (map-Body Body Element SplitFlow BodyNodes (List Node) (List Node) in_body nodes_of nodes_of_flow x)

abbrev inside_at : Body-F Body Element SplitFlow → Inside
inside_at x = body_leaves (map-Body Body Element SplitFlow Inside (List Leaf) (List Leaf) leaves_in_body leaves leaves_of_flow x)

abbrev part_at : (WorkKey → Fact) → Body-F Body Element SplitFlow → BodyResult
part_at facts x = body_result (map-Body Body Element SplitFlow BodyResult WalkedElement Value (walked_body facts) (walked_element facts) (value_of_flow facts) x)

body-passes : (tests : Tests) (facts : WorkKey → Fact) (y : Body-F ((b : Body) × BodyPasses tests facts b) (Passing tests facts) (PassingFlow tests facts))
    → PointsPass tests.point (nodes_at (map-Body _ _ _ Body Element SplitFlow (λ e. e.0) (λ e. e.0) (λ e. e.0) y)).nodes
    → PartPasses tests (inside_at (map-Body _ _ _ Body Element SplitFlow (λ e. e.0) (λ e. e.0) (λ e. e.0) y))
    (part_at facts (map-Body _ _ _ Body Element SplitFlow (λ e. e.0) (λ e. e.0) (λ e. e.0) y))
body-passes tests facts (Step step) h = refl
body-passes tests facts (Decision artifact) h = refl
body-passes tests facts (Flow es) h =
    λ k. flow-passes tests _ (list-passes tests (map (walked_element facts) (map (λ (e : Passing tests facts). e.0) es)) (rows-pass tests facts es h k) _)
body-passes tests facts (Split fs) h = λ k. split-passes tests _ (values-pass tests facts fs h k)

runnable-passes : (tests : Tests) (id : WorkKey) (fact : Fact) → list_all tests.shown (id ∷ []) ≡ true → ResultPasses tests (runnable_result id fact)
runnable-passes tests id (Carried exit) h = tt
runnable-passes tests id Busy h = (refl, h)
runnable-passes tests id (Over outcome exit) h = tt
runnable-passes tests id Barred h = tt
runnable-passes tests id Nothing h = (h, refl)

with-passes : (test : WorkKey → Bool) (wanted : Fact → Bool) (facts : WorkKey → Fact) (keys : List WorkKey) → list_all test keys ≡ true
    → list_all test (keys_with wanted (known_of facts keys)) ≡ true
with-passes test wanted facts [] h = refl
with-passes test wanted facts (key ∷ keys) h =
    let parts = both-true (test key) (list_all test keys) h in
    let one : Known = record { key = key; fact = facts key } in
    let rest = with-passes test wanted facts keys parts.1 in
    elim (wanted (facts key)) as (λ b. list_all test (map (λ (k : Known). k.key) (cond b (one ∷ filter (λ (k : Known). wanted k.fact) (known_of facts keys))
    (filter (λ (k : Known). wanted k.fact) (known_of facts keys)))) ≡ true) [
      | true ↦ rw parts.0 rest
      | false ↦ rest
    ]

open-passes : (tests : Tests) (facts : WorkKey → Fact) (keys : List WorkKey) → list_all tests.shown keys ≡ true → ResultPasses tests (open_or_over (known_of facts keys))
open-passes tests facts keys h =
    let known : List Known = known_of facts keys in
    elim (has_fact is_left known || has_fact is_busy known) as
    (λ b. ResultPasses tests (cond b (ListValue (Open (keys_with is_left known) (keys_with is_busy known))) (named_outcome (strongest_outcome known)))) [
      | true ↦ (with-passes tests.shown is_left facts keys h, with-passes tests.shown is_busy facts keys h)
      | false ↦ tt
    ]

pub step-passes : (tests : Tests) (facts : WorkKey → Fact) (id : List ℕ) (partitions : Option ℕ) → list_all tests.shown (keys_of_step id partitions) ≡ true
    → ResultPasses tests (step_result facts id partitions)
step-passes tests facts id None h = runnable-passes tests (key_of id 0) (facts (key_of id 0)) h
step-passes tests facts id (Some count) h =
    let known : List Known = known_of facts (keys_of_step id (Some count)) in
    elim (has_fact is_barred known) as
    (λ b. ResultPasses tests (cond b (ListValue (Ended StatusFailed (status_name StatusFailed) None)) (open_or_over known))) [
      | true ↦ tt
      | false ↦ open-passes tests facts (keys_of_step id (Some count)) h
    ]

part-passes : (tests : Tests) (facts : WorkKey → Fact) (id : List ℕ) (inside : Inside) (part : BodyResult) → PartPasses tests inside part → LeavesPass tests.shown (leaves_at id inside)
    → ResultPasses tests (element_result facts id part)
part-passes tests facts id (IsRun runs partitions) part p h =
    subst (ResultPasses tests) (sym (runs-step facts id partitions part p))
    (step-passes tests facts id partitions
    (both-true (list_all tests.shown (keys_of_step id partitions)) true (sym (list_all-append tests.shown (keys_of_step id partitions) []) ∙ h)).0)
part-passes tests facts id (Holds inside) (IsStep step) p h = absurd p
part-passes tests facts id (Holds inside) IsDecision p h = absurd p
part-passes tests facts id (Holds inside) (HasResult own_result) p h = p h

element-passes : (tests : Tests) (facts : WorkKey → Fact) (e : Element) → ElementPasses tests facts e
element-passes tests facts =
    ind-Element (BodyPasses tests facts) (ElementPasses tests facts) (FlowPasses tests facts)
    (λ x y is.
    rw (fold-roll-Body BodyResult WalkedElement Value body_result (element_with_result facts) flow_value x)
    (rw (fold-roll-Body BodyNodes (List Node) (List Node) body_nodes element_nodes flow_nodes x)
    (rw (fold-roll-Body Inside (List Leaf) (List Leaf) body_leaves element_leaves flow_leaves x)
    (subst (λ z. PointsPass tests.point (nodes_at z).nodes → PartPasses tests (inside_at z) (part_at facts z)) is (body-passes tests facts y)))))
    (λ x y is.
    rw (fold-roll-Element BodyResult WalkedElement Value body_result (element_with_result facts) flow_value x)
    (rw (fold-roll-Element BodyNodes (List Node) (List Node) body_nodes element_nodes flow_nodes x)
    (rw (fold-roll-Element Inside (List Leaf) (List Leaf) body_leaves element_leaves flow_leaves x)
    (subst (λ z. PointsPass tests.point (element_nodes (map-Element Body Element SplitFlow BodyNodes (List Node) (List Node) in_body nodes_of nodes_of_flow z))
    → LeavesPass tests.shown (element_leaves (map-Element Body Element SplitFlow Inside (List Leaf) (List Leaf) leaves_in_body leaves leaves_of_flow z))
    → RowPasses tests (element_with_result facts (map-Element Body Element SplitFlow BodyResult WalkedElement Value (walked_body facts) (walked_element facts) (value_of_flow facts) z))) is
    (λ h k.
    let parts = both-true (list_all tests.point (restarts_in y.transitions)) (list_all tests.point (restarts (in_body y.body.0).nodes)) (sym (list_all-append tests.point (restarts_in y.transitions) (restarts (in_body y.body.0).nodes)) ∙ h) in
    record { transitions = parts.0; own_result = part-passes tests facts y.id (leaves_in_body y.body.0) (walked_body facts y.body.0) (y.body.1 parts.1) k })))))
    (λ x y is.
    rw (fold-roll-SplitFlow BodyResult WalkedElement Value body_result (element_with_result facts) flow_value x)
    (rw (fold-roll-SplitFlow BodyNodes (List Node) (List Node) body_nodes element_nodes flow_nodes x)
    (rw (fold-roll-SplitFlow Inside (List Leaf) (List Leaf) body_leaves element_leaves flow_leaves x)
    (subst (λ z. PointsPass tests.point (joined (map nodes_of z.elements)) → LeavesPass tests.shown (joined (map leaves z.elements)) → Passes tests (whole_value (map (walked_element facts) z.elements))) is
    (λ h k. list-passes tests (map (walked_element facts) (map (λ (e : Passing tests facts). e.0) y.elements)) (rows-pass tests facts y.elements h k) _)))))

elements-pass : (tests : Tests) (facts : WorkKey → Fact) (es : List Element) → PointsPass tests.point (nodes es) → LeavesPass tests.shown (all_leaves es) → RowsPass tests (map (walked_element facts) es)
elements-pass tests facts [] h k = tt
elements-pass tests facts (e ∷ es) h k =
    let points = points-append tests.point (nodes_of e) (nodes es) h in
    let shown = leaves-append tests.shown (leaves e) (all_leaves es) k in
    (element-passes tests facts e points.0 shown.0, elements-pass tests facts es points.1 shown.1)

-- where all restart points that are written in a tree, and the work keys of its steps and decisions, pass tests, so do those of its walk
pub walk-passes : (tests : Tests) (facts : WorkKey → Fact) (elements : List Element) (from : List ℕ) → PointsPass tests.point (nodes elements) → LeavesPass tests.shown (all_leaves elements)
    → Passes tests (value_of facts elements from)
walk-passes tests facts elements from h k = list-passes tests (map (walked_element facts) elements) (elements-pass tests facts elements h k) from

-- all pass this test
pub all-true : {X : Type 0} (xs : List X) → list_all (λ x. true) xs ≡ true
all-true [] = refl
all-true (x ∷ xs) = all-true xs
