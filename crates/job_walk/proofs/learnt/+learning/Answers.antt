use Rattle.std.proofs.Common.{true, ◌≡◌, ◌+◌, ◌++◌, ◌∷◌, [], length, map, get_or, set, drop, refl, sym, ◌∙◌, ap, subst, arith, Result, Ok, Err, IfOk, OnOk}
use Rattle.jsl_model.specs.declared.element.SplitFlow.{SplitFlow, out-SplitFlow}
use Rattle.jsl_model.specs.declared.element.Body.TheVariants.{Flow, Split}
use Rattle.job_walk.specs.declared.kept_list.ListChange.{ListChange}
use Rattle.walk_rules.specs.declared.progress.Progress.{Progress}
use Rattle.walk_rules.specs.Standing.{progress, rows_by}
use Rattle.job_walk.specs.KeptLists.{facts_after, first_shows, kept_element, kept_flow, Puts, rows_in, lists_in, tree_first, value_kept, KeepsFirst}
use Rattle.walk_rules.specs.Shown.{shows}
use Rattle.job_walk.proofs.KeptAtFirst.{kept-step, kept-decision, kept-split, whole-parts}
use Rattle.walk_rules.specs.Walk.{fact_of, first_id, flow_result, split_result}
use Rattle.jsl_model.specs.Trees.{joined}
use Rattle.job_walk.proofs.Descent.{at-nowhere, way, entered, became, learnt-apart, drop-length}
use Rattle.job_walk.proofs.Flows.{first-kept, flow-kept, flow-shows, flow-all, kept-flow, first-value, first-puts, flow-puts, split-once}
use Rattle.job_walk.proofs.Putting.{puts-same}
use Rattle.job_walk.proofs.SplitFlows.{split-keeps, split-shows, flow-there, at-flow, stands-alone, flows-values, flows-put}
use Rattle.walk_rules.proofs.Places.{at-once}
use Rattle.job_walk.proofs.Reporting.{states}
use Rattle.job_plans.proofs.Sizes.{nodes-at, nodes-flow, nodes-split}
use Rattle.job_walk.proofs.learnt.+learning.Goals as goal

come-ok : {E : Type 0} (result : Result Progress E) (come same : Progress) → result ≡ Ok come → IfOk result (λ made. made ≡ same) → come ≡ same
come-ok {E = E} result come same is ok = subst (λ (r : Result Progress E). IfOk r (λ made. made ≡ same)) is ok

if-ok : {A E : Type 0} {P : Type 0} → (result : Result A E) → P → OnOk result P
if-ok (Ok a) p = p
if-ok (Err e) p = tt

-- ---- A list

pub list_changes-unreachable-requires : goal.list_changes-unreachable-requires
list_changes-unreachable-requires t c =
    at-nowhere (fact_of c.args.known.now) c.args.elements.now c.args.lists.now c.args.key.now c.index-lists-0.result c.requires.kept c.requires.shown c.index-lists-0.is c.in_default.is

pub list_changes-bounds-as_slice-place : goal.list_changes-bounds-as_slice-place
list_changes-bounds-as_slice-place t c =
    let w = way (fact_of c.args.known.now) c.args.elements.now c.args.lists.now c.index-lists-0.result c.in-Some.place c.requires.kept c.index-lists-0.is c.in-Some.is in
    let l : length c.as_slice.result.now ≡ length c.index-lists-0.result.starts = ap length c.as_slice.ensures in
    let lt = w.in_starts in
    omega (arith, l, lt)

pub list_changes-overflow_add-start : goal.list_changes-overflow_add-start
list_changes-overflow_add-start t c =
    let w = way (fact_of c.args.known.now) c.args.elements.now c.args.lists.now c.index-lists-0.result c.in-Some.place c.requires.kept c.index-lists-0.is c.in-Some.is in
    let same : get_or c.as_slice.result.now c.in-Some.place 0 ≡ get_or c.index-lists-0.result.starts c.in-Some.place 0 = ap (λ xs. get_or xs c.in-Some.place 0) c.as_slice.ensures in
    let room = w.room in
    let fits = c.requires.numbered in
    omega (arith, same, room, fits)

pub list_changes-overflow_add-base : goal.list_changes-overflow_add-base
list_changes-overflow_add-base t c =
    let w = way (fact_of c.args.known.now) c.args.elements.now c.args.lists.now c.index-lists-0.result c.in-Some.place c.requires.kept c.index-lists-0.is c.in-Some.is in
    let same : get_or c.as_slice.result.now c.in-Some.place 0 ≡ get_or c.index-lists-0.result.starts c.in-Some.place 0 = ap (λ xs. get_or xs c.in-Some.place 0) c.as_slice.ensures in
    let room = w.room in
    let fits = c.requires.numbered in
    omega (arith, same, room, fits)

pub list_changes-lists_from-requires : goal.list_changes-lists_from-requires
list_changes-lists_from-requires t c =
    let w = way (fact_of c.args.known.now) c.args.elements.now c.args.lists.now c.index-lists-0.result c.in-Some.place c.requires.kept c.index-lists-0.is c.in-Some.is in
    let same : get_or c.as_slice.result.now c.in-Some.place 0 ≡ get_or c.index-lists-0.result.starts c.in-Some.place 0 = ap (λ xs. get_or xs c.in-Some.place 0) c.as_slice.ensures in
    let room = w.room in
    omega (arith, same, room)

pub list_changes-element_changes-requires : goal.list_changes-element_changes-requires
list_changes-element_changes-requires t c =
    let facts = fact_of c.args.known.now in
    let lists = c.args.lists.now in
    let k = c.in-Some.place in
    let kept = c.index-lists-0.result in
    let w = way facts c.args.elements.now lists kept k c.requires.kept c.index-lists-0.is c.in-Some.is in
    let x = entered facts c.args.elements.now lists c.args.key.now kept k c.index-elements-place.result c.requires.kept c.requires.shown (c.requires.once c.args.key.now.element) c.index-lists-0.is c.in-Some.is c.index-elements-place.is in
    let same : get_or c.as_slice.result.now k 0 ≡ get_or kept.starts k 0 = ap (λ xs. get_or xs k 0) c.as_slice.ensures in
    let room = w.room in
    let fits = c.requires.numbered in
    let n = drop-length lists (get_or kept.starts k 0 + 1) room in
    let here : c.lists_from.result.now ≡ drop (get_or kept.starts k 0 + 1) lists = c.lists_from.ensures ∙ ap (λ m. drop (m + 1) lists) same in
    let l : length c.lists_from.result.now ≡ length (drop (get_or kept.starts k 0 + 1) lists) = ap length here in
    let less = nodes-at c.args.elements.now k c.index-elements-place.result w.within c.index-elements-place.is in
    (omega (arith, less), ((x.inside.0, here ∙ x.inside.1), (x.shown, (c.requires.known, (c.requires.each, (at-once c.args.elements.now k c.index-elements-place.result c.requires.once w.within c.index-elements-place.is, omega (arith, same, n, l, fits)))))))

pub list_changes-walk_on-come-requires-clause-place : goal.list_changes-walk_on-come-requires-clause-place
list_changes-walk_on-come-requires-clause-place t c =
    let x = entered (fact_of c.args.known.now) c.args.elements.now c.args.lists.now c.args.key.now c.index-lists-0.result c.in-Some.place c.index-elements-place.result c.requires.kept c.requires.shown (c.requires.once c.args.key.now.element) c.index-lists-0.is c.in-Some.is c.index-elements-place.is in
    x.place

pub list_changes-returns-in_ok-add_change-in-Ok-clause-value : goal.list_changes-returns-in_ok-add_change-in-Ok-clause-value
list_changes-returns-in_ok-add_change-in-Ok-clause-value t c from rest is =
    let k = c.in-Some.place in
    let kept = c.index-lists-0.result in
    let same : get_or c.as_slice.result.now k 0 ≡ get_or kept.starts k 0 = ap (λ xs. get_or xs k 0) c.as_slice.ensures in
    (became c.args.key.now (fact_of c.args.known.now) (facts_after c.args.known.now c.args.key.now c.args.fact.now) (learnt-apart c.args.known.now c.args.key.now c.args.fact.now)
    c.args.elements.now c.args.lists.now kept k c.index-elements-place.result c.requires.shown (c.requires.once c.args.key.now.element) c.index-lists-0.is c.in-Some.is c.index-elements-place.is
    c.as_slice-2.result.now c.as_slice-2.ensures c.in_ok-result.result c.in_ok-result.ensures.comes c.in-Ok.progress
    (come-ok c.walk_on-come.result c.in-Ok.progress (progress kept.progress.left (rows_by c.args.elements.now (set c.as_slice-2.result.now k c.in_ok-result.result)) c.index-elements-place.result.id) c.in-Ok.is c.walk_on-come.ensures)
    c.args.changes.now.items c.element_changes.new.changes.items c.add_change.new.changes.items c.args.base (get_or c.as_slice.result.now k 0) same c.in_ok-result.ensures.changes
    (c.in_ok-add_change-in-Ok.ensures.changes ∙ ap (λ (x : ListChange). c.element_changes.new.changes.items ++ x ∷ []) c.new-change.ensures)
    c.in_ok-add_change-in-Ok.field-0 (c.in_ok-add_change-in-Ok.ensures.value ∙ ap (λ (x : ListChange). x.progress.value) c.new-change.ensures) from rest is).0

pub list_changes-returns-in_ok-add_change-in-Ok-clause-changes : goal.list_changes-returns-in_ok-add_change-in-Ok-clause-changes
list_changes-returns-in_ok-add_change-in-Ok-clause-changes t c from rest is =
    let k = c.in-Some.place in
    let kept = c.index-lists-0.result in
    let same : get_or c.as_slice.result.now k 0 ≡ get_or kept.starts k 0 = ap (λ xs. get_or xs k 0) c.as_slice.ensures in
    (became c.args.key.now (fact_of c.args.known.now) (facts_after c.args.known.now c.args.key.now c.args.fact.now) (learnt-apart c.args.known.now c.args.key.now c.args.fact.now)
    c.args.elements.now c.args.lists.now kept k c.index-elements-place.result c.requires.shown (c.requires.once c.args.key.now.element) c.index-lists-0.is c.in-Some.is c.index-elements-place.is
    c.as_slice-2.result.now c.as_slice-2.ensures c.in_ok-result.result c.in_ok-result.ensures.comes c.in-Ok.progress
    (come-ok c.walk_on-come.result c.in-Ok.progress (progress kept.progress.left (rows_by c.args.elements.now (set c.as_slice-2.result.now k c.in_ok-result.result)) c.index-elements-place.result.id) c.in-Ok.is c.walk_on-come.ensures)
    c.args.changes.now.items c.element_changes.new.changes.items c.add_change.new.changes.items c.args.base (get_or c.as_slice.result.now k 0) same c.in_ok-result.ensures.changes
    (c.in_ok-add_change-in-Ok.ensures.changes ∙ ap (λ (x : ListChange). c.element_changes.new.changes.items ++ x ∷ []) c.new-change.ensures)
    c.in_ok-add_change-in-Ok.field-0 (c.in_ok-add_change-in-Ok.ensures.value ∙ ap (λ (x : ListChange). x.progress.value) c.new-change.ensures) from rest is).1

-- ---- A flow

pub element_changes-list_changes-requires : goal.element_changes-list_changes-requires
element_changes-list_changes-requires t c =
    let facts = fact_of c.args.known.now in
    let e = c.args.element.now in
    let es = c.as_slice-elements.result.now in
    let is = c.in-Flow.is ∙ ap Flow (sym c.as_slice-elements.ensures) in
    let kept : KeepsFirst facts es c.args.lists.now = flow-kept facts e es c.args.lists.now is c.requires.kept in
    let shows_it = flow-shows facts e es c.args.key.now c.args.lists.now is c.requires.kept c.requires.shown in
    let less = nodes-flow e es es is refl in
    (omega (arith, less), (first-kept facts es c.args.lists.now kept, (shows_it, (c.requires.known, (c.requires.each, (flow-all e es is c.requires.once, c.requires.numbered))))))

pub element_changes-returns-in_ok-value-in-Flow-clause-comes : goal.element_changes-returns-in_ok-value-in-Flow-clause-comes
element_changes-returns-in_ok-value-in-Flow-clause-comes t c =
    let facts = fact_of c.args.known.now in
    let later = facts_after c.args.known.now c.args.key.now c.args.fact.now in
    let e = c.args.element.now in
    let es = c.as_slice-elements.result.now in
    let is = c.in-Flow.is ∙ ap Flow (sym c.as_slice-elements.ensures) in
    let kept : KeepsFirst facts es c.args.lists.now = flow-kept facts e es c.args.lists.now is c.requires.kept in
    c.flow_result.ensures
    ∙ (ap flow_result (first-value facts later es c.in_ok-value-in-Flow.value (c.in_ok-value-in-Flow.ensures.value (first_id (rows_in (states facts es))) kept.0 kept.1))
    ∙ sym (kept-flow later e es is).0)

pub element_changes-returns-in_ok-value-in-Flow-clause-changes : goal.element_changes-returns-in_ok-value-in-Flow-clause-changes
element_changes-returns-in_ok-value-in-Flow-clause-changes t c =
    let facts = fact_of c.args.known.now in
    let later = facts_after c.args.known.now c.args.key.now c.args.fact.now in
    let e = c.args.element.now in
    let es = c.as_slice-elements.result.now in
    let is = c.in-Flow.is ∙ ap Flow (sym c.as_slice-elements.ensures) in
    let kept : KeepsFirst facts es c.args.lists.now = flow-kept facts e es c.args.lists.now is c.requires.kept in
    flow-puts facts later e es es c.args.changes.now.items c.list_changes.new.changes.items c.args.base is refl
    (first-puts facts later es c.args.changes.now.items c.list_changes.new.changes.items c.args.base (c.in_ok-value-in-Flow.ensures.changes (first_id (rows_in (states facts es))) kept.0 kept.1))

-- ---- A split

pub split_changes-place_that_shows-place-requires : goal.split_changes-place_that_shows-place-requires
split_changes-place_that_shows-place-requires t c =
    split-shows (fact_of c.args.known.now) c.args.element.now c.args.flows.now c.args.lists.now c.args.key.now c.requires.split c.requires.kept c.requires.shown

pub split_changes-lists_before-start-requires-clause-kept : goal.split_changes-lists_before-start-requires-clause-kept
split_changes-lists_before-start-requires-clause-kept t c =
    (fact_of c.args.known.now, split-keeps (fact_of c.args.known.now) c.args.element.now c.args.flows.now c.args.lists.now c.requires.split c.requires.kept)

pub split_changes-overflow_add-here : goal.split_changes-overflow_add-here
split_changes-overflow_add-here t c =
    let facts = fact_of c.args.known.now in
    let flows = c.args.flows.now in
    let keeps = split-keeps facts c.args.element.now flows c.args.lists.now c.requires.split c.requires.kept in
    let there = flow-there flows c.place_that_shows-place.result c.place_that_shows-place.ensures.within in
    let here = at-flow facts flows c.args.lists.now c.place_that_shows-place.result c.lists_before-start.result there.0 keeps c.place_that_shows-place.ensures.within there.1 (c.lists_before-start.ensures facts keeps) in
    let some = here.some in
    let fits = c.requires.numbered in
    omega (arith, some, fits)

pub split_changes-lists_from-rest-requires : goal.split_changes-lists_from-rest-requires
split_changes-lists_from-rest-requires t c =
    let facts = fact_of c.args.known.now in
    let flows = c.args.flows.now in
    let keeps = split-keeps facts c.args.element.now flows c.args.lists.now c.requires.split c.requires.kept in
    let there = flow-there flows c.place_that_shows-place.result c.place_that_shows-place.ensures.within in
    let here = at-flow facts flows c.args.lists.now c.place_that_shows-place.result c.lists_before-start.result there.0 keeps c.place_that_shows-place.ensures.within there.1 (c.lists_before-start.ensures facts keeps) in
    let some = here.some in
    omega (arith, some)

pub split_changes-list_changes-requires : goal.split_changes-list_changes-requires
split_changes-list_changes-requires t c =
    let facts = fact_of c.args.known.now in
    let e = c.args.element.now in
    let flows = c.args.flows.now in
    let lists = c.args.lists.now in
    let i = c.place_that_shows-place.result in
    let within = c.place_that_shows-place.ensures.within in
    let f = c.index-flows-place.result in
    let at = c.index-flows-place.is in
    let es = c.as_slice-elements.result.now in
    let these : es ≡ (out-SplitFlow f).elements = c.as_slice-elements.ensures ∙ ap (λ (g : SplitFlow). (out-SplitFlow g).elements) (sym at) in
    let start = c.lists_before-start.result in
    let keeps = split-keeps facts e flows lists c.requires.split c.requires.kept in
    let here = at-flow facts flows lists i start f keeps within at (c.lists_before-start.ensures facts keeps) in
    let some = here.some in
    let kept : KeepsFirst facts es c.lists_from-rest.result.now =
    (here.first.0, c.lists_from-rest.ensures ∙ (here.first.1 ∙ ap (λ xs. lists_in (tree_first (states facts xs)) ++ here.first.0) (sym these))) in
    let shown : first_shows c.args.key.now c.lists_from-rest.result.now ≡ true =
    ap (first_shows c.args.key.now) (c.lists_from-rest.ensures ∙ here.first.1) ∙ (ap (λ w. shows c.args.key.now (value_kept w)) (sym (whole-parts facts f)) ∙ c.place_that_shows-place.ensures.shows facts keeps f at) in
    let n = drop-length lists start (omega (arith, some)) in
    let l : length c.lists_from-rest.result.now ≡ length (drop start lists) = ap length c.lists_from-rest.ensures in
    let fits = c.requires.numbered in
    let less = nodes-split e flows flows i f es c.requires.split refl within at these in (
      omega (arith, less),
      (
        first-kept facts es c.lists_from-rest.result.now kept,
        (shown, (c.requires.known, (c.requires.each, ((λ id. split-once e flows id i f es c.requires.split (c.requires.once id) within at these), omega (arith, n, l, fits))))),
      ),
    )

pub split_changes-split_after-result-requires : goal.split_changes-split_after-result-requires
split_changes-split_after-result-requires t c =
    (fact_of c.args.known.now, split-keeps (fact_of c.args.known.now) c.args.element.now c.args.flows.now c.args.lists.now c.requires.split c.requires.kept)

pub split_changes-returns-clause-comes : goal.split_changes-returns-clause-comes
split_changes-returns-clause-comes t c =
    let facts = fact_of c.args.known.now in
    let later = facts_after c.args.known.now c.args.key.now c.args.fact.now in
    let e = c.args.element.now in
    let flows = c.args.flows.now in
    let lists = c.args.lists.now in
    let i = c.place_that_shows-place.result in
    let within = c.place_that_shows-place.ensures.within in
    let f = c.index-flows-place.result in
    let at = c.index-flows-place.is in
    let es = c.as_slice-elements.result.now in
    let these : es ≡ (out-SplitFlow f).elements = c.as_slice-elements.ensures ∙ ap (λ (g : SplitFlow). (out-SplitFlow g).elements) (sym at) in
    let start = c.lists_before-start.result in
    let keeps = split-keeps facts e flows lists c.requires.split c.requires.kept in
    let here = at-flow facts flows lists i start f keeps within at (c.lists_before-start.ensures facts keeps) in
    let kept : KeepsFirst facts es c.lists_from-rest.result.now =
    (here.first.0, c.lists_from-rest.ensures ∙ (here.first.1 ∙ ap (λ xs. lists_in (tree_first (states facts xs)) ++ here.first.0) (sym these))) in
    let alone = stands-alone facts e e flows c.args.key.now i f c.requires.split (c.requires.once c.args.key.now.element) within at (c.place_that_shows-place.ensures.shows facts keeps f at) in
    let apart = learnt-apart c.args.known.now c.args.key.now c.args.fact.now in
    let is = first-value facts later es c.in_ok-made.made (c.in_ok-made.ensures.value (first_id (rows_in (states facts es))) kept.0 kept.1) ∙ ap value_kept (ap (λ xs. tree_first (states later xs)) these ∙ sym (whole-parts later f)) in
    subst (λ r. IfOk c.split_after-result.result (λ made. made ≡ r))
    (ap split_result (flows-values c.args.key.now.element facts later apart flows i f c.in_ok-made.made alone within at is) ∙ sym (kept-split later e flows c.requires.split).0)
    (c.split_after-result.ensures facts keeps)

pub split_changes-returns-clause-changes : goal.split_changes-returns-clause-changes
split_changes-returns-clause-changes t c =
    let facts = fact_of c.args.known.now in
    let later = facts_after c.args.known.now c.args.key.now c.args.fact.now in
    let e = c.args.element.now in
    let flows = c.args.flows.now in
    let lists = c.args.lists.now in
    let i = c.place_that_shows-place.result in
    let within = c.place_that_shows-place.ensures.within in
    let f = c.index-flows-place.result in
    let at = c.index-flows-place.is in
    let es = c.as_slice-elements.result.now in
    let these : es ≡ (out-SplitFlow f).elements = c.as_slice-elements.ensures ∙ ap (λ (g : SplitFlow). (out-SplitFlow g).elements) (sym at) in
    let start = c.lists_before-start.result in
    let keeps = split-keeps facts e flows lists c.requires.split c.requires.kept in
    let here = at-flow facts flows lists i start f keeps within at (c.lists_before-start.ensures facts keeps) in
    let kept : KeepsFirst facts es c.lists_from-rest.result.now =
    (here.first.0, c.lists_from-rest.ensures ∙ (here.first.1 ∙ ap (λ xs. lists_in (tree_first (states facts xs)) ++ here.first.0) (sym these))) in
    let alone = stands-alone facts e e flows c.args.key.now i f c.requires.split (c.requires.once c.args.key.now.element) within at (c.place_that_shows-place.ensures.shows facts keeps f at) in
    let apart = learnt-apart c.args.known.now c.args.key.now c.args.fact.now in
    let others = c.args.changes.now.items in
    let changes = c.list_changes.new.changes.items in
    let base = c.args.base in
    let one = subst (λ xs. Puts others changes (base + start) (lists_in (tree_first (states facts xs))) (lists_in (tree_first (states later xs)))) these
    (first-puts facts later es others changes (base + start) (c.in_ok-made.ensures.changes (first_id (rows_in (states facts es))) kept.0 kept.1)) in
    let all = flows-put c.args.key.now.element facts later apart flows i f others changes base start alone within at (c.lists_before-start.ensures facts keeps) one in
    if-ok c.split_after-result.result
    (subst (λ x. Puts others changes base x (kept_element later e).inside) (sym (kept-split facts e flows c.requires.split).1)
    (subst (λ x. Puts others changes base (joined (map (λ (g : SplitFlow). lists_in (kept_flow facts g)) flows)) x) (sym (kept-split later e flows c.requires.split).1) all))

pub list_changes-bounds-lists-0 : goal.list_changes-bounds-lists-0
list_changes-bounds-lists-0 t c =
    let l = ap length c.requires.kept.2 in
    omega (arith, l)

pub list_changes-bounds-elements-place : goal.list_changes-bounds-elements-place
list_changes-bounds-elements-place t c =
    (way (fact_of c.args.known.now) c.args.elements.now c.args.lists.now c.index-lists-0.result c.in-Some.place c.requires.kept c.index-lists-0.is c.in-Some.is).within

pub list_changes-walk_on-come-requires-clause-once : goal.list_changes-walk_on-come-requires-clause-once
list_changes-walk_on-come-requires-clause-once t c = c.requires.once

pub list_changes-walk_on-come-requires-clause-same : goal.list_changes-walk_on-come-requires-clause-same
list_changes-walk_on-come-requires-clause-same t c =
    ap length c.as_slice-2.ensures
    ∙ (way (fact_of c.args.known.now) c.args.elements.now c.args.lists.now c.index-lists-0.result c.in-Some.place c.requires.kept c.index-lists-0.is c.in-Some.is).in_results

-- ---- A step or a decision

pub element_changes-returns-in-Step-clause-comes : goal.element_changes-returns-in-Step-clause-comes
element_changes-returns-in-Step-clause-comes t c =
    let later = facts_after c.args.known.now c.args.key.now c.args.fact.now in
    subst (λ own. IfOk c.step_after.result (λ made. made ≡ own)) (sym (kept-step later c.args.element.now c.in-Step.step c.in-Step.is).0) c.step_after.ensures

pub element_changes-returns-in-Step-clause-changes : goal.element_changes-returns-in-Step-clause-changes
element_changes-returns-in-Step-clause-changes t c =
    let facts = fact_of c.args.known.now in
    let later = facts_after c.args.known.now c.args.key.now c.args.fact.now in
    let e = c.args.element.now in
    let same = (kept-step later e c.in-Step.step c.in-Step.is).1 ∙ sym (kept-step facts e c.in-Step.step c.in-Step.is).1 in
    if-ok c.step_after.result (puts-same c.args.changes.now.items c.args.base (kept_element facts e).inside (kept_element later e).inside same)

pub element_changes-returns-in-Decision-clause-comes : goal.element_changes-returns-in-Decision-clause-comes
element_changes-returns-in-Decision-clause-comes t c =
    let later = facts_after c.args.known.now c.args.key.now c.args.fact.now in
    subst (λ own. IfOk c.runnable_after.result (λ made. made ≡ own)) (sym (kept-decision later c.args.element.now c.in-Decision.artifact c.in-Decision.is).0)
    c.runnable_after.ensures

pub element_changes-returns-in-Decision-clause-changes : goal.element_changes-returns-in-Decision-clause-changes
element_changes-returns-in-Decision-clause-changes t c =
    let facts = fact_of c.args.known.now in
    let later = facts_after c.args.known.now c.args.key.now c.args.fact.now in
    let e = c.args.element.now in
    let same = (kept-decision later e c.in-Decision.artifact c.in-Decision.is).1 ∙ sym (kept-decision facts e c.in-Decision.artifact c.in-Decision.is).1 in
    if-ok c.runnable_after.result (puts-same c.args.changes.now.items c.args.base (kept_element facts e).inside (kept_element later e).inside same)

-- ---- A split in its element

pub element_changes-returns-in-Split-clause-comes : goal.element_changes-returns-in-Split-clause-comes
element_changes-returns-in-Split-clause-comes t c = c.split_changes.ensures.comes

pub element_changes-returns-in-Split-clause-changes : goal.element_changes-returns-in-Split-clause-changes
element_changes-returns-in-Split-clause-changes t c = c.split_changes.ensures.changes

pub element_changes-split_changes-requires : goal.element_changes-split_changes-requires
element_changes-split_changes-requires t c =
    let is = c.in-Split.is ∙ ap Split (sym c.as_slice.ensures) in
    (omega arith, (is, (c.requires.kept, (c.requires.shown, (c.requires.known, (c.requires.each, (c.requires.once, c.requires.numbered)))))))

pub split_changes-bounds-flows-place : goal.split_changes-bounds-flows-place
split_changes-bounds-flows-place t c = c.place_that_shows-place.ensures.within
