use Rattle.std.proofs.Common.{rules, ◌≡◌, ◌<◌, ◌^◌, false, length, map, sym, ap, ◌∙◌, refl, arith}
use Rattle.jsl_model.specs.declared.element.SplitFlow.{SplitFlow}
use Rattle.job_walk.specs.declared.kept_list.KeptList.{KeptList}
use Rattle.job_walk.specs.KeptLists.{kept_flow, value_kept}
use Rattle.walk_rules.specs.Shown.{shows}
use Rattle.job_walk.proofs.ShownCounts.{split-shown}
use Rattle.job_walk.proofs.SplitFlows.{at-flow, flow-there, later-shows}
use Rattle.job_walk.proofs.split_flows.search_place.Goals as goal

pub loop-place-init : goal.loop-place-init
loop-place-init c facts keeps = (refl, λ shown. split-shown c.args.key.now (map (λ (f : SplitFlow). value_kept (kept_flow facts f)) c.args.flows.now) shown)

pub list_at-kept-requires : goal.list_at-kept-requires
list_at-kept-requires c =
    let there = flow-there c.args.flows.now c.loop-place.place c.loop-place-test.true in
    (at-flow c.requires.0 c.args.flows.now c.args.lists.now c.loop-place.place c.loop-place.start there.0 c.requires.1 c.loop-place-test.true there.1 (c.loop-place.invariant c.requires.0 c.requires.1).0).some

pub returns-then-shows-clause-shows : goal.returns-then-shows-clause-shows
returns-then-shows-clause-shows c facts keeps f at =
    let here = at-flow facts c.args.flows.now c.args.lists.now c.loop-place.place c.loop-place.start f keeps c.loop-place-test.true at (c.loop-place.invariant facts keeps).0 in
    let got = c.list_at-kept.ensures c.list_at-kept.result.now in
    ap (λ (k : KeptList). shows c.args.key.now k.progress.value) (sym (here.head c.list_at-kept.result.now got)) ∙ (sym c.shows.ensures ∙ c.if-shows.true)

pub overflow_add-start : goal.overflow_add-start
overflow_add-start c =
    let there = flow-there c.args.flows.now c.loop-place.place c.loop-place-test.true in
    let fits = (at-flow c.requires.0 c.args.flows.now c.args.lists.now c.loop-place.place c.loop-place.start there.0 c.requires.1 c.loop-place-test.true there.1 (c.loop-place.invariant c.requires.0 c.requires.1).0).fits
    c.list_at-kept.result.now (c.list_at-kept.ensures c.list_at-kept.result.now) in
    let small : length c.args.lists.now < 2 ^ 63 = search rules in
    omega (arith, fits, small)

pub loop-place-preserved : goal.loop-place-preserved
loop-place-preserved c facts keeps =
    let there = flow-there c.args.flows.now c.loop-place.place c.loop-place-test.true in
    let here = at-flow facts c.args.flows.now c.args.lists.now c.loop-place.place c.loop-place.start there.0 keeps c.loop-place-test.true there.1 (c.loop-place.invariant facts keeps).0 in
    let got = c.list_at-kept.ensures c.list_at-kept.result.now in
    let hidden : shows c.args.key.now (value_kept (kept_flow facts there.0)) ≡ false =
    ap (λ (k : KeptList). shows c.args.key.now k.progress.value) (sym (here.head c.list_at-kept.result.now got)) ∙ (sym c.shows.ensures ∙ c.if-shows.false) in (
      here.next c.list_at-kept.result.now got,
      λ shown.
          later-shows c.args.key.now (λ f. value_kept (kept_flow facts f)) c.args.flows.now c.loop-place.place there.0 c.loop-place-test.true there.1
          ((c.loop-place.invariant facts keeps).1 shown) hidden,
    )
