use Rattle.std.proofs.Common.{sym, ap, ◌∙◌}
use Rattle.job_walk.specs.declared.kept_list.KeptList.{KeptList}
use Rattle.walk_rules.specs.Shown.{shows}
use Rattle.job_walk.proofs.SplitFlows.{at-flow, flow-there}
use Rattle.job_walk.proofs.split_flows.place_that_shows.Goals as goal

pub list_at-requires : goal.list_at-requires
list_at-requires c =
    let there = flow-there c.args.flows.now c.in-Some.place c.if-place-flows.true in
    (at-flow c.requires.0 c.args.flows.now c.args.lists.now c.in-Some.place c.lists_before-start.result there.0 c.requires.1 c.if-place-flows.true there.1 (c.lists_before-start.ensures c.requires.0 c.requires.1)).some

pub returns-then-shows-clause-shows : goal.returns-then-shows-clause-shows
returns-then-shows-clause-shows c facts keeps f at =
    let here = at-flow facts c.args.flows.now c.args.lists.now c.in-Some.place c.lists_before-start.result f keeps c.if-place-flows.true at (c.lists_before-start.ensures facts keeps) in
    let got = c.list_at.ensures c.list_at.result.now in
    ap (λ (k : KeptList). shows c.args.key.now k.progress.value) (sym (here.head c.list_at.result.now got)) ∙ (sym c.shows.ensures ∙ c.if-shows.true)
