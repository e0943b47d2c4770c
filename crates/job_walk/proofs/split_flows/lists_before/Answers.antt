use Rattle.std.proofs.Common.{rules, ◌≡◌, ◌<◌, ◌^◌, length, map, take, ap, ◌∙◌, arith}
use Rattle.jsl_model.specs.Trees.{joined}
use Rattle.jsl_model.specs.declared.element.SplitFlow.{SplitFlow}
use Rattle.job_walk.specs.KeptLists.{kept_flow, lists_in}
use Rattle.job_walk.proofs.SplitFlows.{at-flow, flow-there}
use Rattle.job_walk.proofs.split_flows.lists_before.Goals as goal

pub list_at-requires : goal.list_at-requires
list_at-requires c =
    let turn = c.loop-before-test.true in
    let within = c.requires.within in
    let lt : c.loop-before.before < length c.args.flows.now = omega (arith, turn, within) in
    let there = flow-there c.args.flows.now c.loop-before.before lt in
    let kept = c.requires.kept in
    (at-flow kept.0 c.args.flows.now c.args.lists.now c.loop-before.before c.loop-before.start there.0 kept.1 lt there.1 (c.loop-before.invariant kept.0 kept.1)).some

pub overflow_add-start : goal.overflow_add-start
overflow_add-start c =
    let turn = c.loop-before-test.true in
    let within = c.requires.within in
    let lt : c.loop-before.before < length c.args.flows.now = omega (arith, turn, within) in
    let there = flow-there c.args.flows.now c.loop-before.before lt in
    let kept = c.requires.kept in
    let fits = (at-flow kept.0 c.args.flows.now c.args.lists.now c.loop-before.before c.loop-before.start there.0 kept.1 lt there.1 (c.loop-before.invariant kept.0 kept.1)).fits c.list_at.result.now (c.list_at.ensures c.list_at.result.now) in
    let small : length c.args.lists.now < 2 ^ 63 = search rules in
    omega (arith, fits, small)

pub loop-before-preserved : goal.loop-before-preserved
loop-before-preserved c facts keeps =
    let turn = c.loop-before-test.true in
    let within = c.requires.within in
    let lt : c.loop-before.before < length c.args.flows.now = omega (arith, turn, within) in
    let there = flow-there c.args.flows.now c.loop-before.before lt in
    (at-flow facts c.args.flows.now c.args.lists.now c.loop-before.before c.loop-before.start there.0 keeps lt there.1 (c.loop-before.invariant facts keeps)).next c.list_at.result.now (c.list_at.ensures c.list_at.result.now)

pub returns : goal.returns
returns c facts keeps =
    let over = c.loop-before-test.false in
    let end = c.loop-before.auto.before-end in
    let same : c.loop-before.before ≡ c.args.place = omega (arith, over, end) in
    c.loop-before.invariant facts keeps ∙ ap (λ n. length (joined (map (λ (f : SplitFlow). lists_in (kept_flow facts f)) (take n c.args.flows.now)))) same
