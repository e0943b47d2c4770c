use Rattle.std.proofs.Common.{inl, inr, ◌++◌, ◌∷◌, [], rules, ◌≡◌, ◌<◌, ◌^◌, length, map, set, ap, ◌∙◌, arith}
use Rattle.std.proofs.lemmas.List.{length-map, length-set, map-append, take_all}
use Rattle.jsl_model.specs.declared.element.SplitFlow.{SplitFlow}
use Rattle.std.specs.Borrow.{Bor}
use Rattle.walk_rules.specs.declared.facts.Value.{Value}
use Rattle.job_walk.specs.declared.kept_list.KeptList.{KeptList}
use Rattle.job_walk.specs.KeptLists.{kept_flow, value_kept}
use Rattle.job_walk.proofs.SplitFlows.{at-flow, flow-there, value-more}
use Rattle.job_walk.proofs.split_flows.flow_values.Goals as goal
use Rattle.job_walk.proofs.split_flows.flow_values.Goals.{then-place-changed, else-place-changed}

pub list_at-kept-requires : goal.list_at-kept-requires
list_at-kept-requires c =
    let there = flow-there c.args.flows.now c.loop-place.place c.loop-place-test.true in
    (at-flow c.requires.0 c.args.flows.now c.args.lists.now c.loop-place.place c.loop-place.start there.0 c.requires.1 c.loop-place-test.true there.1 (c.loop-place.invariant.2 c.requires.0 c.requires.1).0).some

pub overflow_add-start : goal.overflow_add-start
overflow_add-start c =
    let there = flow-there c.args.flows.now c.loop-place.place c.loop-place-test.true in
    let fits = (at-flow c.requires.0 c.args.flows.now c.args.lists.now c.loop-place.place c.loop-place.start there.0 c.requires.1 c.loop-place-test.true there.1 (c.loop-place.invariant.2 c.requires.0 c.requires.1).0).fits
    c.list_at-kept.result.now (c.list_at-kept.ensures c.list_at-kept.result.now) in
    let small : length c.args.lists.now < 2 ^ 63 = search rules in
    omega (arith, fits, small)

pub loop-place-preserved : goal.loop-place-preserved
loop-place-preserved c =
    let more = c.push_reserved.ensures.len in
    let same = c.push_reserved.ensures.capacity in
    let now = c.loop-place.invariant.0 in
    let room = c.loop-place.invariant.1 in (
      omega (arith, more, now),
      omega (arith, same, room),
      λ facts keeps.
          let there = flow-there c.args.flows.now c.loop-place.place c.loop-place-test.true in
          let here = at-flow facts c.args.flows.now c.args.lists.now c.loop-place.place c.loop-place.start there.0 keeps c.loop-place-test.true there.1 (c.loop-place.invariant.2 facts keeps).0 in
          let got = c.list_at-kept.ensures c.list_at-kept.result.now in
          let kept : c.list_at-kept.result.now.progress.value ≡ value_kept (kept_flow facts there.0) = ap (λ (k : KeptList). k.progress.value) (here.head c.list_at-kept.result.now got) in
          let pushed : map (λ (v : Bor Value). v.now) c.push_reserved.new.self.items ≡ map (λ (v : Bor Value). v.now) c.loop-place.values.items ++ c.if-place-changed.value.now ∷ [] =
          ap (map (λ (v : Bor Value). v.now)) c.push_reserved.ensures.items ∙ map-append (λ (v : Bor Value). v.now) c.loop-place.values.items (c.if-place-changed.value ∷ []) in (
            here.next c.list_at-kept.result.now got,
            value-more (λ f. value_kept (kept_flow facts f)) c.args.flows.now c.loop-place.place c.args.changed there.0 c.args.comes_to.now (map (λ (v : Bor Value). v.now) c.loop-place.values.items)
                (map (λ (v : Bor Value). v.now) c.push_reserved.new.self.items) c.if-place-changed.value.now c.loop-place-test.true there.1 (c.loop-place.invariant.2 facts keeps).1 pushed
                (elim c.if-place-changed.branch [
                  | then-place-changed w ↦ inl (w.if-place-changed.true, ap (λ (v : Bor Value). v.now) w.value-is)
                  | else-place-changed w ↦ inr (w.if-place-changed.false, ap (λ (v : Bor Value). v.now) w.value-is ∙ kept)
                ]),
          ),
    )

pub returns : goal.returns
returns c facts keeps =
    let over = c.loop-place-test.false in
    let g : SplitFlow → Value = λ f. value_kept (kept_flow facts f) in
    let l = length-map c.args.flows.now g in
    let l2 = length-set (map g c.args.flows.now) c.args.changed c.args.comes_to.now in
    (c.loop-place.invariant.2 facts keeps).1 ∙ take_all c.loop-place.place (set (map g c.args.flows.now) c.args.changed c.args.comes_to.now) (omega (arith, over, l, l2))
