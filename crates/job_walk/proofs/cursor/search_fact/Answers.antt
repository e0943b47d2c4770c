use Rattle.std.proofs.Common.{◌≡◌, ◌∙◌, ◌<◌, ◌≤◌, length, true, false, refl, sym, ap, arith, Vec, Global}
use Rattle.walk_rules.specs.Keys.{is_same_key}
use Rattle.walk_rules.specs.declared.facts.Known.{Known}
use Rattle.job_plans.proofs.Newest.{has-later, has-nowhere, other-more, put-read}
use Rattle.job_walk.proofs.cursor.search_fact.Goals as goal

pub returns-then-is_of : goal.returns-then-is_of
returns-then-is_of c =
    let on : is_same_key c.args.key.now c.index.result.now.key ≡ true = sym c.is_of.ensures ∙ c.if-is_of.true in
    put-read c.loop-place.known.items c.args.known.now.items c.args.key.now c.args.fact c.args.fact c.loop-place.place c.index.result.now c.index_mut.result.now
    (omega arith) (ap (λ (v : Vec Known Global). v.items) c.loop-place.invariant.2) c.loop-place.invariant.1 c.index.ensures c.index_mut.ensures.value on refl

pub loop-place-init : goal.loop-place-init
loop-place-init c = (c.requires.known, (λ j d below. absurd (omega (arith, below))), refl)

pub loop-place-preserved : goal.loop-place-preserved
loop-place-preserved c =
    let known = c.loop-place.known.items in
    let key = c.args.key.now in
    let place = c.loop-place.place in
    let off : is_same_key key c.index.result.now.key ≡ false = sym c.is_of.ensures ∙ c.if-is_of.false in
    let same = ap (λ (v : Vec Known Global). length v.items) c.loop-place.invariant.2 in
    let counted = c.len-place-end.ensures in
    let long = c.args.known.now.ok.0 in
    let turn = c.loop-place-test.true in
    let lt : place < length known = omega (arith, turn, counted, long, same) in (
      has-later known key place c.index.result.now lt c.index.ensures off c.loop-place.invariant.0,
      other-more known key place c.index.result.now lt c.index.ensures off c.loop-place.invariant.1,
      c.loop-place.invariant.2,
    )

pub unreachable-requires : goal.unreachable-requires
unreachable-requires c =
    let same = ap (λ (v : Vec Known Global). length v.items) c.loop-place.invariant.2 in
    let counted = c.len-place-end.ensures in
    let long = c.args.known.now.ok.0 in
    let over = c.loop-place-test.false in
    let past : length c.loop-place.known.items ≤ c.loop-place.place = omega (arith, over, counted, long, same) in
    let never = has-nowhere c.loop-place.known.items c.args.key.now c.loop-place.place past c.loop-place.invariant.0 in
    cc
