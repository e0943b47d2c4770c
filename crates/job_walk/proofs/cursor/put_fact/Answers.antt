use Rattle.std.proofs.Common.{◌≡◌, ◌<◌, ◌∙◌, true, length, refl, sym, ap, rules}
use Rattle.walk_rules.specs.Keys.{is_same_key}
use Rattle.walk_rules.specs.declared.facts.Known.{Known}
use Rattle.job_plans.proofs.KeysOnce.{others-before}
use Rattle.job_plans.proofs.Newest.{put-read}
use Rattle.job_walk.proofs.cursor.put_fact.Goals as goal

pub returns-then-is_of : goal.returns-then-is_of
returns-then-is_of c =
    let known = c.args.known.now.items in
    let key = c.args.key.now in
    let place = c.key_place_of-place.result in
    let on : is_same_key key c.index.result.now.key ≡ true = sym c.is_of.ensures ∙ c.if-is_of.true in
    let lt : place < length known = search rules in
    put-read known known key c.args.fact c.args.fact place c.index.result.now c.index_mut.result.now lt refl
    (others-before known key place c.index.result.now lt (ap (λ (x : Known). is_same_key key x.key) (sym c.index.ensures) ∙ on) (c.requires.each key))
    c.index.ensures c.index_mut.ensures.value on refl
