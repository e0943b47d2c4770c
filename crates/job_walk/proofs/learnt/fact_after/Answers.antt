use Rattle.std.proofs.Common.{◌≡◌, ◌≢◌, ◌∙◌, true, false, sym, ap}
use Rattle.walk_rules.specs.Keys.{key_of, is_same_key}
use Rattle.job_walk.specs.KeptLists.{facts_after}
use Rattle.job_plans.proofs.Newest.{put-one, put-others}
use Rattle.walk_rules.proofs.SameKeys.{same-one, same-self}
use Rattle.job_walk.proofs.learnt.fact_after.Goals as goal

pub returns-in_ok-try_clone : goal.returns-in_ok-try_clone
returns-in_ok-try_clone c =
    let same : c.args.key.now ≡ key_of c.args.id.now c.args.partition = same-one c.args.key.now (key_of c.args.id.now c.args.partition) (sym c.is_of.ensures ∙ c.if-is_of.true) in
    c.in_ok-try_clone.ensures ∙ (sym (put-one c.args.known.now c.args.key.now c.args.fact.now c.requires.known) ∙ ap (facts_after c.args.known.now c.args.key.now c.args.fact.now) same)

pub returns-in_ok-known_fact : goal.returns-in_ok-known_fact
returns-in_ok-known_fact c =
    let off : is_same_key c.args.key.now (key_of c.args.id.now c.args.partition) ≡ false = sym c.is_of.ensures ∙ c.if-is_of.false in
    let differ : c.args.key.now ≢ key_of c.args.id.now c.args.partition =
    λ same. let yes : is_same_key c.args.key.now (key_of c.args.id.now c.args.partition) ≡ true = same-self c.args.key.now (key_of c.args.id.now c.args.partition) same in cc in
    c.in_ok-known_fact.ensures ∙ sym (put-others c.args.known.now c.args.key.now c.args.fact.now (key_of c.args.id.now c.args.partition) differ)
