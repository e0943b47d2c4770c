use Rattle.std.proofs.Common.{◌≡◌, map, sym, ◌∙◌, ap, arith, subst, IfOk}
use Rattle.walk_rules.specs.Keys.{key_of, numbers_to}
use Rattle.walk_rules.specs.Walk.{known_of, partitioned_result, step_result}
use Rattle.walk_rules.specs.Walk.{fact_of}
use Rattle.walk_rules.proofs.Pushing.{partition-pushed}
use Rattle.job_walk.proofs.keeping.step_kept.Goals as goal

pub loop-partition-preserved : goal.loop-partition-preserved
loop-partition-preserved c =
    partition-pushed (fact_of c.args.known.now) c.args.id.now c.loop-partition.partition c.loop-partition.facts.items c.push.new.self.items
    c.in_ok-key_of-in-Some.field-0 c.in_ok-known_fact-in-Some.field-0 c.loop-partition.invariant c.in_ok-push-in-Some.ensures.items c.in_ok-key_of-in-Some.ensures c.in_ok-known_fact-in-Some.ensures

pub loop-partition-init : goal.loop-partition-init
loop-partition-init c = c.new-facts.ensures.items

pub returns-in-None : goal.returns-in-None
returns-in-None c =
    subst (λ own. IfOk c.runnable_kept.result (λ made. made ≡ own)) (sym (ap (step_result (fact_of c.args.known.now) c.args.id.now) c.in-None.is)) c.runnable_kept.ensures

pub returns-after-loop-partition : goal.returns-after-loop-partition
returns-after-loop-partition c =
    let facts = fact_of c.args.known.now in
    let over = c.loop-partition-test.false in
    let end = c.loop-partition.auto.partition-end in
    let same : c.loop-partition.partition ≡ c.in-Some.count = omega (arith, over, end) in
    let all = c.as_slice.ensures.value ∙ (c.loop-partition.invariant ∙ ap (λ n. known_of facts (map (key_of c.args.id.now) (numbers_to n))) same) in
    subst (λ own. IfOk c.partitioned_result.result (λ made. made ≡ own)) (ap partitioned_result all ∙ sym (ap (step_result facts c.args.id.now) c.in-Some.is)) c.partitioned_result.ensures
