use Rattle.std.proofs.Common.{◌≡◌, map, ◌∙◌, ap, subst, IfOk}
use Rattle.std.proofs.lemmas.List.{take_all}
use Rattle.std.specs.Borrow.{Bor}
use Rattle.walk_rules.specs.declared.facts.Value.{Value}
use Rattle.walk_rules.specs.Walk.{split_result}
use Rattle.walk_rules.proofs.splits.split_result.Goals as goal

pub returns : goal.returns
returns c =
    let same : map (λ (v : Bor Value). v.now) c.as_slice.result.now ≡ c.args.values.now =
    ap (map (λ (v : Bor Value). v.now)) c.as_slice.ensures.value ∙ (c.loop-value.invariant ∙ take_all c.loop-value.value-index c.args.values.now c.loop-value-test.false) in
    subst (λ vs. IfOk c.split_result_of.result (λ made. made ≡ split_result vs)) same c.split_result_of.ensures
