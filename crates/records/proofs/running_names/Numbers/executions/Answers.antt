use Rattle.std.proofs.Common.{ℕ, List, [], ◌∷◌, ◌++◌, refl, ◌∙◌, ap}
use Rattle.records.proofs.Gathered.{one_more, none_left}
use Rattle.records.proofs.running_names.Numbers.executions.Goals as goal

pub loop-number-preserved : goal.loop-number-preserved
loop-number-preserved c =
    let so_far : List ℕ = c.loop-number.found.items in
    one_more (λ (ns : List ℕ). ns) so_far _ _ _ c.in-Some.number.now c.loop-number.number-iterator c.next.new.self c.in-Some.ensures.steps refl
    (c.in_ok-push.ensures.items ∙ ap (λ (n : ℕ). so_far ++ n ∷ []) c.new.ensures) c.loop-number.invariant

pub returns : goal.returns
returns c = none_left (λ (ns : List ℕ). ns) c.loop-number.found.items _ c.loop-number.number-iterator c.in-None.ensures.steps.0 refl c.loop-number.invariant
