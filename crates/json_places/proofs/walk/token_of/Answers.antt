use Rattle.std.proofs.Common.{◌≡◌, ℕ, ◌+◌, ◌<◌, List, ◌∷◌, drop, length, get_or, None, option_and_then, sym, ap, ◌∙◌, subst, arith}
use Rattle.std.proofs.lemmas.List.{drop_more, drop_all}
use Rattle.json_places.specs.Inside.{Found, after, step_of, value_at}
use Rattle.json_places.specs.Walk.{StandsAt}
use Rattle.json_places.specs.declared.path.Step.{Step}
use Rattle.json_places.proofs.Found.{after_both, after_none}
use Rattle.json_places.proofs.walk.token_of.Goals as goal

-- a path whose next step is known
next_step : (path : List Step) (i : ℕ) (s : Step) → i < length path → s ≡ get_or path i s → drop i path ≡ s ∷ drop (i + 1) path
next_step path i s h is = drop_more path i s h ∙ ap (λ x. x ∷ drop (i + 1) path) (sym is)

pub loop-step-init : goal.loop-step-init
loop-step-init c j begins = (j, begins, after_none (value_at c.args.path.now j))

pub returns-in_err-at : goal.returns-in_err-at
returns-in_err-at c j begins =
    let path = c.args.path.now in
    let i = c.loop-step.step-index in
    let now = c.loop-step.invariant j begins in
    let gone : c.from_residual.result ≡ None = grind arith in
    let next = next_step path i c.step-item.result c.loop-step-test.true c.step-item.is in
    let none : step_of c.step-item.result now.0 ≡ None = c.in_err-at.ensures now.0 now.1 in
    subst (λ r. StandsAt c.args.nodes.now 0 r (value_at path j)) (sym gone)
    (now.2 ∙ ap (λ ss. after c.loop-step.at (value_at ss now.0)) next ∙ ap (λ (o : Found). after c.loop-step.at (option_and_then (λ p. after p.0 (value_at (drop (i + 1) path) p.1)) o)) none)

pub loop-step-preserved : goal.loop-step-preserved
loop-step-preserved c j begins =
    let path = c.args.path.now in
    let i = c.loop-step.step-index in
    let rest = drop (i + 1) path in
    let now = c.loop-step.invariant j begins in
    let next = next_step path i c.step-item.result c.loop-step-test.true c.step-item.is in
    let found = c.in_ok-at.ensures now.0 now.1 in (
      found.1,
      found.4,
      now.2 ∙ ap (λ ss. after c.loop-step.at (value_at ss now.0)) next
          ∙ ap (λ (o : Found). after c.loop-step.at (option_and_then (λ p. after p.0 (value_at rest p.1)) o)) found.2
          ∙ after_both c.loop-step.at found.0 (value_at rest found.1) ∙ ap (λ n. after n (value_at rest found.1)) (sym found.3),
    )

pub returns : goal.returns
returns c j begins =
    let path = c.args.path.now in
    let i = c.loop-step.step-index in
    let now = c.loop-step.invariant j begins in
    (c.loop-step.at + 0, now.0, now.2 ∙ ap (λ ss. after c.loop-step.at (value_at ss now.0)) (drop_all i path (omega arith)), omega arith, now.1)
