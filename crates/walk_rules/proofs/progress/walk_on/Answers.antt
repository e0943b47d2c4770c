use Rattle.std.proofs.Common.{◌≡◌, ◌<◌, ◌-◌, ◌+◌, length, set, sym, ◌∙◌, ap, arith}
use Rattle.std.proofs.lemmas.List.{length-set}
use Rattle.walk_rules.specs.declared.element_result.ElementResult.{ElementResult}
use Rattle.walk_rules.specs.declared.element_result.ElementResult.TheVariants.{Outcome}
use Rattle.walk_rules.specs.Standing.{rows_by, stands, stand_by_continuation}
use Rattle.walk_rules.specs.Walk.{follow, value_of_continuation}
use Rattle.walk_rules.proofs.Stands.{here-row, progress-here, none-here, halts-here, turns-here, end-here}
use Rattle.walk_rules.proofs.progress.walk_on.Goals as goal

pub returns-in_default : goal.returns-in_default
returns-in_default c =
    let owns = set c.args.results.now c.args.changed c.args.comes_to.now in
    let l : length owns ≡ length c.args.elements.now = length-set c.args.results.now c.args.changed c.args.comes_to.now ∙ c.requires.same in
    let lt : c.loop-passed.passed < c.args.left = c.loop-passed-test.true in
    let at = sym c.loop-passed.invariant.0 ∙ c.in_default.is in
    let here = none-here c.args.elements.now owns c.loop-passed.id c.args.left c.loop-passed.passed l lt at in
    c.ended_at.ensures
    ∙ progress-here c.args.elements.now owns c.args.from.now c.loop-passed.id c.args.left c.loop-passed.passed _ _ l (sym at) c.loop-passed.invariant.1 c.loop-passed.invariant.2 here.0 here.1

pub returns-in-ListValue : goal.returns-in-ListValue
returns-in-ListValue c =
    let owns = set c.args.results.now c.args.changed c.args.comes_to.now in
    let l : length owns ≡ length c.args.elements.now = length-set c.args.results.now c.args.changed c.args.comes_to.now ∙ c.requires.same in
    let lt : c.loop-passed.passed < c.args.left = c.loop-passed-test.true in
    let at = sym c.loop-passed.invariant.0 ∙ c.in-Some.is in
    let own : ElementResult = c.result_at.result.now in
    let found = here-row c.args.elements.now owns c.loop-passed.id c.in-Some.here c.index-elements-here.result own l at c.index-elements-here.is (c.result_at.ensures own) in
    let here = halts-here (rows_by c.args.elements.now owns) c.loop-passed.id c.args.left c.loop-passed.passed _ c.in-ListValue.value lt found c.in-ListValue.is in
    progress-here c.args.elements.now owns c.args.from.now c.loop-passed.id c.args.left c.loop-passed.passed _ _ l (sym at) c.loop-passed.invariant.1 c.loop-passed.invariant.2
    (here.0 ∙ sym c.in_ok-try_clone-in-ListValue.ensures) here.1

pub returns-in-WithValue : goal.returns-in-WithValue
returns-in-WithValue c =
    let owns = set c.args.results.now c.args.changed c.args.comes_to.now in
    let l : length owns ≡ length c.args.elements.now = length-set c.args.results.now c.args.changed c.args.comes_to.now ∙ c.requires.same in
    let lt : c.loop-passed.passed < c.args.left = c.loop-passed-test.true in
    let at = sym c.loop-passed.invariant.0 ∙ c.in-Some.is in
    let own : ElementResult = c.result_at.result.now in
    let came : own ≡ Outcome c.in-Outcome.outcome c.in-Outcome.exit = c.in-Outcome.is in
    let found = here-row c.args.elements.now owns c.loop-passed.id c.in-Some.here c.index-elements-here.result own l at c.index-elements-here.is (c.result_at.ensures own) in
    let exit = c.in_ok-exit-in-Outcome.ensures in
    let step = turns-here (rows_by c.args.elements.now owns) c.loop-passed.id c.args.left c.loop-passed.passed _ c.in-Outcome.outcome c.in_ok-exit-in-Outcome.exit c.in_ok-value-in-Outcome.field-0 lt found (came ∙ ap (Outcome c.in-Outcome.outcome) (sym exit)) c.in_ok-value-in-Outcome.ensures.is in
    let value = ap (value_of_continuation (follow (c.args.left - (c.loop-passed.passed + 1)) (rows_by c.args.elements.now owns))) c.in-WithValue.is in
    let here = ap (stand_by_continuation record { id = c.loop-passed.id; left = c.args.left - c.loop-passed.passed } (stands (c.args.left - (c.loop-passed.passed + 1)) (rows_by c.args.elements.now owns))) c.in-WithValue.is in
    progress-here c.args.elements.now owns c.args.from.now c.loop-passed.id c.args.left c.loop-passed.passed _ _ l (sym at) c.loop-passed.invariant.1 c.loop-passed.invariant.2
    (step.0 ∙ value) (step.1 ∙ here)

pub loop-passed-preserved : goal.loop-passed-preserved
loop-passed-preserved c =
    let owns = set c.args.results.now c.args.changed c.args.comes_to.now in
    let l : length owns ≡ length c.args.elements.now = length-set c.args.results.now c.args.changed c.args.comes_to.now ∙ c.requires.same in
    let lt : c.loop-passed.passed < c.args.left = c.loop-passed-test.true in
    let at = sym c.loop-passed.invariant.0 ∙ c.in-Some.is in
    let own : ElementResult = c.result_at.result.now in
    let came : own ≡ Outcome c.in-Outcome.outcome c.in-Outcome.exit = c.in-Outcome.is in
    let found = here-row c.args.elements.now owns c.loop-passed.id c.in-Some.here c.index-elements-here.result own l at c.index-elements-here.is (c.result_at.ensures own) in
    let exit = c.in_ok-exit-in-Outcome.ensures in
    let step = turns-here (rows_by c.args.elements.now owns) c.loop-passed.id c.args.left c.loop-passed.passed _ c.in-Outcome.outcome c.in_ok-exit-in-Outcome.exit c.in_ok-value-in-Outcome.field-0 lt found (came ∙ ap (Outcome c.in-Outcome.outcome) (sym exit)) c.in_ok-value-in-Outcome.ensures.is in
    let value = ap (value_of_continuation (follow (c.args.left - (c.loop-passed.passed + 1)) (rows_by c.args.elements.now owns))) c.in-AtElement.is in
    let here = ap (stand_by_continuation record { id = c.loop-passed.id; left = c.args.left - c.loop-passed.passed } (stands (c.args.left - (c.loop-passed.passed + 1)) (rows_by c.args.elements.now owns))) c.in-AtElement.is in
    (c.place_in-at.ensures, sym (step.0 ∙ value) ∙ c.loop-passed.invariant.1, sym (step.1 ∙ here) ∙ c.loop-passed.invariant.2)

pub returns : goal.returns
returns c =
    let owns = set c.args.results.now c.args.changed c.args.comes_to.now in
    let l : length owns ≡ length c.args.elements.now = length-set c.args.results.now c.args.changed c.args.comes_to.now ∙ c.requires.same in
    let here = end-here (rows_by c.args.elements.now owns) c.loop-passed.id c.args.left c.loop-passed.passed c.loop-passed-test.false in
    let is : c.args.left - c.loop-passed.passed ≡ 0 = omega arith in
    c.ended_at-2.ensures
    ∙ rw (← is) (progress-here c.args.elements.now owns c.args.from.now c.loop-passed.id c.args.left c.loop-passed.passed _ _ l c.loop-passed.invariant.0 c.loop-passed.invariant.1 c.loop-passed.invariant.2 here.0 here.1)
