use Rattle.std.proofs.Common.{◌∙◌, List, ℕ, subst}
use Rattle.catalogue_checks.specs.Verdicts.{IsVerdict}
use Rattle.catalogue_checks.proofs.check.check_whole.Goals as goal

pub returns : goal.returns
returns c =
    let checked = c.in_ok-checked.checked in
    λ line shown. subst (λ (l : List ℕ). IsVerdict l checked.text.items checked.outcome) (c.as_slice.ensures.value ∙ shown.0) c.in_ok-checked.ensures
