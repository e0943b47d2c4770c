use Rattle.std.proofs.Common.{List, ℕ, sym, subst}
use Rattle.catalogue_checks.specs.Verdicts.{IsVerdict}
use Rattle.catalogue_checks.proofs.check.check_nothing.Goals as goal

pub returns : goal.returns
returns c =
    let checked = c.in_ok-checked.checked in
    λ line is. subst (λ (l : List ℕ). IsVerdict l checked.text.items checked.outcome) (sym is) c.in_ok-checked.ensures
