use Rattle.std.proofs.Common.{List, ℕ, Option, IfOk, sym, subst}
use Rattle.script_lines.specs.declared.line.Line.{Line}
use Rattle.script_lines.specs.Lines.{ShowsFirst}
use Rattle.catalogue_checks.specs.Verdicts.{IsVerdict}
use Rattle.catalogue_checks.proofs.check.check_line.Goals as goal

pub returns-in-None : goal.returns-in-None
returns-in-None c =
    subst (λ (f : Option Line). IfOk c.check_nothing.result (λ checked. (line : List ℕ) → ShowsFirst f line → IsVerdict line checked.text.items checked.outcome)) (sym c.in-None.is) c.check_nothing.ensures

pub returns-in-Some : goal.returns-in-Some
returns-in-Some c =
    subst (λ (f : Option Line). IfOk c.check_shown.result (λ checked. (line : List ℕ) → ShowsFirst f line → IsVerdict line checked.text.items checked.outcome)) (sym c.in-Some.is) c.check_shown.ensures
