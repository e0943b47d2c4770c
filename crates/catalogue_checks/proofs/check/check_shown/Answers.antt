use Rattle.std.proofs.Common.{List, ℕ, IfOk, sym, subst}
use Rattle.script_lines.specs.declared.line.Line.{Line}
use Rattle.script_lines.specs.Lines.{Shows}
use Rattle.catalogue_checks.specs.Verdicts.{IsVerdict}
use Rattle.catalogue_checks.proofs.check.check_shown.Goals as goal

pub returns-in-Whole : goal.returns-in-Whole
returns-in-Whole c =
    subst (λ (l : Line). IfOk c.check_whole.result (λ checked. (bytes : List ℕ) → Shows l bytes → IsVerdict bytes checked.text.items checked.outcome)) (sym c.in-Whole.is) c.check_whole.ensures

pub returns-in-TooLong : goal.returns-in-TooLong
returns-in-TooLong c =
    subst (λ (l : Line). IfOk c.tell_too_long.result (λ checked. (bytes : List ℕ) → Shows l bytes → IsVerdict bytes checked.text.items checked.outcome)) (sym c.in-TooLong.is) c.tell_too_long.ensures
