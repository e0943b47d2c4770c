use Rattle.std.proofs.Common.{◌≡◌, ◌-◌, set}
use Rattle.std.specs.List.{position}
use Rattle.std.specs.Str.{bytes_eq}
use Rattle.jsl_model.specs.declared.element.Element.{Element}
use Rattle.walk_rules.specs.Standing.{rows_by, stands}
use Rattle.walk_rules.specs.Walk.{follow}
use Rattle.walk_rules.proofs.progress.walk_on.Given as goal

abbrev pub invariant-loop-passed : goal.invariant-loop-passed
invariant-loop-passed l =
    let rows = rows_by l.elements (set l.results l.changed l.comes_to) in
    (l.at ≡ position (λ (e : Element). bytes_eq e.id l.id) l.elements)
    × (follow (l.left - l.passed) rows l.id ≡ follow l.left rows l.from)
    × (stands (l.left - l.passed) rows l.id ≡ stands l.left rows l.from)
