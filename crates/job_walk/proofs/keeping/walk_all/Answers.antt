use Rattle.std.proofs.Common.{◌≡◌, length, List, subst, arith, IfOk}
use Rattle.std.proofs.lemmas.List.{set_past}
use Rattle.walk_rules.specs.declared.element_result.ElementResult.{ElementResult}
use Rattle.walk_rules.specs.Standing.{progress, rows_by}
use Rattle.job_walk.proofs.keeping.walk_all.Goals as goal

pub returns : goal.returns
returns c =
    let same = c.requires.same in
    subst (λ (owns : List ElementResult). IfOk c.walk_on-come.result (λ come. come ≡ progress (length c.args.elements.now) (rows_by c.args.elements.now owns) c.args.from.now))
    (set_past c.args.results.now (length c.args.elements.now) _ (omega (arith, same))) c.walk_on-come.ensures
