use Rattle.std.proofs.Common.{sym, ◌∙◌, ap}
use Rattle.std.specs.Option.{option_copied}
use Rattle.std.proofs.lemmas.Bool.{leb-false, leb-true}
use Rattle.records.proofs.Slots.{below_last, below_none, ends_in}
use Rattle.records.proofs.row_list.ends_from.Goals as goal

pub returns-in-Some-clause-below : goal.returns-in-Some-clause-below
returns-in-Some-clause-below g c above rising =
    below_last (λ row. 0) c.args.number c.args.slots.now c.in-Some.last.now (sym c.last.ensures.value ∙ ap option_copied c.in-Some.is) (leb-false c.args.number c.in-Some.last.now.number above) rising

pub returns-in-Some-clause-ends : goal.returns-in-Some-clause-ends
returns-in-Some-clause-ends g c below =
    let ends = ends_in (λ row. 0) c.args.slots.now c.in-Some.last.now (sym c.last.ensures.value ∙ ap option_copied c.in-Some.is) in
    (ends.0, c.in-Some.last.now, ends.1, leb-true c.args.number c.in-Some.last.now.number below)

pub returns-in-None-clause-below : goal.returns-in-None-clause-below
returns-in-None-clause-below g c above rising =
    below_none (λ row. 0) c.args.number c.args.slots.now (sym c.last.ensures.value ∙ ap option_copied c.in-None.is)
