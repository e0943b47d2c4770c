use Rattle.std.proofs.Common.{Option, sym, ◌∙◌, ap}
use Rattle.std.proofs.lemmas.Bool.{eq-eqb}
use Rattle.std.specs.List.{cons_option}
use Rattle.records.specs.Slots.{rows_in}
use Rattle.record_lists.proofs.Listing.{empty_list}
use Rattle.records.proofs.row_list.RowsLeftIterator.next.Goals as goal

pub loop-first-preserved : goal.loop-first-preserved
loop-first-preserved g c =
    ap (λ (r : Option g.row.T.Denot). cons_option r (rows_in c.in-Some.others.now)) c.in_default-as_ref.ensures.value
    ∙ (ap rows_in (sym c.in-Some.ensures.cases.0) ∙ c.loop-first.invariant)

pub returns-in-Some-as_ref-clause-steps : goal.returns-in-Some-as_ref-clause-steps
returns-in-Some-as_ref-clause-steps g c =
    sym c.loop-first.invariant
    ∙ (ap rows_in c.in-Some.ensures.cases.0
    ∙ ap (λ (r : Option g.row.T.Denot). cons_option r (rows_in c.in-Some.others.now)) (sym c.in-Some-as_ref.ensures.value))

pub returns-clause-steps : goal.returns-clause-steps
returns-clause-steps g c =
    let none = ap rows_in (empty_list c.loop-first.self.slots.now (eq-eqb _ 0 c.in_default.ensures.cases)) in
    (sym c.loop-first.invariant ∙ none, none)
