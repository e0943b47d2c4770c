use Rattle.std.proofs.Common.{◌+◌, List, filter, length, take, arith, sym, ◌∙◌, ap}
use Rattle.std.proofs.lemmas.List.{length-take-le}
use Rattle.records.specs.Slots.{Rows, rows_in}
use Rattle.records.specs.declared.row_list.Slot.{Slot}
use Rattle.records.proofs.Slots.{searched_in, through_rows, within}
use Rattle.records.proofs.row_list.RowList.rows_through.Goals as goal

pub returns-in-Some : goal.returns-in-Some
returns-in-Some g c p off =
    let at = searched_in g.T.Numbered.number c.args.number _ c.self.inside.slots.items _ c.as_slice-slots.ensures.value c.self.invariant c.slot_place.ensures in
    ap (λ (l : List (Slot g.row.T.Denot)). filter p (rows_in (take (c.in-Some.place + 1) l))) c.as_slice-slots.ensures.value
    ∙ (through_rows g.T.Numbered.number p c.args.number c.in-Some.place _ c.self.inside.slots.items off c.self.invariant (sym c.in-Some.is ∙ at) (omega arith)
    ∙ ap (λ (v : Rows g.row.T.Denot). filter p v.rows) c.self.view_is)

pub returns-in-None : goal.returns-in-None
returns-in-None g c p off =
    ap (λ (l : List (Slot g.row.T.Denot)). filter p (rows_in l)) c.as_slice-slots.ensures.value ∙ ap (λ (v : Rows g.row.T.Denot). filter p v.rows) c.self.view_is

pub slice_bounds-result-end : goal.slice_bounds-result-end
slice_bounds-result-end g c =
    let at = searched_in g.T.Numbered.number c.args.number _ c.self.inside.slots.items _ c.as_slice-slots.ensures.value c.self.invariant c.slot_place.ensures in
    let inside = within g.T.Numbered.number c.args.number c.in-Some.place c.self.inside.slots.items (sym c.in-Some.is ∙ at) in
    sym (length-take-le (c.in-Some.place + 1) c.as_slice-slots.result.now (omega (arith, inside, ap length c.as_slice-slots.ensures.value)))

pub overflow_add-result : goal.overflow_add-result
overflow_add-result g c =
    let at = searched_in g.T.Numbered.number c.args.number _ c.self.inside.slots.items _ c.as_slice-slots.ensures.value c.self.invariant c.slot_place.ensures in
    let inside = within g.T.Numbered.number c.args.number c.in-Some.place c.self.inside.slots.items (sym c.in-Some.is ∙ at) in
    omega (arith, inside, ap length c.as_slice-slots.ensures.value, c.as_slice-slots.ensures.len, c.self.inside.slots.small)
