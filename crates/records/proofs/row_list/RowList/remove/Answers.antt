use Rattle.std.proofs.Common.{◌==◌, not, filter, refl, sym, ◌∙◌, ap, ◌<◌, length, subst, ℕ}
use Rattle.records.specs.Slots.{Rows}
use Rattle.records.proofs.Slots.{searched_in, empty_slots, empty_rows, absent_rows, without, within}
use Rattle.records.proofs.row_list.RowList.remove.Goals as goal

pub invariant_of-self : goal.invariant_of-self
invariant_of-self g c =
    let at = searched_in g.T.Numbered.number c.args.number _ c.self.inside.slots.items _ c.as_slice.ensures.value c.self.invariant c.slot_place.ensures in
    empty_slots g.T.Numbered.number c.args.number c.in-Some.place c.index_mut.result.now _ c.self.inside.slots.items c.self.invariant
    (sym c.in-Some.is ∙ at) c.index_mut.ensures.value refl c.take.ensures.after

pub returns-in-Some : goal.returns-in-Some
returns-in-Some g c =
    let at = searched_in g.T.Numbered.number c.args.number _ c.self.inside.slots.items _ c.as_slice.ensures.value c.self.invariant c.slot_place.ensures in
    empty_rows g.T.Numbered.number c.args.number c.in-Some.place c.index_mut.result.now _ c.self.inside.slots.items c.self.invariant
    (sym c.in-Some.is ∙ at) c.index_mut.ensures.value c.take.ensures.after
    ∙ (without g.T.Numbered.number c.args.number _
    ∙ ap (λ (v : Rows g.row.T.Denot). filter (λ row. not (c.args.number == g.T.Numbered.number row)) v.rows) c.self.view_is)

pub returns-in_default : goal.returns-in_default
returns-in_default g c =
    let at = searched_in g.T.Numbered.number c.args.number _ c.self.inside.slots.items _ c.as_slice.ensures.value c.self.invariant c.slot_place.ensures in
    ap (λ (v : Rows g.row.T.Denot). v.rows) (sym c.self.view_is)
    ∙ (absent_rows g.T.Numbered.number c.args.number c.self.inside.slots.items c.self.invariant (sym c.in_default.is ∙ at)
    ∙ (without g.T.Numbered.number c.args.number _
    ∙ ap (λ (v : Rows g.row.T.Denot). filter (λ row. not (c.args.number == g.T.Numbered.number row)) v.rows) c.self.view_is))

pub index_mut-requires : goal.index_mut-requires
index_mut-requires g c =
    let at = searched_in g.T.Numbered.number c.args.number _ c.self.inside.slots.items _ c.as_slice.ensures.value c.self.invariant c.slot_place.ensures in
    subst (λ (n : ℕ). c.in-Some.place < n) (sym (ap length c.as_slice.ensures.value) ∙ c.as_slice.ensures.len)
    (within g.T.Numbered.number c.args.number c.in-Some.place c.self.inside.slots.items (sym c.in-Some.is ∙ at))
