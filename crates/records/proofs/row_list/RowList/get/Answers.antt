use Rattle.std.proofs.Common.{◌==◌, ◌<◌, ◌^◌, find, length, sym, ◌∙◌, ap, subst, arith, ℕ}
use Rattle.std.specs.Option.{option_copied}
use Rattle.records.specs.Slots.{Rows}
use Rattle.records.proofs.Slots.{searched_in, unplaced, placed, rows_few, within}
use Rattle.records.proofs.row_list.RowList.get.Goals as goal

pub returns-in_err-place-clause-row : goal.returns-in_err-place-clause-row
returns-in_err-place-clause-row g c =
    let at = searched_in g.T.Numbered.number c.args.number _ c.self.inside.slots.items _ c.as_slice.ensures.value c.self.invariant c.slot_place.ensures in
    ap option_copied c.from_residual.ensures
    ∙ (unplaced g.T.Numbered.number c.args.number c.self.inside.slots.items c.self.invariant (sym c.in_err-place.was ∙ at)
    ∙ ap (λ (v : Rows g.row.T.Denot). find (λ row. g.T.Numbered.number row == c.args.number) v.rows) c.self.view_is)

pub returns-clause-row : goal.returns-clause-row
returns-clause-row g c =
    let at = searched_in g.T.Numbered.number c.args.number _ c.self.inside.slots.items _ c.as_slice.ensures.value c.self.invariant c.slot_place.ensures in
    c.as_ref.ensures.value
    ∙ (placed g.T.Numbered.number c.args.number c.in_ok-place.place c.index.result.now c.self.inside.slots.items c.self.invariant (sym c.in_ok-place.was ∙ at) c.index.ensures
    ∙ ap (λ (v : Rows g.row.T.Denot). find (λ row. g.T.Numbered.number row == c.args.number) v.rows) c.self.view_is)

pub returns-in_err-place-clause-few : goal.returns-in_err-place-clause-few
returns-in_err-place-clause-few g c =
    let few = rows_few g.T.Numbered.number c.self.inside.slots.items in
    subst (λ (v : Rows g.row.T.Denot). length v.rows < 2 ^ 63) c.self.view_is (omega (arith, few, c.as_slice.ensures.len, ap length c.as_slice.ensures.value, c.self.inside.slots.small))

pub returns-clause-few : goal.returns-clause-few
returns-clause-few g c =
    let few = rows_few g.T.Numbered.number c.self.inside.slots.items in
    subst (λ (v : Rows g.row.T.Denot). length v.rows < 2 ^ 63) c.self.view_is (omega (arith, few, c.as_slice.ensures.len, ap length c.as_slice.ensures.value, c.self.inside.slots.small))

pub index-requires : goal.index-requires
index-requires g c =
    let at = searched_in g.T.Numbered.number c.args.number _ c.self.inside.slots.items _ c.as_slice.ensures.value c.self.invariant c.slot_place.ensures in
    subst (λ (n : ℕ). c.in_ok-place.place < n) (sym (ap length c.as_slice.ensures.value) ∙ c.as_slice.ensures.len)
    (within g.T.Numbered.number c.args.number c.in_ok-place.place c.self.inside.slots.items (sym c.in_ok-place.was ∙ at))
