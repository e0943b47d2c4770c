use Rattle.std.proofs.Common.{◌≡◌, ◌==◌, is_some, find, true, false, refl, sym, ◌∙◌, ap, subst, ◌<◌, length, ℕ}
use Rattle.batch_history.specs.Lists.{change_first}
use Rattle.records.specs.Slots.{Rows}
use Rattle.records.proofs.Slots.{searched_in, unplaced, put_slots, put_rows, within}
use Rattle.records.proofs.row_list.RowList.put.Goals as goal

pub invariant_of-self : goal.invariant_of-self
invariant_of-self g c =
    let at = searched_in g.T.Numbered.number c.args.number _ c.self.inside.slots.items _ c.as_slice.ensures.value c.self.invariant c.slot_place.ensures in
    put_slots g.T.Numbered.number c.args.number c.in-Some.place c.index_mut.result.now _ c.args.row c.self.inside.slots.items c.self.invariant
    (sym c.in-Some.is ∙ at) c.index_mut.ensures.value refl c.replace.ensures.after c.requires.same

pub unreachable-requires : goal.unreachable-requires
unreachable-requires g c =
    let at = searched_in g.T.Numbered.number c.args.number _ c.self.inside.slots.items _ c.as_slice.ensures.value c.self.invariant c.slot_place.ensures in
    let none = unplaced g.T.Numbered.number c.args.number c.self.inside.slots.items c.self.invariant (sym c.in-None.is ∙ at) in
    let there = subst (λ (v : Rows g.row.T.Denot). is_some (find (λ row. g.T.Numbered.number row == c.args.number) v.rows) ≡ true) (sym c.self.view_is) c.requires.there in
    let no : true ≡ false = sym there ∙ ap is_some (sym none) in
    cc

pub returns : goal.returns
returns g c =
    let at = searched_in g.T.Numbered.number c.args.number _ c.self.inside.slots.items _ c.as_slice.ensures.value c.self.invariant c.slot_place.ensures in
    let there = subst (λ (v : Rows g.row.T.Denot). is_some (find (λ row. g.T.Numbered.number row == c.args.number) v.rows) ≡ true) (sym c.self.view_is) c.requires.there in
    put_rows g.T.Numbered.number c.args.number c.in-Some.place _ c.args.row c.self.inside.slots.items c.self.invariant (sym c.in-Some.is ∙ at) c.replace.ensures.after there
    ∙ ap (λ (v : Rows g.row.T.Denot). change_first (λ one. g.T.Numbered.number one == c.args.number) (λ old. c.args.row) v.rows) c.self.view_is

pub index_mut-requires : goal.index_mut-requires
index_mut-requires g c =
    let at = searched_in g.T.Numbered.number c.args.number _ c.self.inside.slots.items _ c.as_slice.ensures.value c.self.invariant c.slot_place.ensures in
    subst (λ (n : ℕ). c.in-Some.place < n) (sym (ap length c.as_slice.ensures.value) ∙ c.as_slice.ensures.len)
    (within g.T.Numbered.number c.args.number c.in-Some.place c.self.inside.slots.items (sym c.in-Some.is ∙ at))
