use Rattle.std.proofs.Common.{◌++◌, ◌∷◌, [], List, sym, ◌∙◌, ap, ◌<◌, subst, arith}
use Rattle.records.specs.Slots.{Rows}
use Rattle.records.proofs.Slots.{push_slots, push_rows}
use Rattle.records.proofs.row_list.RowList.push_reserved.Goals as goal

pub invariant_of-self : goal.invariant_of-self
invariant_of-self g c =
    push_slots g.T.Numbered.number c.number-number.result c.args.row _ _ c.push_reserved.ensures.items (sym c.number-number.ensures) c.drop_from.ensures.slots c.drop_from.ensures.above

pub returns : goal.returns
returns g c =
    push_rows g.T.Numbered.number c.number-number.result c.args.row _ _ c.push_reserved.ensures.items
    ∙ (ap (λ (l : List g.row.T.Denot). l ++ c.args.row ∷ []) c.drop_from.ensures.rows ∙ ap (λ (v : Rows g.row.T.Denot). v.rows ++ c.args.row ∷ []) c.self.view_is)

pub drop_from-requires-clause-room : goal.drop_from-requires-clause-room
drop_from-requires-clause-room g c =
    let room = subst (λ (v : Rows g.row.T.Denot). 0 < v.room) (sym c.self.view_is) c.requires.room in
    omega (arith, room)
