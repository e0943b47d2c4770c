use Rattle.std.proofs.Common.{◌<◌, ◌^◌, length, subst, arith, ◌∙◌, ap}
use Rattle.records.specs.Slots.{Rows, rows_in}
use Rattle.records.proofs.Slots.{rows_few}
use Rattle.records.proofs.row_list.RowList.reserve.Goals as goal

pub returns-clause-few : goal.returns-clause-few
returns-clause-few g c =
    let few = rows_few g.T.Numbered.number c.self.inside.slots.items in
    subst (λ (v : Rows g.row.T.Denot). length v.rows < 2 ^ 63) c.self.view_is (omega (arith, few, c.self.inside.slots.small))

pub returns-clause-rows : goal.returns-clause-rows
returns-clause-rows g c = ap rows_in c.in_ok-reserve.ensures.items ∙ ap (λ (v : Rows g.row.T.Denot). v.rows) c.self.view_is
