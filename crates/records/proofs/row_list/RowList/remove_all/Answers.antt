use Rattle.std.proofs.Common.{◌==◌, ◌+◌, drop, arith, sym, ◌∙◌, ap}
use Rattle.records.proofs.Leaving.{left_by, less_at, none_left}
use Rattle.records.proofs.row_list.RowList.remove_all.Goals as goal

pub loop-number-preserved : goal.loop-number-preserved
loop-number-preserved g c =
    ap (left_by (λ n row. n == g.T.Numbered.number row) (drop (c.loop-number.number-index + 1) c.args.numbers.now)) c.remove.ensures
    ∙ (less_at (λ n row. n == g.T.Numbered.number row) c.args.numbers.now c.loop-number.number-index _ _ c.loop-number.self.rows (omega arith) c.loop-number-test.true
    ∙ c.loop-number.invariant)

pub returns : goal.returns
returns g c =
    sym (none_left (λ n row. n == g.T.Numbered.number row) c.args.numbers.now c.loop-number.number-index c.loop-number.self.rows c.loop-number-test.false) ∙ c.loop-number.invariant
