use Rattle.std.proofs.Common.{◌≡◌, ◌==◌, drop}
use Rattle.records.proofs.Leaving.{left_by}
use Rattle.records.proofs.row_list.RowList.remove_all.Given as goal

abbrev pub invariant-loop-number : goal.invariant-loop-number
invariant-loop-number g l =
    left_by (λ n row. n == g.T.Numbered.number row) (drop l.number-index l.numbers) l.self.rows
    ≡ left_by (λ n row. n == g.T.Numbered.number row) l.numbers l.initial.self.rows
