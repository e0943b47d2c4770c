use Rattle.std.proofs.Common.{ℕ, ◌==◌, ◌+◌, Bool, List, not, filter, drop, arith, sym, ◌∙◌, ap}
use Rattle.std.specs.List.{list_any}
use Rattle.batch_history.specs.declared.rows.WorkRow.{WorkRow}
use Rattle.records.specs.Indexes.{numbers_under}
use Rattle.records.proofs.Leaving.{left_by, less_at, none_left}
use Rattle.records.proofs.records.remove_works.Goals as goal

pub loop-x-preserved : goal.loop-x-preserved
loop-x-preserved c =
    let has : ℕ → WorkRow → Bool = λ x row. list_any (λ n. n == row.work) (numbers_under c.args.by_execution.now x) in
    ap (left_by has (drop (c.loop-x.x-index + 1) c.args.executions.now))
    (c.remove_all.ensures ∙ ap (λ (ns : List ℕ). filter (λ (row : WorkRow). not (list_any (λ n. n == row.work) ns)) c.loop-x.works.rows) c.under.ensures)
    ∙ (less_at has c.args.executions.now c.loop-x.x-index _ _ c.loop-x.works.rows (omega arith) c.loop-x-test.true ∙ c.loop-x.invariant)

pub returns : goal.returns
returns c =
    let has : ℕ → WorkRow → Bool = λ x row. list_any (λ n. n == row.work) (numbers_under c.args.by_execution.now x) in
    sym (none_left has c.args.executions.now c.loop-x.x-index c.loop-x.works.rows c.loop-x-test.false) ∙ c.loop-x.invariant
