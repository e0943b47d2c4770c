use Rattle.std.proofs.Common.{◌≡◌, ◌==◌, drop}
use Rattle.std.specs.List.{list_any}
use Rattle.batch_history.specs.declared.rows.WorkRow.{WorkRow}
use Rattle.records.specs.Indexes.{numbers_under}
use Rattle.records.proofs.Leaving.{left_by}
use Rattle.records.proofs.records.remove_works.Given as goal

abbrev pub invariant-loop-x : goal.invariant-loop-x
invariant-loop-x l =
    left_by (λ x (row : WorkRow). list_any (λ n. n == row.work) (numbers_under l.by_execution x)) (drop l.x-index l.executions) l.works.rows
    ≡ left_by (λ x (row : WorkRow). list_any (λ n. n == row.work) (numbers_under l.by_execution x)) l.executions l.initial.works.rows
