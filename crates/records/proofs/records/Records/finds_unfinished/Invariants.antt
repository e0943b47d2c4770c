use Rattle.std.proofs.Common.{◌≡◌}
use Rattle.std.specs.List.{list_any}
use Rattle.batch_ids.specs.Statuses.{is_unfinished}
use Rattle.batch_history.specs.Replies.{row_status}
use Rattle.records.specs.Left.{executions_of, executions_left}
use Rattle.records.proofs.records.Records.finds_unfinished.Given as goal

abbrev pub invariant-loop-row : goal.invariant-loop-row
invariant-loop-row l =
    list_any (λ row. is_unfinished (row_status row)) (executions_left l.row-iterator)
    ≡ list_any (λ row. is_unfinished (row_status row)) (executions_of l.fn.i l.self.executions)
