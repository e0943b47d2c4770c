use Rattle.std.proofs.Common.{◌≡◌, ◌++◌}
use Rattle.batch_history.specs.Answers.{running_executions}
use Rattle.records.specs.Slots.{rows_left}
use Rattle.records.proofs.running.running_searched.Given as goal

abbrev pub invariant-loop-row : goal.invariant-loop-row
invariant-loop-row l = l.found.items ++ running_executions l.name (rows_left l.row-iterator) ≡ running_executions l.name l.rows.rows
