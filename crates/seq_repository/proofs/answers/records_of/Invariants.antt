use Rattle.std.proofs.Common.{◌≡◌, ◌++◌, map}
use Rattle.batch_history.specs.Answers.{record_of}
use Rattle.records.specs.Left.{executions_of, executions_left}
use Rattle.seq_repository.proofs.answers.records_of.Given as goal

abbrev pub invariant-loop-row : goal.invariant-loop-row
invariant-loop-row l = l.found.items ++ map record_of (executions_left l.row-iterator) ≡ map record_of (executions_of l.fn.i l.rows.executions)
