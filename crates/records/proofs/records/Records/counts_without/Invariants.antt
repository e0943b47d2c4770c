use Rattle.std.proofs.Common.{◌≡◌, ◌==◌}
use Rattle.batch_history.specs.Answers.{counts_of}
use Rattle.batch_history.specs.Rows.{executions_there}
use Rattle.records.specs.Left.{executions_left}
use Rattle.records.proofs.Tallies.{both}
use Rattle.records.proofs.records.Records.counts_without.Given as goal

abbrev pub invariant-loop-row : goal.invariant-loop-row
invariant-loop-row l =
    both (counts_of (executions_left l.row-iterator)) (counts_of (executions_there (λ j. j == l.fn.i) l.self.executions)) ≡ l.counts
