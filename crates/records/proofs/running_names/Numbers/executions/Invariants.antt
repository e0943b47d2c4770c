use Rattle.std.proofs.Common.{◌≡◌, ◌++◌}
use Rattle.records.proofs.running_names.Numbers.executions.Given as goal

abbrev pub invariant-loop-number : goal.invariant-loop-number
invariant-loop-number l = l.found.items ++ l.number-iterator ≡ l.self
