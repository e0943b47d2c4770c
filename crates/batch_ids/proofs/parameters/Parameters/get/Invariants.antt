use Rattle.std.proofs.Common.{◌≡◌, drop}
use Rattle.batch_ids.specs.Parameters.{value_of}
use Rattle.batch_ids.proofs.parameters.Parameters.get.Given as goal

abbrev pub invariant-loop-parameter : goal.invariant-loop-parameter
invariant-loop-parameter l = value_of (drop l.parameter-index l.parameter-items) l.key ≡ value_of l.parameter-items l.key
