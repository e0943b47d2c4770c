use Rattle.std.proofs.Common.{length, map}
use Rattle.durable_log.specs.Shown.{record_shown}
use Rattle.script_log.proofs.Based.{Along}
use Rattle.script_log.proofs.base.base_length.Given as goal

abbrev pub invariant-loop-rest : goal.invariant-loop-rest
invariant-loop-rest l = Along (map record_shown l.records) (map record_shown l.rest)

abbrev pub decreases-loop-rest : goal.decreases-loop-rest
decreases-loop-rest l = length l.rest
