use Rattle.std.proofs.Common.{length, map}
use Rattle.durable_log.specs.Shown.{record_shown}
use Rattle.script_log.proofs.Based.{Past}
use Rattle.script_log.proofs.base.first_of_base.Given as goal

abbrev pub invariant-loop-rest : goal.invariant-loop-rest
invariant-loop-rest l = Past (map record_shown l.records) (map record_shown l.rest)

abbrev pub decreases-loop-rest : goal.decreases-loop-rest
decreases-loop-rest l = length l.rest
