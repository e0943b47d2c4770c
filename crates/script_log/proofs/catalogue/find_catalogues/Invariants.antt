use Rattle.std.proofs.Common.{length, map}
use Rattle.durable_log.specs.Shown.{record_shown}
use Rattle.script_log.specs.Catalogues.{last_shown}
use Rattle.script_log.proofs.Catalogued.{Walked}
use Rattle.script_log.proofs.catalogue.find_catalogues.Given as goal

abbrev pub invariant-loop-rest : goal.invariant-loop-rest
invariant-loop-rest l = Walked (map record_shown l.records) (map record_shown l.rest) (last_shown l.last)

abbrev pub decreases-loop-rest : goal.decreases-loop-rest
decreases-loop-rest l = length l.rest
