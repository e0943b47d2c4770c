use Rattle.std.proofs.Common.{length, map}
use Rattle.durable_log.specs.Shown.{record_shown}
use Rattle.log_base.proofs.Added.{Added}
use Rattle.log_base.proofs.adding.add_lines.Given as goal

abbrev pub invariant-loop-rest : goal.invariant-loop-rest
invariant-loop-rest g l = Added (g.B.RowRestoration.rows l.initial.rows) (map record_shown l.lines) (map record_shown l.rest) (g.B.RowRestoration.rows l.rows)

abbrev pub decreases-loop-rest : goal.decreases-loop-rest
decreases-loop-rest g l = length l.rest
