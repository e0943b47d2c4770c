use Rattle.script_lines.specs.Unread.{weight}
use Rattle.script_engine.specs.Standing.{Stands}
use Rattle.script_engine.proofs.Running.{Standing}
use Rattle.script_engine.proofs.run.run.Given as goal

abbrev pub invariant-loop-commands : goal.invariant-loop-commands
invariant-loop-commands g l = Standing (Stands g.J.RowRepository.limit (g.J.RowRepository.rows l.repository)) (g.R.SourceInTurn.tape l.fn.reader) (g.R.SourceInTurn.tape l.reader) (g.W.Sink.tape l.fn.writer) (g.W.Sink.tape l.writer) l.output l.input l.summary

abbrev pub decreases-loop-commands : goal.decreases-loop-commands
decreases-loop-commands g l = weight l.input
