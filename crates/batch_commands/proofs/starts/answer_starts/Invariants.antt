use Rattle.script_lines.specs.Unread.{weight}
use Rattle.batch_commands.proofs.Starting.{Starting}
use Rattle.batch_commands.proofs.starts.answer_starts.Given as goal

abbrev pub invariant-loop-line : goal.invariant-loop-line
invariant-loop-line g l =
    Starting g.N.Site.place.catalogue l.fn.session l.session (g.S.Source.tape l.fn.source) l.fn.input (g.S.Source.tape l.source) l.input (g.W.Sink.tape l.fn.writer) l.fn.output (g.W.Sink.tape l.writer) l.output l.started

abbrev pub decreases-loop-line : goal.decreases-loop-line
decreases-loop-line g l = weight l.input
