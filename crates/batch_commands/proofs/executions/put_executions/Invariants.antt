use Rattle.batch_commands.proofs.Listing.{Listing}
use Rattle.batch_commands.proofs.executions.put_executions.Given as goal

abbrev pub invariant-loop-place : goal.invariant-loop-place
invariant-loop-place g l =
    Listing g.N.Site.place.catalogue l.fn.session l.session l.place (g.W.Sink.tape l.fn.writer) l.fn.output (g.W.Sink.tape l.writer) l.output
