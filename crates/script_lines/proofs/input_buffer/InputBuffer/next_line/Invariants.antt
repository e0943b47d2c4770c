use Rattle.script_lines.proofs.Growing.{Growing, Passing}
use Rattle.script_lines.proofs.input_buffer.InputBuffer.next_line.Given as goal

abbrev pub invariant-reads : goal.invariant-reads
invariant-reads g l = record {
  growing : Growing (g.S.SourceInTurn.tape l.fn.source) (g.S.SourceInTurn.tape l.source) l.fn.self l.self l.part;
  passing : Passing (g.S.SourceInTurn.tape l.fn.source) (g.S.SourceInTurn.tape l.source) (g.W.Sink.tape l.fn.writer) (g.W.Sink.tape l.writer) l.fn.output l.output;
}

abbrev pub decreases-reads : goal.decreases-reads
decreases-reads g l = l.self.reads_left
