use Rattle.script_lines.proofs.Growing.{Growing}
use Rattle.script_lines.proofs.input_buffer.InputBuffer.line_alone.Given as goal

abbrev pub invariant-reads : goal.invariant-reads
invariant-reads g l = Growing (g.S.Source.tape l.fn.source) (g.S.Source.tape l.source) l.fn.self l.self l.part

abbrev pub decreases-reads : goal.decreases-reads
decreases-reads g l = l.self.reads_left
