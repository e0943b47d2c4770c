use Rattle.std.proofs.Common.{◌+◌, ◌++◌, length}
use Rattle.script_lines.proofs.Writing.{Sending}
use Rattle.script_lines.proofs.output_buffer.OutputBuffer.put.Given as goal

abbrev pub invariant-loop-rest : goal.invariant-loop-rest
invariant-loop-rest g l = Sending (g.W.Sink.tape l.fn.writer) (g.W.Sink.tape l.writer) (l.fn.self ++ l.text) l.self l.rest

abbrev pub decreases-loop-rest : goal.decreases-loop-rest
decreases-loop-rest g l = length l.rest + length l.self
