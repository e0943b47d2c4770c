use Rattle.std.proofs.lemmas.Result.{err_from_is_err_and}
use Rattle.script_lines.proofs.Writing.{cut_short}
use Rattle.script_lines.proofs.output_buffer.OutputBuffer.put.Goals as goal

pub returns-in_err-flush-clause-err : goal.returns-in_err-flush-clause-err
returns-in_err-flush-clause-err g c =
    let r = err_from_is_err_and c.from_residual.result c.from_residual.ensures.1 in
    let f = c.in_err-flush.ensures in
    rw r.1 (cut_short (g.W.Sink.tape c.args.writer.now) (g.W.Sink.tape c.loop-rest.writer) (g.W.Sink.tape c.flush.new.writer) _ c.loop-rest.self c.loop-rest.rest.now _ c.room-room.result f.err.0 c.loop-rest.invariant c.append.ensures f.err.1)
