use Rattle.std.proofs.Common.{◌≢◌, ◌∙◌, arith, rules}
use Rattle.script_lines.proofs.Writing.{wrote, rest_of}
use Rattle.script_lines.proofs.device.write_all.Goals as goal

pub loop-at-preserved : goal.loop-at-preserved
loop-at-preserved g c =
    let nz : c.in_ok-n.n ≢ 0 = omega arith in
    let w = wrote (g.W.Sink.tape c.args.writer.now) (g.W.Sink.tape c.loop-at.writer) _ c.args.bytes.now _ c.loop-at.at c.in_ok-n.n nz (rest_of c.args.bytes.now c.loop-at.at) c.loop-at.invariant.held c.in_ok-n.ensures.tape c.in_ok-n.ensures.gained in
    record {
      within = search rules;
      held = w.0;
      quiet = w.1 ∙ c.loop-at.invariant.quiet;
    }
