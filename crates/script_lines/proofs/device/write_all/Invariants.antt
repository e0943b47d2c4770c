use Rattle.std.proofs.Common.{length, ◌-◌, ◌≡◌, ◌≤◌, take}
use Rattle.script_lines.specs.Device.{Takes}
use Rattle.script_lines.proofs.device.write_all.Given as goal

abbrev pub invariant-loop-at : goal.invariant-loop-at
invariant-loop-at g l = record {
  within : l.at ≤ length l.bytes;
  held : Takes (g.W.Sink.tape l.fn.writer) (g.W.Sink.tape l.writer) (take l.at l.bytes);
  quiet : (g.W.Sink.tape l.writer).failures ≡ (g.W.Sink.tape l.fn.writer).failures;
}

abbrev pub decreases-loop-at : goal.decreases-loop-at
decreases-loop-at g l = length l.bytes - l.at
