use Rattle.std.proofs.Common.{length, ◌-◌, ◌≤◌}
use Rattle.script_lines.proofs.buffer.new_buffer.Given as goal

abbrev pub invariant-loop-block : goal.invariant-loop-block
invariant-loop-block l = length l.buffer.items ≤ l.size

abbrev pub decreases-loop-block : goal.decreases-loop-block
decreases-loop-block l = l.size - length l.buffer.items
