use Rattle.std.proofs.Common.{◌≡◌, false, take}
use Rattle.script_lines.specs.Cut.{has_feed}
use Rattle.script_lines.proofs.line.feed_at.Given as goal

abbrev pub invariant-loop-i : goal.invariant-loop-i
invariant-loop-i l = has_feed (take l.i l.bytes) ≡ false
