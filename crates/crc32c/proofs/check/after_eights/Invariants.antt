use Rattle.std.proofs.Common.{◌≡◌, length}
use Rattle.crc32c.specs.Check.{after_bytes}
use Rattle.crc32c.proofs.check.after_eights.Given as goal

abbrev pub invariant-loop-left : goal.invariant-loop-left
invariant-loop-left l = after_bytes l.now l.left ≡ after_bytes l.fn.state l.bytes

abbrev pub decreases-loop-left : goal.decreases-loop-left
decreases-loop-left l = length l.left
