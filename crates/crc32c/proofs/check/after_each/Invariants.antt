use Rattle.std.proofs.Common.{◌≡◌, drop}
use Rattle.crc32c.specs.Check.{after_bytes}
use Rattle.crc32c.proofs.check.after_each.Given as goal

abbrev pub invariant-loop-byte : goal.invariant-loop-byte
invariant-loop-byte l = after_bytes l.now (drop l.byte-index l.bytes) ≡ after_bytes l.fn.state l.bytes
