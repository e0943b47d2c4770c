use Rattle.crc32c.proofs.Laws.{one-byte}
use Rattle.crc32c.proofs.law.one_byte_is_seen.Goals as goal

pub returns : goal.returns
returns c check front back a b small as_ bs is = one-byte check front back a b small as_ bs is
