use Rattle.crc32c.proofs.Laws.{parts}
use Rattle.crc32c.proofs.law.parts_are_one.Goals as goal

pub returns : goal.returns
returns c check front back = parts check front back
