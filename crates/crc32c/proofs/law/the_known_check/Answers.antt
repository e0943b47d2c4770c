use Rattle.crc32c.proofs.Laws.{known}
use Rattle.crc32c.proofs.law.the_known_check.Goals as goal

pub returns : goal.returns
returns c = known
