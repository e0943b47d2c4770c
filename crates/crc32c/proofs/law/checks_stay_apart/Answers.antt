use Rattle.crc32c.proofs.Laws.{checks-same}
use Rattle.crc32c.proofs.law.checks_stay_apart.Goals as goal

pub returns : goal.returns
returns c check other bytes small also is = checks-same check other bytes small also is
