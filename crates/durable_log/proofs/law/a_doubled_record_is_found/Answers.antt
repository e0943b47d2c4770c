use Rattle.durable_log.proofs.Misplaced.{doubled}
use Rattle.durable_log.proofs.law.a_doubled_record_is_found.Goals as goal

pub returns : goal.returns
returns c front back r small = doubled front back r small
