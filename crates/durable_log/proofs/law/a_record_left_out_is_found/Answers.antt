use Rattle.durable_log.proofs.Misplaced.{left-out}
use Rattle.durable_log.proofs.law.a_record_left_out_is_found.Goals as goal

pub returns : goal.returns
returns c front back r next small = left-out front back r next small
