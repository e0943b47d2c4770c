use Rattle.durable_log.proofs.Misplaced.{out-of-place}
use Rattle.durable_log.proofs.law.a_record_out_of_place_is_found.Goals as goal

pub returns : goal.returns
returns c front others r rest small here apart = out-of-place front others r rest small here apart
