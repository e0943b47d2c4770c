use Rattle.durable_log.proofs.Misplaced.{exchanged}
use Rattle.durable_log.proofs.law.exchanged_records_are_found.Goals as goal

pub returns : goal.returns
returns c front between back r q small near = exchanged front between back r q small near
