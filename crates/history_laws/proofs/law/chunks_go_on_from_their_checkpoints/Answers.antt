use Rattle.history_laws.proofs.Handing.{handed_from}
use Rattle.history_laws.proofs.law.chunks_go_on_from_their_checkpoints.Goals as goal

pub returns : goal.returns
returns c = handed_from
