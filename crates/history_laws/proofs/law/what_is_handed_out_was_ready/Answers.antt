use Rattle.history_laws.proofs.Handing.{handed_ready}
use Rattle.history_laws.proofs.law.what_is_handed_out_was_ready.Goals as goal

pub returns : goal.returns
returns c = handed_ready
