use Rattle.history_laws.proofs.Handing.{handed_open}
use Rattle.history_laws.proofs.law.no_work_is_of_a_carried_or_barred_step.Goals as goal

pub returns : goal.returns
returns c = handed_open
