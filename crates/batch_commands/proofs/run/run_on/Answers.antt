use Rattle.batch_commands.proofs.Assembling.{not_opened}
use Rattle.batch_commands.proofs.run.run_on.Goals as goal

pub returns-in-Err : goal.returns-in-Err
returns-in-Err g c = not_opened _ _ _ _ _ _ _ _ _ c.in-Err.ensures.refused c.put_refusal.ensures
