use Rattle.batch_commands.proofs.Checking.{told}
use Rattle.batch_commands.proofs.check.tell_checked.Goals as goal

pub returns : goal.returns
returns g c = λ line shown. told line _ _ _ _ _ _ c.ended.ensures (c.in_ok-checked.ensures line shown) c.tell_text-told.ensures
