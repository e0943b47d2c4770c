use Rattle.catalogue_checks.proofs.Judging.{is_too_long}
use Rattle.catalogue_checks.proofs.check.tell_too_long.Goals as goal

pub returns : goal.returns
returns c = λ line above. is_too_long line c.in_ok-checked.checked above c.in_ok-checked.ensures.text c.in_ok-checked.ensures.fault
