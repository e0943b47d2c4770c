use Rattle.std.proofs.Common.{take}
use Rattle.batch_history.specs.Lists.{Each}
use Rattle.logged_script.specs.Compactions.{MayLeave}
use Rattle.logged_script.proofs.jobs_left.first_left.Given as goal

abbrev pub invariant-loop-number : goal.invariant-loop-number
invariant-loop-number g l = Each (MayLeave (g.J.RowRepository.rows l.repository) l.given) (take l.number l.kept)
