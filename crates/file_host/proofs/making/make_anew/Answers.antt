use Rattle.file_host.proofs.Makings.{at-opening}
use Rattle.file_host.proofs.making.make_anew.Goals as goal

pub returns-in_err-keep-clause-any_moment : goal.returns-in_err-keep-clause-any_moment
returns-in_err-keep-clause-any_moment g c = at-opening _ _ c.keep.ensures.opening
