use Rattle.job_threads.proofs.Begun.{begins-some}
use Rattle.job_threads.proofs.item.begin_in.Goals as goal

pub returns-in-Some : goal.returns-in-Some
returns-in-Some g c = begins-some c.args.partition c.args.place c.in-Some.at c.begin.result _ _ c.in-Some.is c.requires c.begin.ensures
