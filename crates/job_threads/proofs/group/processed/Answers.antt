use Rattle.job_threads.proofs.Turns.{processed-some}
use Rattle.job_threads.proofs.group.processed.Goals as goal

pub returns-in-Some : goal.returns-in-Some
returns-in-Some g c = processed-some _ _ _ _ _ _ _ c.in-Some.is c.as_str.ensures.value c.requires c.process.ensures
