use Rattle.job_threads.proofs.Finishing.{item_finishes}
use Rattle.job_threads.proofs.working.run_or_lose.Goals as goal

pub returns-in-Ok-clause-finished : goal.returns-in-Ok-clause-finished
returns-in-Ok-clause-finished g c = item_finishes c.args.item.now _ c.args.item.now.task c.in-Ok.outcome _ _ _ _ _ c.in-Ok.ensures.item
