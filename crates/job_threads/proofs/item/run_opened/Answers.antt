use Rattle.job_threads.proofs.Opened.{chunk-opened, chunk-unopened}
use Rattle.job_threads.proofs.item.run_opened.Goals as goal

pub returns-in-Err-clause-groups : goal.returns-in-Err-clause-groups
returns-in-Err-clause-groups g c = chunk-unopened c.args.roles _ _ c.args.chunk.now.execution _ _ _ _ _ (g.P.Port.stops c.args.port.now) c.in-Err.ensures.0 c.in-Err.ensures.1

pub returns-in-Ok-clause-groups : goal.returns-in-Ok-clause-groups
returns-in-Ok-clause-groups g c = chunk-opened c.args.roles _ _ _ _ _ c.run_groups.result _ _ _ _ _ _ c.in-Ok.ensures c.run_groups.ensures.groups
