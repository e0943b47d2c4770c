use Rattle.job_threads.proofs.Opened.{chunk-unopened}
use Rattle.job_threads.proofs.Begun.{roles-within, some-within}
use Rattle.job_threads.proofs.Ended.{chunk-begun, chunk-some}
use Rattle.job_threads.proofs.item.run_chunk.Goals as goal

pub run_opened-requires-clause-within : goal.run_opened-requires-clause-within
run_opened-requires-clause-within g c = roles-within c.args.partition c.in-Some.roles _ _ c.in-Ok.ensures (some-within c.args.roles c.in-Some.roles _ c.in-Some.is c.requires.within)

pub returns-in-Err-clause-chunk : goal.returns-in-Err-clause-chunk
returns-in-Err-clause-chunk g c = chunk-some c.args.partition c.args.roles c.in-Some.roles _ _ _ _ _ _ _ _ _ _ _ c.in-Some.is (chunk-unopened c.in-Some.roles _ _ c.args.chunk.now.execution _ _ _ _ _ (g.P.Port.stops c.args.port.now) c.in-Err.ensures.0 c.in-Err.ensures.1)

pub returns-in-Ok-clause-chunk : goal.returns-in-Ok-clause-chunk
returns-in-Ok-clause-chunk g c = chunk-some c.args.partition c.args.roles c.in-Some.roles _ _ _ _ _ c.run_opened.result _ _ _ _ _ c.in-Some.is (chunk-begun c.args.partition c.in-Some.roles _ _ _ _ _ c.run_opened.result _ _ _ _ _ _ c.in-Ok.ensures c.run_opened.ensures.groups)
