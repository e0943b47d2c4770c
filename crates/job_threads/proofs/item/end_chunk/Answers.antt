use Rattle.job_threads.proofs.Ended.{end-refused, end-done}
use Rattle.job_threads.proofs.item.end_chunk.Goals as goal

pub returns-in-Err-finish-clause-chunk : goal.returns-in-Err-finish-clause-chunk
returns-in-Err-finish-clause-chunk g c = end-refused c.args.partition c.args.roles _ _ _ _ _ c.in-Ok.ending _ _ _ _ _ _ _ c.in-Ok.ensures.chunk c.in-Err-finish.ensures.reports c.in-Err-finish.ensures.stops

pub returns-in-Ok-finish-clause-chunk : goal.returns-in-Ok-finish-clause-chunk
returns-in-Ok-finish-clause-chunk g c = end-done c.args.partition c.args.roles _ _ _ _ _ c.in-Ok.ending _ _ _ _ _ _ _ _ _ _ c.in-Ok.ensures.chunk c.outcome-in-Ok-finish.ensures c.outcome.ensures c.counts.ensures c.in-Ok-finish.ensures.reports c.in-Ok-finish.ensures.stops
