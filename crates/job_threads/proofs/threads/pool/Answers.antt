use denote.Param.Send.{sendable}
use Rattle.std.proofs.Crossing.{crosses}
use Rattle.batch_operator.proofs.operator.Operator.TheSendSync as operator_crosses
use Rattle.job_threads.proofs.threads.pool.Goals as goal

pub map_vec-requires-sync-F : goal.map_vec-requires-sync-F
map_vec-requires-sync-F g c κs within = search (operator_crosses.the_sync, crosses, sendable) depth 60 fits 20000
