use denote.Param.Send.{sendable}
use Rattle.std.proofs.Crossing.{crosses}
use Rattle.batch_operator.proofs.operator.Operator.TheSendSync as operator_crosses
use Rattle.worker_cases.proofs.refused_pools.print_pool.Goals as goal

pub pool_with_built_ins-requires-sync-G : goal.pool_with_built_ins-requires-sync-G
pool_with_built_ins-requires-sync-G g c κs within = search (operator_crosses.the_sync, crosses, sendable) depth 60 fits 20000
