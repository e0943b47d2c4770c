use denote.Param.Send.{sendable}
use Rattle.seq_repository.proofs.Crossing.{repository_send}
use Rattle.batch_commands.specs.Turns.{pool_text}
use Rattle.batch_commands.proofs.Assembling.{pool_text_is}
use Rattle.batch_commands.proofs.run.run_pool.Goals as goal

pub pool_with_built_ins-ran-requires-send-J : goal.pool_with_built_ins-ran-requires-send-J
pool_with_built_ins-ran-requires-send-J g c κs within = search (repository_send, sendable) depth 60 fits 20000

pub returns : goal.returns
returns g c = (pool_text c.pool_with_built_ins-ran.result, pool_text_is c.pool_with_built_ins-ran.result, c.put_pool.ensures)
