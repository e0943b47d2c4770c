use denote.Param.Send.{sendable}
use Rattle.seq_repository.proofs.Crossing.{repository_send}
use Rattle.refused_calls.proofs.run_kind.Goals as goal

pub run_pools-requires-send-J : goal.run_pools-requires-send-J
run_pools-requires-send-J g c κs within = search (repository_send, sendable) depth 60 fits 20000
