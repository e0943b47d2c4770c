use denote.Param.Send.{sendable}
use Rattle.std.proofs.Crossing.{crosses}
use Rattle.batch_operator.proofs.operator.Operator.TheSendSync as operator_crosses
use Rattle.seq_repository.proofs.Crossing.{repository_send}
use Rattle.service_tests.proofs.crowds.eight_claim.Goals as goal

pub map_indices-requires-sync-F : goal.map_indices-requires-sync-F
map_indices-requires-sync-F g c κs within = search (operator_crosses.the_sync, repository_send, crosses, sendable) depth 60 fits 20000
