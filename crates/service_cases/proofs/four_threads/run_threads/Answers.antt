use denote.Param.Send.{sendable}
use Rattle.std.proofs.Crossing.{crosses}
use Rattle.batch_operator.proofs.operator.Operator.TheSendSync as operator_crosses
use Rattle.seq_repository.proofs.Crossing.{repository_send}
use Rattle.service_cases.proofs.four_threads.run_threads.Goals as goal

pub join-started-requires-send-F : goal.join-started-requires-send-F
join-started-requires-send-F g c κs within = search (operator_crosses.the_sync, repository_send, crosses, sendable) depth 60 fits 20000
