use denote.Param.Send.{sendable}
use Rattle.std.proofs.Crossing.{crosses}
use Rattle.batch_operator.proofs.operator.Operator.TheSendSync as operator_crosses
use Rattle.seq_repository.proofs.Crossing.{repository_send}
use Rattle.service_cases.proofs.four_threads.one_works.Goals as goal

pub join-of_one-requires-send-F : goal.join-of_one-requires-send-F
join-of_one-requires-send-F g c κs within = search (operator_crosses.the_sync, repository_send, crosses, sendable) depth 60 fits 20000
