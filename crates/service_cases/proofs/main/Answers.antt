use denote.Param.Send.{sendable}
use Rattle.seq_repository.proofs.Crossing.{repository_send}
use Rattle.service_cases.proofs.main.Goals as goal

pub print_workers-requires-send-J : goal.print_workers-requires-send-J
print_workers-requires-send-J c κs within = search (repository_send, sendable) depth 60 fits 20000
