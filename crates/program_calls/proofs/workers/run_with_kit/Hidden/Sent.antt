use denote.Param.Send.{sendable}
use denote.Param.Sent.{Sends}
use Rattle.std.proofs.Crossing.{crosses}
use Rattle.built_in_artifacts.proofs.Crossing.{artifact_send}
use Rattle.program_calls.proofs.workers.run_with_kit.OwnLists as lists

pub sends-part-1-1 : Sends lists.part-1-1
sends-part-1-1 = search (artifact_send, crosses, sendable) depth 60 fits 20000
