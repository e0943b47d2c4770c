-- A repository may be sent to other threads.
use denote.RattleType.{RattleType}
use denote.Param.Send.{IsSend, sendable}
use Rattle.std.proofs.Crossing.{crosses}
use Rattle.std.proofs.MapsCrossing as maps
use Rattle.std.proofs.MapsCrossingOver as sets
use Rattle.walk_rules.proofs.facts.Known.TheSendSync as known_crosses
use Rattle.job_walk.proofs.kept_list.KeptList.TheSendSync as list_crosses
use Rattle.job_walk.specs.contracts.cursor.Cursor as cursor
use Rattle.seq_repository.specs.contracts.repository.Repository as repository
use Rattle.seq_repository.proofs.JobCrossing.{job_send, catalogue_send}
use Rattle.seq_repository.proofs.RowsCrossing.{records_send}

cursor_send : IsSend cursor.the_row
cursor_send = search (job_send, known_crosses.the_send, list_crosses.the_send, crosses, sendable) depth 60 fits 20000

pub repository_send : (L : RattleType) → IsSend (repository.the_row L)
repository_send L = search (catalogue_send, cursor_send, records_send, maps.crosses, sets.crosses, crosses, sendable) depth 60 fits 20000
