-- A built-in artifact may be sent to another thread.
use denote.RattleType.{RattleType}
use denote.Param.Send.{IsSend, sendable}
use Rattle.std.proofs.Crossing.{crosses}
use Rattle.batch_ids.specs.contracts.text.Text as text
use Rattle.built_in_artifacts.specs.contracts.built_in_artifact.BuiltInArtifact as artifact

text_send : (n : RattleType) → IsSend (text.the_row n)
text_send n = search (crosses, sendable) depth 60 fits 20000

pub artifact_send : IsSend artifact.the_row
artifact_send = search (text_send, crosses, sendable) depth 60 fits 20000
