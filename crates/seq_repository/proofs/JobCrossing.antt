-- A job and a catalogue may be sent to other threads.
use denote.RattleType.{RattleType}
use denote.Param.Send.{IsSend, IsSync, sendable}
use Rattle.std.proofs.Crossing.{crosses}
use Rattle.std.proofs.MapsCrossing as maps
use Rattle.batch_ids.specs.contracts.text.Text as text
use Rattle.jsl_model.proofs.element.Body.TheLaws.TheKnot as knot
use Rattle.jsl_model.specs.contracts.catalogue.Catalogue as catalogue
use Rattle.jsl_model.specs.contracts.element.Element as element
use Rattle.jsl_model.specs.contracts.element_index.ElementIndex as index
use Rattle.jsl_model.specs.contracts.job.Job as job
use Rattle.jsl_model.specs.contracts.job.Shared as shared

pub text_send : (n : RattleType) → IsSend (text.the_row n)
text_send n = search (crosses, sendable) depth 60 fits 20000

text_sync : (n : RattleType) → IsSync (text.the_row n)
text_sync n = search (crosses, sendable) depth 60 fits 20000

element_send : IsSend element.the_row
element_send = search (text_send, crosses, knot.crosses, sendable) depth 60 fits 20000

element_sync : IsSync element.the_row
element_sync = search (text_sync, crosses, knot.crosses, sendable) depth 60 fits 20000

index_send : IsSend (index.the_field).row
index_send = search (text_send, maps.crosses, crosses, sendable) depth 60 fits 20000

index_sync : IsSync (index.the_field).row
index_sync = search (text_sync, maps.crosses, crosses, sendable) depth 60 fits 20000

shared_send : IsSend shared.the_row
shared_send = search (element_send, text_send, index_send, crosses, sendable) depth 60 fits 20000

shared_sync : IsSync shared.the_row
shared_sync = search (element_sync, text_sync, index_sync, crosses, sendable) depth 60 fits 20000

pub job_send : IsSend job.the_row
job_send = search (shared_send, shared_sync, crosses, sendable) depth 60 fits 20000

pub catalogue_send : IsSend catalogue.the_row
catalogue_send = search (job_send, crosses, sendable) depth 60 fits 20000
