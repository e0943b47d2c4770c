-- Rows may be sent to other threads.
use denote.Param.Send.{IsSend, sendable}
use Rattle.std.proofs.Crossing.{crosses}
use Rattle.std.proofs.MapsCrossing as maps
use Rattle.std.proofs.MapsCrossingOver as sets
use Rattle.batch_history.proofs.rows.JobInstance.TheSendSync as instance_crosses
use Rattle.batch_history.proofs.rows.ExecutionRow.TheSendSync as execution_crosses
use Rattle.batch_history.proofs.rows.WorkRow.TheSendSync as work_crosses
use Rattle.batch_history.proofs.rows.CheckpointRow.TheSendSync as checkpoint_crosses
use Rattle.record_lists.specs.contracts.checkpoint_lists.CheckpointLists as checkpoints
use Rattle.record_lists.specs.contracts.name_lists.NameLists as names
use Rattle.records.specs.contracts.number_lists.NumberLists as numbers
use Rattle.records.specs.contracts.step_lists.StepLists as steps
use Rattle.records.specs.contracts.records.Records as records
use Rattle.records.specs.contracts.running_names.Numbers as running_numbers
use Rattle.records.specs.contracts.running_names.RunningNames as running_names

checkpoints_send : IsSend checkpoints.the_row
checkpoints_send = search (checkpoint_crosses.the_send, maps.crosses, sets.crosses, crosses, sendable) depth 60 fits 20000

names_send : IsSend (names.the_field).row
names_send = search (crosses, sendable) depth 60 fits 20000

numbers_send : IsSend (numbers.the_field).row
numbers_send = search (crosses, sendable) depth 60 fits 20000

running_numbers_send : IsSend running_numbers.the_row
running_numbers_send = search (maps.crosses, sets.crosses, crosses, sendable) depth 60 fits 20000

running_names_send : IsSend (running_names.the_field).row
running_names_send = search (running_numbers_send, crosses, sendable) depth 60 fits 20000

steps_send : IsSend (steps.the_field).row
steps_send = search (names_send, crosses, sendable) depth 60 fits 20000

pub records_send : IsSend records.the_row
records_send = search (checkpoints_send, names_send, numbers_send, running_names_send, steps_send, instance_crosses.the_send, execution_crosses.the_send, work_crosses.the_send, checkpoint_crosses.the_send, crosses, sendable) depth 60 fits 20000
