-- The record of a step in the past.
use Rattle.std.specs.Prelude.{List, [], ◌∷◌}
use Rattle.log_host.specs.Noted.{call_of}
use Rattle.file_host.specs.Steps.{Step, Did, Is, Stands, Wrote, Made, Ended}
use Rattle.file_host.specs.declared.steps.Answered.{Answered}
use Rattle.file_host.specs.declared.steps.Answered.TheVariants as answered
use Rattle.file_host.specs.declared.steps.History.{History}
use Rattle.file_host.specs.declared.steps.History.TheVariants as history

abbrev pub step_of : Answered → Step
step_of (answered.Did deed part ok) = Did deed part ok
step_of (answered.Is part device inode is_file) = Is part (device, (inode, is_file))
step_of (answered.Stands part device inode is_file) = Stands part (device, (inode, is_file))
step_of (answered.Wrote part at bytes ok) = Wrote part at bytes.now ok
step_of (answered.Made call) = Made (call_of call)
step_of (answered.Ended call) = Ended (call_of call)

abbrev pub steps_in : History → List Step
steps_in history.None = []
steps_in (history.Then before answered) = step_of answered ∷ before.now.past
