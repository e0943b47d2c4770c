use Rattle.history_laws.proofs.StepOutcomes.{has_result}
use Rattle.history_laws.proofs.partitions.partitioned_steps_have_the_outcome_of_the_walk.Goals as goal

pub returns : goal.returns
returns c = has_result
