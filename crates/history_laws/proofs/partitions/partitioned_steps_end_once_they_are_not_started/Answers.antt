use Rattle.history_laws.proofs.StepAnswers.{steps_answered}
use Rattle.history_laws.proofs.StepMoments.{open_end, ends_then}
use Rattle.history_laws.proofs.partitions.partitioned_steps_end_once_they_are_not_started.Goals as goal

pub returns-clause-started : goal.returns-clause-started
returns-clause-started c = open_end

pub returns-clause-ended : goal.returns-clause-ended
returns-clause-ended c = ends_then

pub returns-clause-answered : goal.returns-clause-answered
returns-clause-answered c = steps_answered
