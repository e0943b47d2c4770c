use Rattle.std.proofs.Common.{◌≡◌, ◌++◌, ◌-◌, take, drop}
use Rattle.batch_history.specs.Answers.{instances_of_job}
use Rattle.records.specs.Left.{instances_left}
use Rattle.seq_repository.proofs.answers.newest.Given as goal

abbrev pub invariant-loop-row : goal.invariant-loop-row
invariant-loop-row l =
    l.found.items ++ instances_left l.row-iterator ≡ take (l.to - l.from) (drop l.from (instances_of_job l.fn.job l.rows.instances))
