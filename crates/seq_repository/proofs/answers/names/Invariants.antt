use Rattle.std.proofs.Common.{◌≡◌, ◌++◌}
use Rattle.jsl_model.specs.Names.{distinct}
use Rattle.records.specs.Left.{job_names, names_left}
use Rattle.seq_repository.proofs.answers.names.Given as goal

abbrev pub invariant-loop-name : goal.invariant-loop-name
invariant-loop-name l = l.names.items ++ names_left l.name-iterator ≡ distinct (job_names l.rows.instances)
