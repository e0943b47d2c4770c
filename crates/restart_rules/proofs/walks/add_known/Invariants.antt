use Rattle.std.proofs.Common.{◌≡◌, ◌++◌, map}
use Rattle.batch_history.specs.Walks.{known_elements}
use Rattle.records.specs.Left.{works_left}
use Rattle.restart_rules.proofs.Reading.{known_by}
use Rattle.restart_rules.proofs.walks.add_known.Given as goal

abbrev pub invariant-loop-row : goal.invariant-loop-row
invariant-loop-row l = l.known.items ++ map known_by (works_left l.row-iterator) ≡ l.fn.known.items ++ known_elements l.fn.x l.records.works
