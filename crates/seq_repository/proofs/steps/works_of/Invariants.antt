use Rattle.std.proofs.Common.{◌≡◌, ◌++◌, map}
use Rattle.records.specs.Left.{works_left, works_of}
use Rattle.seq_repository.proofs.steps.works_of.Given as goal

abbrev pub invariant-loop-row : goal.invariant-loop-row
invariant-loop-row l = map (λ work. work.now) l.works.items ++ works_left l.row-iterator ≡ works_of l.fn.x l.rows.works
