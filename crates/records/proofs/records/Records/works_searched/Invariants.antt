use Rattle.std.proofs.Common.{◌≡◌, ◌++◌, map}
use Rattle.records.specs.Left.{works_of_instance}
use Rattle.records.specs.Slots.{rows_left}
use Rattle.records.proofs.records.Records.works_searched.Given as goal

abbrev pub invariant-loop-row : goal.invariant-loop-row
invariant-loop-row l =
    map (λ row. row.now) l.found.items ++ works_of_instance l.i l.self.executions (rows_left l.row-iterator) ≡ works_of_instance l.i l.self.executions l.self.works
