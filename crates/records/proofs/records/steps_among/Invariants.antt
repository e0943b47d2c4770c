use Rattle.std.proofs.Common.{◌≡◌, ℕ, List, map, take}
use Rattle.batch_history.specs.Restarts.{works_of_step}
use Rattle.records.specs.Indexes.{numbers_named}
use Rattle.records.specs.Maps.{work_numbers}
use Rattle.records.proofs.records.steps_among.Given as goal

abbrev pub invariant-loop-row : goal.invariant-loop-row
invariant-loop-row l =
    (q : List ℕ) → numbers_named l.names q ≡ work_numbers (works_of_step q (map (λ row. row.now) (take l.row-index l.works)))
