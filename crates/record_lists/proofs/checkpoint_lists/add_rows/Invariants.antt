use Rattle.std.proofs.Common.{◌≡◌, ◌++◌, drop, map}
use Rattle.record_lists.proofs.checkpoint_lists.add_rows.Given as goal

abbrev pub invariant-loop-row : goal.invariant-loop-row
invariant-loop-row l = map (λ row. row.now) l.found.items ++ drop l.row-index l.rows ≡ map (λ row. row.now) l.initial.found.items ++ l.rows
