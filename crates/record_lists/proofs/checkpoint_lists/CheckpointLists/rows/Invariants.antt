use Rattle.std.proofs.Common.{◌≡◌, ◌++◌, map}
use Rattle.std.specs.List.{flat_map}
use Rattle.record_lists.proofs.checkpoint_lists.CheckpointLists.rows.Given as goal

abbrev pub invariant-loop-rows : goal.invariant-loop-rows
invariant-loop-rows l = map (λ row. row.now) l.found.items ++ flat_map (λ rows. rows.items) l.rows-iterator ≡ l.self
