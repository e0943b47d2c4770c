use Rattle.std.proofs.Common.{◌≡◌, drop}
use Rattle.record_lists.specs.Places.{mark_at}
use Rattle.record_lists.proofs.checkpoint_lists.CheckpointLists.mark.Given as goal

abbrev pub invariant-loop-row : goal.invariant-loop-row
invariant-loop-row l =
    mark_at (drop l.row-index l.row-items) record { instance = l.i; step = l.step }
    ≡ mark_at l.row-items record { instance = l.i; step = l.step }
