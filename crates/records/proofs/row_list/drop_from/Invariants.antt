use Rattle.std.proofs.Common.{◌≡◌, ◌<◌, length}
use Rattle.std.specs.Prelude.{vec_len, vec_capacity}
use Rattle.records.specs.Slots.{rows_in, AreSlots}
use Rattle.records.proofs.row_list.drop_from.Given as goal

abbrev pub invariant-loop-slots : goal.invariant-loop-slots
invariant-loop-slots g l =
    (rows_in l.slots.items ≡ rows_in l.initial.slots.items) × AreSlots g.T.Numbered.number l.slots.items × (vec_len l.slots < vec_capacity l.slots)

abbrev pub decreases-loop-slots : goal.decreases-loop-slots
decreases-loop-slots g l = length l.slots.items
