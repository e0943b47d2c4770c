use Rattle.std.proofs.Common.{Bor, Vec, Global, List, ◌++◌, map, ◌∙◌, ap}
use Rattle.std.specs.List.{flat_map}
use Rattle.batch_history.specs.declared.rows.CheckpointRow.{CheckpointRow}
use Rattle.record_lists.proofs.Listing.{values_listed}
use Rattle.record_lists.proofs.checkpoint_lists.CheckpointLists.rows.Goals as goal

-- the checkpoints of a list
abbrev listed : Vec CheckpointRow Global → List CheckpointRow
listed rows = rows.items

pub loop-rows-init : goal.loop-rows-init
loop-rows-init c =
    ap (λ (found : List (Bor CheckpointRow)). map (λ row. row.now) found ++ flat_map listed c.into_iter-rows-iterator.result) c.new-found.ensures.items
    ∙ (ap (flat_map listed) (c.into_iter-rows-iterator.ensures.into_iter_gives ∙ c.values-rows-items.ensures.rest)
    ∙ (values_listed listed c.self.inside.lists.entries ∙ c.self.view_is))
