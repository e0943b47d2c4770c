use Rattle.std.proofs.Common.{◌==◌, ℕ, Vec, Global, List, ◌∙◌, ap}
use Rattle.batch_history.specs.declared.rows.CheckpointRow.{CheckpointRow}
use Rattle.record_lists.specs.Listed.{rows_listed}
use Rattle.record_lists.specs.Places.{checkpoints_there}
use Rattle.record_lists.proofs.Listing.{removed, without_of}
use Rattle.record_lists.proofs.checkpoint_lists.CheckpointLists.remove_instance.Goals as goal

-- the checkpoints of a list
abbrev listed : Vec CheckpointRow Global → List CheckpointRow
listed rows = rows.items

pub invariant_of-self : goal.invariant_of-self
invariant_of-self c =
    removed listed c.value.result c.self.inside.lists.entries c.remove.new.self.entries c.self.invariant c.remove.ensures.entries c.remove.ensures.ordered

pub returns : goal.returns
returns c =
    ap (rows_listed listed) c.remove.ensures.entries
    ∙ (without_of listed c.value.result c.self.inside.lists.entries c.self.invariant
    ∙ (ap (λ (i : ℕ). checkpoints_there (λ j. j == i) (rows_listed listed c.self.inside.lists.entries)) c.value.ensures
    ∙ ap (checkpoints_there (λ j. j == c.args.i)) c.self.view_is))
