use Rattle.std.proofs.Common.{◌==◌, ℕ, Vec, Global, filter, List, ◌∙◌, ap}
use Rattle.std.specs.Map.{lookup}
use Rattle.std.specs.BTreeMap.{is_at}
use Rattle.std.specs.Ordering.{nat_cmp}
use Rattle.batch_history.specs.declared.rows.CheckpointRow.{CheckpointRow}
use Rattle.record_lists.proofs.Listing.{rows_found, found_of}
use Rattle.record_lists.proofs.checkpoint_lists.CheckpointLists.of_instance.Goals as goal

-- the checkpoints of a list
abbrev listed : Vec CheckpointRow Global → List CheckpointRow
listed rows = rows.items

pub returns-in-Some : goal.returns-in-Some
returns-in-Some c =
    c.as_slice.ensures.value
    ∙ (ap (rows_found listed) (c.in-Some.ensures.value ∙ ap (λ (i : ℕ). lookup (is_at (nat_cmp i)) c.self.inside.lists.entries) c.value.ensures)
    ∙ (found_of listed c.args.i c.self.inside.lists.entries c.self.invariant
    ∙ ap (filter (λ (row : CheckpointRow). row.instance == c.args.i)) c.self.view_is))

pub returns-in-None : goal.returns-in-None
returns-in-None c =
    ap (rows_found listed) (c.in-None.ensures.value ∙ ap (λ (i : ℕ). lookup (is_at (nat_cmp i)) c.self.inside.lists.entries) c.value.ensures)
    ∙ (found_of listed c.args.i c.self.inside.lists.entries c.self.invariant
    ∙ ap (filter (λ (row : CheckpointRow). row.instance == c.args.i)) c.self.view_is)
