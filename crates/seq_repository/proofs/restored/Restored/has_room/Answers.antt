use Rattle.std.proofs.Common.{◌≤◌, sym, ◌∙◌, ap, arith}
use Rattle.batch_ids.specs.Metrics.{both_metrics, most_after}
use Rattle.batch_ids.specs.declared.metrics.Metrics.{Metrics}
use Rattle.seq_repository.specs.Kept.{Kept, rows_in}
use Rattle.row_repository.specs.Restoring.{has_room, is_within}
use Rattle.seq_repository.proofs.RowsAdded.{sums_pushed}
use Rattle.seq_repository.proofs.restored.Restored.has_room.Goals as goal

pub overflow_mul-self-inside : goal.overflow_mul-self-inside
overflow_mul-self-inside g c =
    let few : g.row.LIMIT ≤ 4294967296 = c.self.invariant.sound.few in
    omega (arith, c.self.invariant.sound.room, few)

pub returns : goal.returns
returns g c =
    let joined = ap (λ (m : Metrics). both_metrics m c.args.row.now.metrics) c.self.invariant.sums_are ∙ sym (sums_pushed c.self.inside.records.works c.args.row.now) in
    c.are_within.ensures
    ∙ (ap (is_within (most_after c.self.inside.count)) joined ∙ ap (λ (k : Kept). has_room (rows_in k) c.args.row.now) c.self.view_is)
