use Rattle.std.proofs.Common.{◌∙◌, ap}
use Rattle.row_repository.specs.Restoring.{with_checkpoint}
use Rattle.seq_repository.specs.Kept.{Kept, rows_in}
use Rattle.seq_repository.proofs.RowsAdded.{checkpoint_put}
use Rattle.seq_repository.proofs.restored.Restored.put_checkpoint.Goals as goal

pub returns-clause-added : goal.returns-clause-added
returns-clause-added g c =
    let kept : Kept = record { catalogue = c.self.inside.catalogue; count = c.self.inside.count; last = c.self.inside.last; records = c.self.inside.records } in
    checkpoint_put kept c.set_checkpoint.new.self c.args.row c.in_ok-set_checkpoint.ensures.set
    ∙ ap (λ (k : Kept). with_checkpoint (rows_in k) c.args.row) c.self.view_is
