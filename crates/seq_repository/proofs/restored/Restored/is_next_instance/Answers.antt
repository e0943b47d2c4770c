use Rattle.std.proofs.Common.{ℕ, ◌∙◌, ap}
use Rattle.batch_history.specs.declared.rows.LastNumbers.{LastNumbers}
use Rattle.seq_repository.specs.Kept.{Kept, rows_in}
use Rattle.row_repository.specs.Restoring.{is_next, last_in}
use Rattle.seq_repository.proofs.restored.Restored.is_next_instance.Goals as goal

pub returns : goal.returns
returns g c =
    c.is_next.ensures
    ∙ (ap (λ (n : ℕ). is_next c.self.inside.newest.instance c.self.inside.last.instance n) c.value.ensures
    ∙ (ap (λ (l : LastNumbers). is_next l.instance c.self.inside.last.instance c.args.i) c.self.invariant.newest_is
    ∙ ap (λ (k : Kept). is_next (last_in (rows_in k)).instance k.last.instance c.args.i) c.self.view_is))
