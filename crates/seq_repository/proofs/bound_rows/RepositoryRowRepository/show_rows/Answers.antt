use Rattle.std.proofs.Common.{◌≡◌, List, refl, subst}
use Rattle.batch_history.specs.declared.rows.CheckpointRow.{CheckpointRow}
use Rattle.records.specs.Maps.{mark_at}
use Rattle.row_repository.specs.Shown.{Shown, mark_in, with_shown_rows}
use Rattle.seq_repository.specs.Kept.{Kept, rows_in}
use Rattle.seq_repository.proofs.Showing.{weaker}
use Rattle.seq_repository.proofs.bound_rows.RepositoryRowRepository.show_rows.Goals as goal

pub returns : goal.returns
returns g c =
    let taken = g.S.RowSink.taken in
    let kept : Kept = record { catalogue = c.self.inside.catalogue; count = c.self.inside.count; last = c.self.inside.last; records = c.self.inside.records } in
    let all : Kept → Type 0 = λ k.
    (marks : List CheckpointRow) × (mark_at k.records.checkpoints ≡ mark_in marks)
    × ((earlier : g.row.S.Denot) (s : Shown) → taken earlier s c.args.sink.now → taken earlier (with_shown_rows s (rows_in k) marks) c.show_checkpoints.new.sink) in
    weaker c.show_checkpoints.result _ _
    (λ last. subst all c.self.view_is
    (kept.records.checkpoints, refl, λ earlier s so. last earlier _ (c.in_ok-show_works.ensures earlier _ (c.in_ok-show_executions.ensures earlier s so))))
    c.show_checkpoints.ensures
