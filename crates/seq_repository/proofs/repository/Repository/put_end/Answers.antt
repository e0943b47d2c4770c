use Rattle.std.proofs.Common.{◌≡◌, ℕ, ◌+◌, Option, IfSome, find, not, refl, sym, ap, subst, arith}
use Rattle.batch_history.specs.NextRows.{over}
use Rattle.batch_history.specs.Works.{is_work}
use Rattle.batch_history.specs.declared.rows.WorkRow.{WorkRow}
use Rattle.job_plans.specs.Cursors.{CursorState}
use Rattle.seq_repository.specs.Changes.{place_at}
use Rattle.seq_repository.specs.Kept.{Kept}
use Rattle.seq_repository.specs.Reports.{IsReport}
use Rattle.seq_repository.proofs.Keeping.{KeepsWalk, kept_reported}
use Rattle.seq_repository.proofs.Marks.{left-alone}
use Rattle.seq_repository.proofs.Reported.{finish-reported}
use Rattle.seq_repository.proofs.repository.Repository.put_end.Goals as goal

pub invariant_of-self-2 : goal.invariant_of-self-2
invariant_of-self-2 g c =
    let kept : Kept = record { catalogue = c.self.inside.catalogue; count = c.self.inside.count; last = c.self.inside.last; records = c.self.inside.records } in
    let x : ℕ = c.args.reported.work.execution in
    let report = subst (λ (r : Kept). IsReport r c.args.w c.requires.report.0 c.args.reported.work c.args.reported.after c.args.cursor.now) (sym c.self.view_is) c.requires.report.1 in
    kept_reported g.row.LIMIT c.self.inside.agenda.keys c.remove_if.new.agenda.keys c.self.inside.cursors c.keep.new.cursors kept c.drop_mark.new.records _ c.put_row.new.records c.args.w c.requires.report.0 c.args.reported.work c.args.reported.after c.args.cursor.now
    c.self.invariant (omega (arith, c.requires.room, ap (λ (r : Kept). r.count) c.self.view_is)) report
    (left-alone c.args.outcome (place_at c.args.reported.after.row c.args.reported.after.step) c.self.inside.records c.drop_mark.new.records c.drop_mark.ensures) c.change_work.ensures c.put_row.ensures
    record { goes = not c.args.reported.after.ready; put = c.put.new.agenda.keys; is_goes = refl; is_put = c.in_default.ensures.put; is_done = c.remove_if.ensures }
    (subst (λ (o : Option CursorState). KeepsWalk x c.args.reported.after.row o c.self.inside.cursors c.keep.new.cursors) c.take.ensures.value record { others = c.keep.ensures.others; own = c.keep.ensures.own })

pub returns-clause-rows : goal.returns-clause-rows
returns-clause-rows g c = λ at given step report made.
    rw (← c.self.view_is)
    (finish-reported c.self.inside.catalogue c.self.inside.count c.self.inside.last c.self.inside.records c.drop_mark.new.records _ c.put_row.new.records c.args.w at c.args.outcome given step c.args.reported.work c.args.reported.after c.args.cursor.now
    (subst (λ (r : Kept). IsReport r c.args.w at c.args.reported.work c.args.reported.after c.args.cursor.now) (sym c.self.view_is) report)
    (subst (λ (r : Kept). IfSome (find (is_work c.args.w) r.records.works) (λ (row : WorkRow). c.args.reported.work ≡ over c.args.outcome given step at (r.count + 1) row)) (sym c.self.view_is) made)
    c.drop_mark.ensures c.change_work.ensures c.put_row.ensures)
