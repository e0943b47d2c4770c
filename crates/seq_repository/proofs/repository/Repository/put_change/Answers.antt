use Rattle.std.proofs.Common.{Option, not, refl, sym, ap, subst, arith}
use Rattle.job_plans.specs.Cursors.{CursorState}
use Rattle.seq_repository.specs.Kept.{Kept}
use Rattle.seq_repository.specs.Reports.{IsChange}
use Rattle.seq_repository.proofs.Entries.{change-entered}
use Rattle.seq_repository.proofs.Keeping.{KeepsWalk, kept_change}
use Rattle.seq_repository.proofs.repository.Repository.put_change.Goals as goal

pub returns-clause-rows : goal.returns-clause-rows
returns-clause-rows g c = λ f is.
    let change = subst (λ (k : Kept). IsChange k c.args.x f c.args.row c.args.ready c.args.cursor.now) (sym c.self.view_is) is in
    rw (← c.self.view_is)
    (change-entered c.self.inside.catalogue c.self.inside.count c.self.inside.last c.self.inside.records c.put_row.new.records c.args.x f c.args.row change.new c.put_row.ensures)

pub invariant_of-self-2 : goal.invariant_of-self-2
invariant_of-self-2 g c =
    let kept : Kept = record { catalogue = c.self.inside.catalogue; count = c.self.inside.count; last = c.self.inside.last; records = c.self.inside.records } in
    let change = subst (λ (k : Kept). IsChange k c.args.x c.requires.change.0 c.args.row c.args.ready c.args.cursor.now) (sym c.self.view_is) c.requires.change.1 in
    kept_change g.row.LIMIT c.self.inside.agenda.keys c.remove_if.new.agenda.keys c.self.inside.cursors c.keep.new.cursors kept c.put_row.new.records c.args.x c.requires.change.0 c.args.row c.args.ready c.args.cursor.now
    c.self.invariant (omega (arith, c.requires.room, ap (λ (r : Kept). r.count) c.self.view_is))
    change.own change.new change.ready c.put_row.ensures
    record { goes = not c.args.ready; put = c.put.new.agenda.keys; is_goes = refl; is_put = c.in_default.ensures.put; is_done = c.remove_if.ensures }
    change.walks
    (subst (λ (o : Option CursorState). KeepsWalk c.args.x c.args.row o c.self.inside.cursors c.keep.new.cursors) c.take.ensures.value record { others = c.keep.ensures.others; own = c.keep.ensures.own })
    change.settles
