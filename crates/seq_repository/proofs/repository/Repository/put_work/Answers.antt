use Rattle.std.proofs.Common.{◌≡◌, ℕ, Ok, ◌∙◌, ◌++◌, ◌∷◌, [], Option, List, not, refl, sym, ap, find, subst, arith}
use Rattle.batch_history.specs.Replies.{has_something, reply_by}
use Rattle.batch_history.specs.Works.{busy_work}
use Rattle.batch_history.specs.declared.call.Call.TheVariants.{Claim}
use Rattle.batch_history.specs.declared.call.Reply.TheVariants.{Work}
use Rattle.batch_history.specs.declared.rows.WorkRow.{WorkRow}
use Rattle.job_plans.specs.Cursors.{CursorState}
use Rattle.seq_repository.specs.Changes.{row_after}
use Rattle.seq_repository.specs.Kept.{Kept, rows_in}
use Rattle.seq_repository.specs.Reports.{IsHanded}
use Rattle.seq_repository.specs.declared.rows.Change.TheVariants.{Claim as TakeUp}
use Rattle.seq_repository.proofs.Entries.{work-entered}
use Rattle.seq_repository.proofs.Followed.{apart_claimed}
use Rattle.seq_repository.proofs.Keeping.{KeepsWalk, kept_work}
use Rattle.seq_repository.proofs.Replying.{claimed_next}
use Rattle.seq_repository.proofs.Settled.{settled_after}
use Rattle.seq_repository.proofs.repository.Repository.put_work.Goals as goal

pub returns-clause-rows : goal.returns-clause-rows
returns-clause-rows g c =
    let handed : WorkRow = busy_work c.args.who c.args.at c.args.item.now in
    let report = subst (λ (k : Kept). IsHanded k c.args.who c.args.at c.args.item.now c.args.row c.args.ready c.args.cursor.now) (sym c.self.view_is) c.requires.handed in
    rw (← c.self.view_is)
    (work-entered c.self.inside.catalogue c.self.inside.count c.self.inside.last c.self.inside.records _ c.put_row.new.records c.args.who c.args.at c.args.item.now handed c.args.row
    refl report.new c.in_default.ensures.added c.put_row.ensures)

pub invariant_of-self-2 : goal.invariant_of-self-2
invariant_of-self-2 g c =
    let kept : Kept = record { catalogue = c.self.inside.catalogue; count = c.self.inside.count; last = c.self.inside.last; records = c.self.inside.records } in
    let x : ℕ = c.args.item.now.execution in
    let handed : WorkRow = busy_work c.args.who c.args.at c.args.item.now in
    let works : List WorkRow = kept.records.works ++ handed ∷ [] in
    let due : reply_by g.row.LIMIT (rows_in kept) c.args.who Claim ≡ Ok (Work c.args.item.now) = ap (λ (r : Kept). reply_by g.row.LIMIT (rows_in r) c.args.who Claim) c.self.view_is ∙ c.requires.due in
    let report = subst (λ (k : Kept). IsHanded k c.args.who c.args.at c.args.item.now c.args.row c.args.ready c.args.cursor.now) (sym c.self.view_is) c.requires.handed in
    kept_work g.row.LIMIT c.self.inside.agenda.keys c.remove_if.new.agenda.keys c.self.inside.cursors c.keep.new.cursors kept _ c.put_row.new.records x (row_after TakeUp kept.catalogue works c.args.at) c.args.row c.args.ready c.args.cursor.now handed
    c.self.invariant (omega (arith, c.requires.room, ap (λ (r : Kept). r.count) c.self.view_is))
    report.own report.new report.ready
    (claimed_next g.row.LIMIT (rows_in kept) (find (has_something (rows_in kept)) kept.records.executions) c.args.item.now due)
    refl refl c.in_default.ensures.added c.put_row.ensures
    record { goes = not c.args.ready; put = c.add_work-added.new.agenda.keys; is_goes = refl; is_put = c.in_default.ensures.agenda; is_done = c.remove_if.ensures }
    (apart_claimed g.row.LIMIT (rows_in kept) c.args.who c.args.at c.args.item.now due c.self.invariant.apart)
    report.walks
    (subst (λ (o : Option CursorState). KeepsWalk x c.args.row o c.self.inside.cursors c.keep.new.cursors) c.take.ensures.value record { others = c.keep.ensures.others; own = c.keep.ensures.own })
    (settled_after kept.catalogue works TakeUp c.args.at)
