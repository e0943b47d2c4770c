use Rattle.std.proofs.Common.{◌≡◌, ◌<◌, Ok, ◌∙◌, ap, sym, subst, arith}
use Rattle.std.specs.Option.{option_copied}
use Rattle.batch_history.specs.Replies.{reply_by}
use Rattle.batch_history.specs.declared.call.Call.TheVariants.{Claim}
use Rattle.batch_history.specs.declared.call.Reply.TheVariants.{Work}
use Rattle.seq_repository.specs.Following.{IsFirst}
use Rattle.seq_repository.specs.Kept.{Kept, rows_in}
use Rattle.seq_repository.specs.Reports.{IsHanded}
use Rattle.seq_repository.proofs.Followed.{claimed_first}
use Rattle.seq_repository.proofs.Reported.{is_handed}
use Rattle.seq_repository.proofs.Keeping.{kept_taken}
use Rattle.seq_repository.proofs.Walked.{owned, placed_owner}
use Rattle.seq_repository.proofs.repository.Repository.enter_work.Goals as goal
use Rattle.seq_repository.proofs.repository.Repository.enter_work.Goals.{in-Ok, in-Err}

pub claimed-requires-clause-placed : goal.claimed-requires-clause-placed
claimed-requires-clause-placed g c = placed_owner c.self.inside.catalogue c.args.item.now.execution c.self.inside.records.executions (option_copied c.execution-owner.result) c.self.invariant.sound.placed c.execution-owner.ensures.found

pub claimed-requires-clause-own : goal.claimed-requires-clause-own
claimed-requires-clause-own g c = owned c.args.item.now.execution c.self.inside.records.executions (option_copied c.execution-owner.result) c.execution-owner.ensures.found

pub claimed-requires-clause-first : goal.claimed-requires-clause-first
claimed-requires-clause-first g c =
    let kept : Kept = record { catalogue = c.self.inside.catalogue; count = c.self.inside.count; last = c.self.inside.last; records = c.self.inside.records } in
    let due : reply_by g.row.LIMIT (rows_in kept) c.args.who Claim ≡ Ok (Work c.args.item.now) = ap (λ (r : Kept). reply_by g.row.LIMIT (rows_in r) c.args.who Claim) c.self.view_is ∙ c.requires.due in
    subst (λ o. IsFirst kept.catalogue kept.records.works o c.args.item.now) (sym c.execution-owner.ensures.found)
    (claimed_first g.row.LIMIT (rows_in kept) c.args.who c.args.item.now c.self.invariant.rising due)

pub invariant_of-self : goal.invariant_of-self
invariant_of-self g c =
    let kept : Kept = record { catalogue = c.self.inside.catalogue; count = c.self.inside.count; last = c.self.inside.last; records = c.self.inside.records } in
    kept_taken g.row.LIMIT c.self.inside.agenda.keys c.self.inside.cursors c.take-kept.new.cursors kept _ c.self.invariant c.take-kept.ensures.left c.take-kept.ensures.slots

pub invariant_of-self-in-Ok : goal.invariant_of-self-in-Ok
invariant_of-self-in-Ok g c =
    let kept : Kept = record { catalogue = c.self.inside.catalogue; count = c.self.inside.count; last = c.self.inside.last; records = c.self.inside.records } in
    kept_taken g.row.LIMIT c.self.inside.agenda.keys c.self.inside.cursors c.take-kept.new.cursors kept _ c.self.invariant c.take-kept.ensures.left c.take-kept.ensures.slots

pub invariant_of-self-in-Err : goal.invariant_of-self-in-Err
invariant_of-self-in-Err g c =
    let kept : Kept = record { catalogue = c.self.inside.catalogue; count = c.self.inside.count; last = c.self.inside.last; records = c.self.inside.records } in
    kept_taken g.row.LIMIT c.self.inside.agenda.keys c.self.inside.cursors c.take-kept.new.cursors kept _ c.self.invariant c.take-kept.ensures.left c.take-kept.ensures.slots

pub put_work-result-requires : goal.put_work-result-requires
put_work-result-requires g c =
    let kept : Kept = record { catalogue = c.self.inside.catalogue; count = c.self.inside.count; last = c.self.inside.last; records = c.self.inside.records } in
    let due : reply_by g.row.LIMIT (rows_in kept) c.args.who Claim ≡ Ok (Work c.args.item.now) = ap (λ (r : Kept). reply_by g.row.LIMIT (rows_in r) c.args.who Claim) c.self.view_is ∙ c.requires.due in
    let handed : IsHanded kept c.args.who c.args.at c.args.item.now c.in-Ok.row c.in-Ok.ready c.in_ok-cursor.cursor =
    is_handed kept c.args.who c.args.at c.args.item.now (option_copied c.execution-owner.result) c.in-Ok.row c.in-Ok.ready c.in_ok-cursor.cursor c.execution-owner.ensures.found
    (c.in_ok-cursor.ensures c.args.who c.args.at) c.in-Ok.ensures.own c.in-Ok.ensures.row c.in-Ok.ensures.ready in
    (omega arith, (subst (λ (k : Kept). k.count < g.row.LIMIT) (sym c.self.view_is) c.requires.room, (due, handed)))

pub returns-clause-rows : goal.returns-clause-rows
returns-clause-rows g c = elim c.match-execution_after.branch [
  | in-Ok w ↦ rw w.self-is (rw w.result-is (rw (← c.self.view_is) w.put_work-result.ensures.rows))
  | in-Err w ↦ rw w.result-is tt
]
