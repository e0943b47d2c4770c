use Rattle.std.proofs.Common.{◌≡◌, ◌<◌, ◌+◌, find, Option, Some, IfSome, ◌∙◌, ap, sym, subst, arith}
use Rattle.std.specs.Option.{option_copied}
use Rattle.batch_history.specs.NextRows.{over, over_as}
use Rattle.batch_history.specs.Lists.{change_first}
use Rattle.batch_history.specs.Works.{is_work}
use Rattle.batch_history.specs.declared.rows.WorkRow.{WorkRow}
use Rattle.seq_repository.specs.Following.{Walks}
use Rattle.seq_repository.specs.Kept.{Kept}
use Rattle.seq_repository.specs.Reports.{IsAfter, IsReport}
use Rattle.seq_repository.proofs.Keeping.{kept_taken}
use Rattle.seq_repository.proofs.Metering.{within_found}
use Rattle.seq_repository.proofs.Reported.{is_end}
use Rattle.seq_repository.proofs.Walked.{owned, placed_owner}
use Rattle.seq_repository.proofs.repository.Repository.enter_finish.Goals as goal
use Rattle.seq_repository.proofs.repository.Repository.enter_finish.Goals.{in-Ok, in-Err}

pub finished-requires-clause-placed : goal.finished-requires-clause-placed
finished-requires-clause-placed g c = placed_owner c.self.inside.catalogue c.in-Some.work.now.execution c.self.inside.records.executions (option_copied c.execution-owner.result) c.self.invariant.sound.placed c.execution-owner.ensures.found

pub finished-requires-clause-own : goal.finished-requires-clause-own
finished-requires-clause-own g c = owned c.in-Some.work.now.execution c.self.inside.records.executions (option_copied c.execution-owner.result) c.execution-owner.ensures.found

pub invariant_of-self : goal.invariant_of-self
invariant_of-self g c =
    let kept : Kept = record { catalogue = c.self.inside.catalogue; count = c.self.inside.count; last = c.self.inside.last; records = c.self.inside.records } in
    kept_taken g.row.LIMIT c.self.inside.agenda.keys c.self.inside.cursors c.take-kept.new.cursors kept _ c.self.invariant c.take-kept.ensures.left c.take-kept.ensures.slots

pub after_end-requires : goal.after_end-requires
after_end-requires g c =
    let found : find (is_work c.args.w) c.self.inside.records.works ≡ Some c.in-Some.work.now = sym c.in-Some.ensures in
    within_found g.row.LIMIT c.self.inside.count (is_work c.args.w) c.self.inside.records.works c.in-Some.work.now
    c.self.invariant.sound.few c.self.invariant.sound.room found c.self.invariant.sound.metrics

pub invariant_of-self-in-Ok : goal.invariant_of-self-in-Ok
invariant_of-self-in-Ok g c =
    let kept : Kept = record { catalogue = c.self.inside.catalogue; count = c.self.inside.count; last = c.self.inside.last; records = c.self.inside.records } in
    kept_taken g.row.LIMIT c.self.inside.agenda.keys c.self.inside.cursors c.take-kept.new.cursors kept _ c.self.invariant c.take-kept.ensures.left c.take-kept.ensures.slots

pub invariant_of-self-in-Err : goal.invariant_of-self-in-Err
invariant_of-self-in-Err g c =
    let kept : Kept = record { catalogue = c.self.inside.catalogue; count = c.self.inside.count; last = c.self.inside.last; records = c.self.inside.records } in
    kept_taken g.row.LIMIT c.self.inside.agenda.keys c.self.inside.cursors c.take-kept.new.cursors kept _ c.self.invariant c.take-kept.ensures.left c.take-kept.ensures.slots

pub put_end-result-requires : goal.put_end-result-requires
put_end-result-requires g c =
    let kept : Kept = record { catalogue = c.self.inside.catalogue; count = c.self.inside.count; last = c.self.inside.last; records = c.self.inside.records } in
    let found : find (is_work c.args.w) kept.records.works ≡ Some c.in-Some.work.now = sym c.in-Some.ensures in
    let report : IsReport kept c.args.w c.args.at c.in-Ok.reported.work c.in-Ok.reported.after c.in_ok-cursor.cursor =
    is_end kept c.args.w c.args.at c.args.outcome c.in_ok-exit_or_name.field-0 c.args.step.now c.in-Some.work.now c.in-Ok.reported.work c.in-Ok.reported.after c.in_ok-cursor.cursor found c.in-Ok.ensures.work c.in-Ok.ensures.small
    (subst (λ o. Walks kept.catalogue (change_first (is_work c.args.w) (over_as c.args.outcome c.in_ok-exit_or_name.field-0 c.args.step.now c.args.at (kept.count + 1)) kept.records.works) o c.in_ok-cursor.cursor) c.execution-owner.ensures.found
    (c.in_ok-cursor.ensures c.args.step.now c.args.at (kept.count + 1)))
    (subst (λ o. IsAfter o c.args.at c.in-Ok.reported.work c.in-Ok.reported.after c.in_ok-cursor.cursor) c.execution-owner.ensures.found c.in-Ok.ensures.after) in
    (omega arith, (subst (λ (k : Kept). k.count < g.row.LIMIT) (sym c.self.view_is) c.requires.room, (c.args.at, report)))

pub returns-clause-rows : goal.returns-clause-rows
returns-clause-rows g c =
    let kept : Kept = record { catalogue = c.self.inside.catalogue; count = c.self.inside.count; last = c.self.inside.last; records = c.self.inside.records } in
    let found : find (is_work c.args.w) kept.records.works ≡ Some c.in-Some.work.now = sym c.in-Some.ensures in
    elim c.match-after_end.branch [
      | in-Ok w ↦
          let report : IsReport kept c.args.w c.args.at w.in-Ok.reported.work w.in-Ok.reported.after c.in_ok-cursor.cursor =
          is_end kept c.args.w c.args.at c.args.outcome c.in_ok-exit_or_name.field-0 c.args.step.now c.in-Some.work.now w.in-Ok.reported.work w.in-Ok.reported.after c.in_ok-cursor.cursor found w.in-Ok.ensures.work w.in-Ok.ensures.small
          (subst (λ o. Walks kept.catalogue (change_first (is_work c.args.w) (over_as c.args.outcome c.in_ok-exit_or_name.field-0 c.args.step.now c.args.at (kept.count + 1)) kept.records.works) o c.in_ok-cursor.cursor) c.execution-owner.ensures.found
          (c.in_ok-cursor.ensures c.args.step.now c.args.at (kept.count + 1)))
          (subst (λ o. IsAfter o c.args.at w.in-Ok.reported.work w.in-Ok.reported.after c.in_ok-cursor.cursor) c.execution-owner.ensures.found w.in-Ok.ensures.after) in
          let made = w.in-Ok.ensures.work ∙ ap (λ e. over_as c.args.outcome e c.args.step.now c.args.at (kept.count + 1) c.in-Some.work.now) c.in_ok-exit_or_name.ensures in
          rw w.self-is (rw w.result-is (rw (← c.self.view_is) (w.put_end-result.ensures.rows c.args.at c.args.exit.now c.args.step.now report
          (subst (λ (o : Option WorkRow). IfSome o (λ (row : WorkRow). w.in-Ok.reported.work ≡ over c.args.outcome c.args.exit.now c.args.step.now c.args.at (kept.count + 1) row)) c.in-Some.ensures made))))
      | in-Err w ↦ rw w.result-is tt
    ]
