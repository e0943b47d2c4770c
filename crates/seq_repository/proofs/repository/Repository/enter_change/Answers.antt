use Rattle.std.proofs.Common.{◌<◌, sym, subst, arith}
use Rattle.std.specs.Option.{option_copied}
use Rattle.seq_repository.specs.Following.{kept_at}
use Rattle.batch_history.specs.declared.rows.ExecutionRow.{ExecutionRow}
use Rattle.seq_repository.specs.Changes.{row_after}
use Rattle.seq_repository.specs.Kept.{Kept}
use Rattle.seq_repository.specs.Reports.{IsChange}
use Rattle.seq_repository.proofs.Reported.{is_change}
use Rattle.seq_repository.proofs.Keeping.{kept_taken}
use Rattle.seq_repository.proofs.Walked.{placed_owner, taken_walks}
use Rattle.seq_repository.proofs.repository.Repository.enter_change.Goals as goal
use Rattle.seq_repository.proofs.repository.Repository.enter_change.Goals.{in-Ok, in-Err}

pub current-requires-clause-placed : goal.current-requires-clause-placed
current-requires-clause-placed g c = placed_owner c.self.inside.catalogue c.args.x c.self.inside.records.executions (option_copied c.execution-owner.result) c.self.invariant.sound.placed c.execution-owner.ensures.found

pub current-requires-clause-kept : goal.current-requires-clause-kept
current-requires-clause-kept g c =
    taken_walks c.self.inside.catalogue c.self.inside.records.works c.self.inside.records.executions (kept_at c.self.inside.cursors) c.args.x (option_copied c.execution-owner.result) c.take-kept.result
    c.self.invariant.followed c.execution-owner.ensures.found c.take-kept.ensures.taken

pub invariant_of-self : goal.invariant_of-self
invariant_of-self g c =
    let kept : Kept = record { catalogue = c.self.inside.catalogue; count = c.self.inside.count; last = c.self.inside.last; records = c.self.inside.records } in
    kept_taken g.row.LIMIT c.self.inside.agenda.keys c.self.inside.cursors c.take-kept.new.cursors kept _ c.self.invariant c.take-kept.ensures.left c.take-kept.ensures.slots

pub invariant_of-self-in-Ok : goal.invariant_of-self-in-Ok
invariant_of-self-in-Ok g c =
    let kept : Kept = record { catalogue = c.self.inside.catalogue; count = c.self.inside.count; last = c.self.inside.last; records = c.self.inside.records } in
    kept_taken g.row.LIMIT c.self.inside.agenda.keys c.self.inside.cursors c.take-kept.new.cursors kept _ c.self.invariant c.take-kept.ensures.left c.take-kept.ensures.slots

pub invariant_of-self-in-Err : goal.invariant_of-self-in-Err
invariant_of-self-in-Err g c =
    let kept : Kept = record { catalogue = c.self.inside.catalogue; count = c.self.inside.count; last = c.self.inside.last; records = c.self.inside.records } in
    kept_taken g.row.LIMIT c.self.inside.agenda.keys c.self.inside.cursors c.take-kept.new.cursors kept _ c.self.invariant c.take-kept.ensures.left c.take-kept.ensures.slots

pub put_change-result-requires : goal.put_change-result-requires
put_change-result-requires g c =
    let kept : Kept = record { catalogue = c.self.inside.catalogue; count = c.self.inside.count; last = c.self.inside.last; records = c.self.inside.records } in
    let f : ExecutionRow → ExecutionRow = row_after c.args.change kept.catalogue kept.records.works c.args.at in
    let change : IsChange kept c.args.x f c.in-Ok.row c.in-Ok.ready c.in_ok-cursor.cursor =
    is_change kept c.args.x c.args.at c.args.change (option_copied c.execution-owner.result) c.in-Ok.row c.in-Ok.ready c.in_ok-cursor.cursor c.execution-owner.ensures.found
    c.in_ok-cursor.ensures c.in-Ok.ensures.own c.in-Ok.ensures.row c.in-Ok.ensures.ready in
    (omega arith, (subst (λ (k : Kept). k.count < g.row.LIMIT) (sym c.self.view_is) c.requires, (f, change)))

pub returns-clause-rows : goal.returns-clause-rows
returns-clause-rows g c =
    let kept : Kept = record { catalogue = c.self.inside.catalogue; count = c.self.inside.count; last = c.self.inside.last; records = c.self.inside.records } in
    let f : ExecutionRow → ExecutionRow = row_after c.args.change kept.catalogue kept.records.works c.args.at in
    elim c.match-execution_after.branch [
      | in-Ok w ↦
          let change : IsChange kept c.args.x f w.in-Ok.row w.in-Ok.ready c.in_ok-cursor.cursor =
          is_change kept c.args.x c.args.at c.args.change (option_copied c.execution-owner.result) w.in-Ok.row w.in-Ok.ready c.in_ok-cursor.cursor c.execution-owner.ensures.found
          c.in_ok-cursor.ensures w.in-Ok.ensures.own w.in-Ok.ensures.row w.in-Ok.ensures.ready in
          rw w.self-is (rw w.result-is (rw (← c.self.view_is) (w.put_change-result.ensures.rows f change)))
      | in-Err w ↦ rw w.result-is tt
    ]
