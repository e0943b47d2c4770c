use Rattle.std.proofs.Common.{◌≡◌, ◌+◌, true, sym, ◌∙◌, ap, subst, arith}
use Rattle.batch_history.specs.NextRows.{fresh_row}
use Rattle.batch_history.specs.Replies.{is_execution, row_status}
use Rattle.restart_rules.specs.Placed.{is_placed}
use Rattle.restart_rules.proofs.Placing.{placed_found}
use Rattle.batch_history.specs.declared.rows.ExecutionRow.{ExecutionRow}
use Rattle.batch_history.specs.declared.rows.LastNumbers.{LastNumbers}
use Rattle.batch_history.specs.declared.call.Reply.TheVariants.{Done}
use Rattle.seq_repository.specs.Kept.{Kept}
use Rattle.seq_repository.proofs.Entries.{restart-entered}
use Rattle.row_repository.specs.Settled.{IsSettled}
use Rattle.seq_repository.proofs.Settled.{settled_fresh}
use Rattle.seq_repository.proofs.Keeping.{kept_restart}
use Rattle.seq_repository.proofs.repository.Repository.enter_restart.Goals as goal

pub invariant_of-self-2 : goal.invariant_of-self-2
invariant_of-self-2 g c =
    let kept : Kept = record { catalogue = c.self.inside.catalogue; count = c.self.inside.count; last = c.self.inside.last; records = c.self.inside.records } in
    let row : ExecutionRow = c.in_ok-row.row in
    let placed : is_placed kept.catalogue row ≡ true = ap (λ (r : ExecutionRow). is_placed kept.catalogue r) c.in_ok-row.ensures ∙ c.in_ok-plan.ensures.begins in
    kept_restart g.row.LIMIT c.self.inside.agenda.keys c.add_execution.new.agenda.keys c.self.inside.cursors kept c.add_execution.new.records row c.self.invariant (ap (λ (r : ExecutionRow). r.execution) c.in_ok-row.ensures) (ap row_status c.in_ok-row.ensures) (subst (IsSettled kept.catalogue kept.records.works) (sym c.in_ok-row.ensures) (settled_fresh kept.catalogue kept.records.works _ _ _ _ _ _)) (omega (arith, c.requires.room, ap (λ (r : Kept). r.count) c.self.view_is)) placed c.in_ok-add_execution.ensures.added c.in_ok-add_execution.ensures.agenda

pub restart_plan-requires : goal.restart_plan-requires
restart_plan-requires g c =
    placed_found c.self.inside.catalogue (is_execution c.args.y) c.self.inside.records.executions c.in-Some.earlier.now (sym c.in-Some.ensures.found) c.self.invariant.sound.placed

pub returns-clause-rows : goal.returns-clause-rows
returns-clause-rows g c =
    let last : LastNumbers = c.self.inside.last in
    let earlier : ExecutionRow = c.in-Some.earlier.now in
    rw (← c.self.view_is)
    (restart-entered c.self.inside.catalogue c.self.inside.count last c.self.inside.records c.add_execution.new.records 0 c.args.at c.args.y c.args.parameters.now Done
    earlier c.in_ok-row.row (sym c.in-Some.ensures.found)
    (c.in_ok-row.ensures ∙ ap (fresh_row (last.execution + 1) earlier.instance c.args.at earlier.job c.args.parameters.now) (c.in_ok-plan.ensures.plan c.self.inside.count last))
    c.in_ok-add_execution.ensures.added)
