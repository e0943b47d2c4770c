use Rattle.std.proofs.Common.{◌≡◌, ℕ, ◌+◌, true, Some, List, sym, ◌∙◌, ap, subst, arith}
use Rattle.batch_history.specs.NextRows.{fresh_row}
use Rattle.batch_history.specs.Replies.{row_status}
use Rattle.batch_history.specs.Restarts.{first_plan}
use Rattle.batch_history.specs.Walks.{job_named}
use Rattle.job_plans.specs.declared.plan.Plan.{Plan}
use Rattle.jsl_model.specs.Jobs.{JobTree}
use Rattle.restart_rules.specs.Placed.{begins_in_job, is_placed}
use Rattle.batch_history.specs.declared.rows.ExecutionRow.{ExecutionRow}
use Rattle.batch_history.specs.declared.rows.LastNumbers.{LastNumbers}
use Rattle.batch_history.specs.declared.call.Reply.TheVariants.{Done}
use Rattle.seq_repository.specs.Kept.{Kept}
use Rattle.seq_repository.proofs.Entries.{start-entered}
use Rattle.row_repository.specs.Settled.{IsSettled}
use Rattle.seq_repository.proofs.Settled.{settled_fresh}
use Rattle.seq_repository.proofs.Keeping.{kept_start}
use Rattle.seq_repository.proofs.repository.Repository.enter_start.Goals as goal

pub invariant_of-self-2 : goal.invariant_of-self-2
invariant_of-self-2 g c =
    let kept : Kept = record { catalogue = c.self.inside.catalogue; count = c.self.inside.count; last = c.self.inside.last; records = c.self.inside.records } in
    let tree : JobTree = c.in-Some.tree.now in
    let row : ExecutionRow = c.in_ok-row.row in
    let named : job_named kept.catalogue c.in_ok-job.job ≡ Some tree =
    ap (job_named kept.catalogue) c.in_ok-job.ensures ∙ (ap (job_named kept.catalogue) (sym c.as_str.ensures.same) ∙ sym c.in-Some.ensures) in
    let placed : is_placed kept.catalogue row ≡ true =
    ap (λ (r : ExecutionRow). is_placed kept.catalogue r) c.in_ok-row.ensures
    ∙ (ap (begins_in_job c.in_ok-plan.plan) named ∙ c.in_ok-plan.ensures.begins) in
    kept_start g.row.LIMIT c.self.inside.agenda.keys c.add_instance.new.agenda.keys c.self.inside.cursors kept c.add_instance.new.records record { instance = c.new-instance.result; job = c.in_ok-job.job } row c.self.invariant c.new-instance.ensures (ap (λ (r : ExecutionRow). r.execution) c.in_ok-row.ensures) (ap row_status c.in_ok-row.ensures) (subst (IsSettled kept.catalogue kept.records.works) (sym c.in_ok-row.ensures) (settled_fresh kept.catalogue kept.records.works _ _ _ _ _ _)) (omega (arith, c.requires.room, ap (λ (r : Kept). r.count) c.self.view_is)) placed c.in_ok-add_instance.ensures.added c.in_ok-add_instance.ensures.agenda

pub returns-clause-rows : goal.returns-clause-rows
returns-clause-rows g c =
    let last : LastNumbers = c.self.inside.last in
    let catalogue : List JobTree = c.self.inside.catalogue in
    let row : ℕ → List ℕ → Plan → ExecutionRow = λ i job plan. fresh_row (last.execution + 1) i c.args.at job c.args.parameters.now plan in
    let named : job_named catalogue c.args.job.now ≡ Some c.in-Some.tree.now = ap (job_named catalogue) (sym c.as_str.ensures.same) ∙ sym c.in-Some.ensures in
    let planned : c.in_ok-plan.plan ≡ first_plan (job_named catalogue c.args.job.now) = c.in_ok-plan.ensures.plan ∙ ap first_plan (sym named) in
    rw (← c.self.view_is)
    (start-entered c.self.inside.catalogue c.self.inside.count last c.self.inside.records c.add_instance.new.records 0 c.args.at c.args.job.now c.args.parameters.now Done
    record { instance = c.new-instance.result; job = c.in_ok-job.job } c.in_ok-row.row
    (ap (λ (i : ℕ). record { instance = i; job = c.in_ok-job.job }) c.new-instance.ensures
    ∙ ap (λ (job : List ℕ). record { instance = last.instance + 1; job = job }) c.in_ok-job.ensures)
    (c.in_ok-row.ensures ∙ (ap (λ i. row i c.in_ok-job.job c.in_ok-plan.plan) c.new-instance.ensures
    ∙ (ap (λ job. row (last.instance + 1) job c.in_ok-plan.plan) c.in_ok-job.ensures
    ∙ ap (row (last.instance + 1) c.args.job.now) planned)))
    c.in_ok-add_instance.ensures.added)
