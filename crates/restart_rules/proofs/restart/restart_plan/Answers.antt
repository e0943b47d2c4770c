use Rattle.std.proofs.Common.{◌≡◌, ℕ, Some, is_some, List, refl, sym}
use Rattle.jsl_model.specs.Jobs.{JobTree}
use Rattle.batch_history.specs.Replies.{restart_plan, walk_in_rows}
use Rattle.batch_history.specs.Restarts.{plan_by, restart_point}
use Rattle.batch_history.specs.Walks.{facts_by_work, job_named, walk_value}
use Rattle.batch_history.specs.declared.rows.WorkRow.{WorkRow}
use Rattle.records.specs.Left.{works_of_instance}
use Rattle.restart_rules.specs.Placed.{begins_in_job}
use Rattle.restart_rules.specs.Restarting.{rows_over}
use Rattle.restart_rules.proofs.Beginning.{begins_after, planned_alike, if_ok_same, if_ok_then}
use Rattle.restart_rules.proofs.restart.restart_plan.Goals as goal

pub returns-clause-plan : goal.returns-clause-plan
returns-clause-plan c count last =
    let job : JobTree = c.job_of-job.result.now in
    let earlier : List WorkRow = works_of_instance c.args.row.now.instance c.args.records.now.executions c.args.records.now.works in
    if_ok_same c.plan_after.result (plan_by c.in_ok-from.from earlier (Some job)) (restart_plan (rows_over c.args.catalogue.now count last c.args.records.now) c.args.row.now)
    (c.plan_after.ensures job (sym c.elements.ensures.same))
    (planned_alike job (job_named c.args.catalogue.now c.args.row.now.job) c.in_ok-from.from
    (restart_point (is_some c.args.row.now.start) (walk_in_rows (rows_over c.args.catalogue.now count last c.args.records.now) c.args.row.now) c.args.row.now.plan.from)
    earlier (works_of_instance c.args.row.now.instance c.args.records.now.executions c.args.records.now.works)
    c.job_of-job.ensures.named
    c.in_ok-from.ensures
    refl)

pub returns-clause-begins : goal.returns-clause-begins
returns-clause-begins c =
    let job : JobTree = c.job_of-job.result.now in
    let earlier : List WorkRow = works_of_instance c.args.row.now.instance c.args.records.now.executions c.args.records.now.works in
    if_ok_then c.plan_after.result (plan_by c.in_ok-from.from earlier (Some job))
    (λ plan. begins_in_job plan (job_named c.args.catalogue.now c.args.row.now.job) ≡ Rattle.std.proofs.Common.true)
    (c.plan_after.ensures job (sym c.elements.ensures.same))
    (λ plan made. begins_after job c.elements.ensures.checked c.args.row.now.plan (job_named c.args.catalogue.now c.args.row.now.job)
    (facts_by_work c.args.row.now.execution c.args.records.now.works) (is_some c.args.row.now.start)
    (walk_value c.args.catalogue.now c.args.records.now.works c.args.row.now.execution c.args.row.now.job c.args.row.now.plan)
    c.in_ok-from.from earlier plan c.job_of-job.ensures.named c.requires refl c.in_ok-from.ensures made)
