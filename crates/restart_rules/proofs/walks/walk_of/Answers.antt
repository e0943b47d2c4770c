use Rattle.std.proofs.Common.{◌∙◌, ap}
use Rattle.job_plans.specs.declared.plan.Plan.{Plan}
use Rattle.job_plans.specs.Cursors.{resumed, value_in}
use Rattle.batch_history.proofs.Resuming.{resumed_value}
use Rattle.restart_rules.proofs.walks.walk_of.Goals as goal

pub returns : goal.returns
returns c works is =
    c.in_ok-value_at_first.ensures
    ∙ (ap (λ (plan : Plan). value_in (resumed c.job_of-job.result.now plan c.args.known.now)) c.get.ensures
    ∙ resumed_value c.args.catalogue.now works c.args.row.now.execution c.args.row.now.job c.job_of-job.result.now c.args.row.now.plan c.args.known.now c.job_of-job.ensures.named is)
