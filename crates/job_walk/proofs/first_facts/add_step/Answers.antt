use Rattle.std.proofs.Common.{Some}
use Rattle.job_plans.specs.Cursors.{step_at_first}
use Rattle.job_plans.proofs.Beginning.{partition-next}
use Rattle.job_walk.proofs.first_facts.add_step.Goals as goal

pub loop-partition-preserved : goal.loop-partition-preserved
loop-partition-preserved c =
    partition-next (step_at_first c.args.plan.now c.args.known.now (Some c.in-Some.count)) c.args.id.now c.loop-partition.partition c.args.facts.now.items c.loop-partition.facts.items
    c.add_partition-in-loop-partition.new.facts.items c.loop-partition.invariant c.in_ok-add_partition-in-Some.ensures
