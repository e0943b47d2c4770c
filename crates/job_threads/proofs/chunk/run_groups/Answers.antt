use Rattle.std.proofs.Common.{◌∙◌}
use Rattle.job_threads.proofs.Running.{going-more, ends-stop, ends-end, reports-same}
use Rattle.job_threads.proofs.Looks.{found_none}
use Rattle.job_threads.proofs.chunk.run_groups.Goals as goal

pub returns-in-Ok-Stop-clause-groups : goal.returns-in-Ok-Stop-clause-groups
returns-in-Ok-Stop-clause-groups g c = ends-stop c.args.roles c.args.chunk.now.size c.args.chunk.now.work c.args.chunk.now.execution c.args.chunk.now.at _ _ _ _ _ _ (g.P.Port.stops c.run_group.new.port) (reports-same c.args.roles c.args.chunk.now.size c.args.chunk.now.work c.args.chunk.now.at _ _ _ _ _ c.stop_seen.ensures.reports c.groups.invariant.0) (rw c.in-Ok-Stop.field-0-is at c.in-Ok-Stop.ensures.steps)

pub returns-in-Ok-End-clause-groups : goal.returns-in-Ok-End-clause-groups
returns-in-Ok-End-clause-groups g c = ends-end c.args.roles c.args.chunk.now.size c.args.chunk.now.work c.args.chunk.now.execution c.args.chunk.now.at _ _ _ _ _ _ (g.P.Port.stops c.run_group.new.port) (reports-same c.args.roles c.args.chunk.now.size c.args.chunk.now.work c.args.chunk.now.at _ _ _ _ _ c.stop_seen.ensures.reports c.groups.invariant.0) (rw c.in-Ok-End.field-0-is at c.in-Ok-End.ensures.steps) (c.run_group.ensures.stops.1 ∙ (c.stop_seen.ensures.stops.1 ∙ c.if-stop_seen.false))

pub groups-preserved : goal.groups-preserved
groups-preserved g c = (
  going-more c.args.roles c.args.chunk.now.size c.args.chunk.now.work c.args.chunk.now.at _ _ _ _ _ _ (reports-same c.args.roles c.args.chunk.now.size c.args.chunk.now.work c.args.chunk.now.at _ _ _ _ _ c.stop_seen.ensures.reports c.groups.invariant.0) (rw c.in-Ok-More.field-0-is at c.in-Ok-More.ensures.steps),
  c.in-Ok-More.ensures.refused ∙ (c.stop_seen.ensures.refused ∙ c.groups.invariant.1),
  c.run_group.ensures.stops.2 ∙ (found_none _ _ _ c.stop_seen.ensures.stops.3 c.if-stop_seen.false ∙ c.groups.invariant.2),
)
