use Rattle.std.proofs.Common.{◌-◌, map, string_bytes}
use Rattle.job_threads.specs.Steps.{Reached}
use Rattle.job_threads.proofs.group.read_group.Given as goal

abbrev pub invariant-loop-read : goal.invariant-loop-read
invariant-loop-read g l = Reached l.roles l.size l.read (map string_bytes l.kept.items) (g.K.Artifacts.seen l.initial.kit) (g.K.Artifacts.seen l.kit)

abbrev pub decreases-loop-read : goal.decreases-loop-read
decreases-loop-read g l = l.size - l.read
