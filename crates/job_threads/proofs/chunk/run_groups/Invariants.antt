use Rattle.std.proofs.Common.{◌≡◌, length}
use Rattle.job_threads.specs.Meaning.{means_at}
use Rattle.job_threads.specs.Chunks.{Going}
use Rattle.job_threads.specs.Ports.{FoundNone}
use Rattle.job_threads.proofs.chunk.run_groups.Given as goal

abbrev pub invariant-groups : goal.invariant-groups
invariant-groups g l = Going l.roles l.chunk.size l.chunk.work l.chunk.at (g.K.Artifacts.seen l.initial.kit) (g.K.Artifacts.seen l.kit) (g.P.Port.reports l.initial.port) (g.P.Port.reports l.port) × (g.P.Port.refused l.port ≡ g.P.Port.refused l.initial.port)
    × FoundNone (g.P.Port.stops l.initial.port) (g.P.Port.stops l.port)

abbrev pub decreases-groups : goal.decreases-groups
decreases-groups g l = length (means_at l.roles.reader (g.K.Artifacts.seen l.kit)).left
