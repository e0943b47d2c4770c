use Rattle.std.proofs.Common.{◌≡◌, ◌+◌, ◌≤◌}
use Rattle.job_threads.specs.Ports.{finishes}
use Rattle.job_threads.proofs.working.worker.Given as goal

abbrev pub invariant-loop-turn : goal.invariant-loop-turn
invariant-loop-turn g l =
    (l.items ≤ l._turn) × (l.idle ≤ l._turn) × (finishes (g.P.Port.reports l.port) ≡ finishes (g.P.Port.reports l.initial.port) + l.items)
    × (g.P.Port.refused l.port ≡ g.P.Port.refused l.initial.port)
