use Rattle.std.proofs.Common.{◌≡◌, length}
use Rattle.worker_cases.proofs.pools.work_together.Given as goal

abbrev pub invariant-loop-worker : goal.invariant-loop-worker
invariant-loop-worker g l = length l.kits.items ≡ l._worker
