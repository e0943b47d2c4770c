use Rattle.std.proofs.Common.{◌≡◌, length}
use Rattle.built_in_artifacts.proofs.pooling.pool_with_built_ins.Given as goal

abbrev pub invariant-loop-worker : goal.invariant-loop-worker
invariant-loop-worker g l = length l.kits.items ≡ l._worker
