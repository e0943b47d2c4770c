use Rattle.std.proofs.Common.{◌≡◌, drop}
use Rattle.walk_rules.specs.Keys.{has_key}
use Rattle.walk_rules.proofs.work_key.has_key.Given as goal

abbrev pub invariant-loop-one : goal.invariant-loop-one
invariant-loop-one l = has_key (drop l.one-index l.keys) l.key ≡ has_key l.keys l.key
