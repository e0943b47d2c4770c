use Rattle.std.proofs.Common.{◌≡◌, ◌++◌, take}
use Rattle.walk_rules.proofs.copies.add_keys.Given as goal

abbrev pub invariant-loop-key : goal.invariant-loop-key
invariant-loop-key l = l.to.items ≡ l.initial.to.items ++ take l.key-index l.more
