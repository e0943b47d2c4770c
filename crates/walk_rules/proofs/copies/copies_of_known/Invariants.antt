use Rattle.std.proofs.Common.{◌≡◌, take}
use Rattle.walk_rules.proofs.copies.copies_of_known.Given as goal

abbrev pub invariant-loop-one : goal.invariant-loop-one
invariant-loop-one l = l.copies.items ≡ take l.one-index l.known
