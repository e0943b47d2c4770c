use Rattle.std.proofs.Common.{◌≡◌, ◌≤◌, length, take}
use Rattle.lent_json.specs.Flat.{last_named}
use Rattle.lent_json.proofs.flat.last_named.Given as goal

abbrev pub invariant-loop-left : goal.invariant-loop-left
invariant-loop-left g l = (last_named l.name l.members ≡ last_named l.name (take l.left l.members)) × (l.left ≤ length l.members)

abbrev pub decreases-loop-left : goal.decreases-loop-left
decreases-loop-left g l = l.left
