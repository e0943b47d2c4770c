use Rattle.std.proofs.Common.{◌≡◌, ◌++◌, take, drop}
use Rattle.catalogue_growth.proofs.growth.first_other.Given as goal

abbrev pub invariant-loop-number : goal.invariant-loop-number
invariant-loop-number l = l.given ≡ take l.number l.kept ++ drop l.number l.given
