use Rattle.std.proofs.Common.{◌≡◌, drop}
use Rattle.catalogue_places.specs.Flaws.{first}
use Rattle.catalogue_places.proofs.readings.first.Given as goal

-- the flaws that are left have the first flaw of all
abbrev pub invariant-loop-flaw : goal.invariant-loop-flaw
invariant-loop-flaw g l = first (drop l.flaw-index l.flaws) ≡ first l.flaws
