use Rattle.std.proofs.Common.{◌≡◌, drop}
use Rattle.serde_json.specs.View.{items_view}
use Rattle.catalogue_places.specs.Flaws.{transitions_spot_in}
use Rattle.catalogue_places.proofs.elements.transitions_spot_in.Given as goal

-- the transition elements that are left have the first flaw of all
abbrev pub invariant-loop-index : goal.invariant-loop-index
invariant-loop-index l = transitions_spot_in l.index (items_view (drop l.index l.list)) ≡ transitions_spot_in 0 (items_view l.list)
