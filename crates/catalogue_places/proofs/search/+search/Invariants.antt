use Rattle.std.proofs.Common.{◌+◌, ◌*◌}
use Rattle.serde_json.specs.Data.{depth, items_depth}
use Rattle.serde_json.specs.View.{view, items_view}
use Rattle.catalogue_places.proofs.search.+search.Given as goal

-- a list lies less deep than the value that it is in
abbrev pub decreases-wrong_in : goal.decreases-wrong_in
decreases-wrong_in l = 2 * items_depth (items_view l.list.now) + 1

abbrev pub decreases-wrong_inside : goal.decreases-wrong_inside
decreases-wrong_inside l = 2 * depth (view l.value.now)
