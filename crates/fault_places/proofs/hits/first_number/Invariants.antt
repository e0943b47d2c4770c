use Rattle.std.proofs.Common.{◌≡◌, drop, map, is_some}
use Rattle.serde_json.specs.View.{items_view}
use Rattle.element_numbers.specs.Ways.{bare_of}
use Rattle.rule_spots.specs.Hits.{hit_of}
use Rattle.fault_places.specs.Sites.{number_from}
use Rattle.fault_places.proofs.hits.first_number.Given as goal

-- the elements that are left have the first hit of all
abbrev pub invariant-loop-index : goal.invariant-loop-index
invariant-loop-index l =
    number_from (λ e. is_some (hit_of l.fault (items_view l.elements) e.1)) l.index (map bare_of (drop l.index l.all))
    ≡ number_from (λ e. is_some (hit_of l.fault (items_view l.elements) e.1)) 0 (map bare_of l.all)
