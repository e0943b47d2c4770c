use Rattle.std.proofs.Common.{◌≡◌, drop}
use Rattle.serde_json.specs.View.{items_view}
use Rattle.rule_spots.specs.Hits.{target_hit_from}
use Rattle.rule_spots.proofs.hits.target_hit_from.Given as goal

-- the elements that are left have the first hit of all
abbrev pub invariant-loop-index : goal.invariant-loop-index
invariant-loop-index l = target_hit_from (items_view l.list) l.index (items_view (drop l.index l.list)) ≡ target_hit_from (items_view l.list) 0 (items_view l.list)
