use Rattle.std.proofs.Common.{◌≡◌, drop, map, option_map}
use Rattle.std.specs.List.{list_any}
use Rattle.fault_places.specs.Sites.{same_id}
use Rattle.fault_places.proofs.hits.has_id.Given as goal

-- one of the ids is this one exactly if one of those that are left is
abbrev pub invariant-loop-other : goal.invariant-loop-other
invariant-loop-other l =
    list_any (same_id (option_map (λ text. text.now) l.id)) (map (option_map (λ text. text.now)) (drop l.other-index l.ids))
    ≡ list_any (same_id (option_map (λ text. text.now) l.id)) (map (option_map (λ text. text.now)) l.ids)
