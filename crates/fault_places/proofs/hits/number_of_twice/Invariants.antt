use Rattle.std.proofs.Common.{◌≡◌, [], drop, map, option_map}
use Rattle.element_numbers.specs.Ways.{bare_of}
use Rattle.fault_places.specs.Sites.{number_of_twice, ids_of}
use Rattle.fault_places.proofs.hits.number_of_twice.Given as goal

-- the elements that are left have the first id of all that is among those before it
abbrev pub invariant-loop-index : goal.invariant-loop-index
invariant-loop-index l =
    number_of_twice (map (option_map (λ text. text.now)) l.before.items) l.index (ids_of (map bare_of (drop l.index l.all)))
    ≡ number_of_twice [] 0 (ids_of (map bare_of l.all))
