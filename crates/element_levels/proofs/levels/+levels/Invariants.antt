use Rattle.std.proofs.Common.{◌≡◌, ◌+◌, ◌*◌, ◌++◌, map, drop, Bool}
use Rattle.serde_json.specs.Data.{depth, items_depth}
use Rattle.serde_json.specs.View.{view, items_view}
use Rattle.element_numbers.specs.Numbering.{all_in}
use Rattle.element_levels.specs.Levels.{steps_left}
use Rattle.element_levels.proofs.levels.+levels.Given as goal

-- a list lies less deep than the value that it is in
abbrev pub decreases-add_all : goal.decreases-add_all
decreases-add_all l = 3 * items_depth (items_view l.list.now) + 2

abbrev pub decreases-add_inside : goal.decreases-add_inside
decreases-add_inside l = 3 * depth (view l.value.now) + 1

abbrev pub decreases-add_list : goal.decreases-add_list
decreases-add_list l = 3 * depth (view l.value.now)

-- what was added, with the rest of the list, is what the whole list adds
abbrev pub invariant-add_all-loop-value : goal.invariant-add_all-loop-value
invariant-add_all-loop-value l =
    (in_split : Bool) → l.all.items ++ map (steps_left l.left) (all_in in_split l.value-index (items_view (drop l.value-index l.list)))
    ≡ l.initial.all.items ++ map (steps_left l.left) (all_in in_split 0 (items_view l.list))
