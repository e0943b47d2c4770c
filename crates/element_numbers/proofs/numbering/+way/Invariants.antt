use Rattle.std.proofs.Common.{◌≡◌, ◌+◌, ◌*◌, Bool, drop}
use Rattle.serde_json.specs.Data.{depth, items_depth}
use Rattle.serde_json.specs.View.{view, items_view}
use Rattle.element_numbers.specs.Numbering.{all_in}
use Rattle.element_numbers.specs.Ways.{way_to}
use Rattle.element_numbers.proofs.numbering.+way.Given as goal

-- a list lies less deep than the value that it is in
abbrev pub decreases-way_in : goal.decreases-way_in
decreases-way_in l = 4 * items_depth (items_view l.list.now) + 3

abbrev pub decreases-way_at : goal.decreases-way_at
decreases-way_at l = 4 * depth (view l.value.now) + 2

abbrev pub decreases-way_inside : goal.decreases-way_inside
decreases-way_inside l = 4 * depth (view l.value.now) + 1

abbrev pub decreases-way_by : goal.decreases-way_by
decreases-way_by l = 4 * depth (view l.value.now)

-- the way goes on in the rest of the list
abbrev pub invariant-way_in-loop-index : goal.invariant-way_in-loop-index
invariant-way_in-loop-index l =
    (in_split : Bool) → way_to l.left (all_in in_split l.index (items_view (drop l.index l.list))) ≡ way_to l.number (all_in in_split 0 (items_view l.list))
