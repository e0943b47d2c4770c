use Rattle.std.proofs.Common.{◌≡◌, ◌++◌, ◌+◌, ◌*◌, length, map, drop}
use Rattle.std.specs.List.{flat_map}
use Rattle.jsl_model.specs.Trees.{joined, nodes, nodes_of}
use Rattle.job_plans.specs.Cursors.{known_at_first}
use Rattle.job_plans.specs.Runnables.{leaves, leaves_of_flow, all_leaves}
use Rattle.job_walk.proofs.first_facts.+knowing.Given as goal

abbrev pub invariant-add_inside-loop-flow : goal.invariant-add_inside-loop-flow
invariant-add_inside-loop-flow l =
    l.facts.items ++ flat_map (known_at_first l.plan l.known) (joined (map leaves_of_flow (drop l.flow-index l.flow-items)))
    ≡ l.fn.facts.items ++ flat_map (known_at_first l.plan l.known) (leaves l.element)

abbrev pub invariant-add_all-loop-element : goal.invariant-add_all-loop-element
invariant-add_all-loop-element l =
    l.facts.items ++ flat_map (known_at_first l.plan l.known) (all_leaves (drop l.element-index l.elements))
    ≡ l.fn.facts.items ++ flat_map (known_at_first l.plan l.known) (all_leaves l.elements)

-- an element holds more than its lists, and a list more than its elements
abbrev pub decreases-add_all : goal.decreases-add_all
decreases-add_all l = 2 * length (nodes l.elements.now) + 1

abbrev pub decreases-add_inside : goal.decreases-add_inside
decreases-add_inside l = 2 * length (nodes_of l.element.now)
