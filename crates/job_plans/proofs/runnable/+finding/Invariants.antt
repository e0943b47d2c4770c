use Rattle.std.proofs.Common.{◌≡◌, ◌+◌, ◌*◌, length, map, drop}
use Rattle.jsl_model.specs.Trees.{joined, nodes, nodes_of}
use Rattle.job_plans.specs.Runnables.{leaves, all_leaves, leaves_of_flow, run_with}
use Rattle.job_plans.proofs.runnable.+finding.Given as goal

abbrev pub invariant-find_inside-loop-flow : goal.invariant-find_inside-loop-flow
invariant-find_inside-loop-flow l = run_with (joined (map leaves_of_flow (drop l.flow-index l.flow-items))) l.key ≡ run_with (leaves l.element) l.key

abbrev pub invariant-find_body-loop-element : goal.invariant-find_body-loop-element
invariant-find_body-loop-element l = run_with (all_leaves (drop l.element-index l.elements)) l.key ≡ run_with (all_leaves l.elements) l.key

-- an element holds more than its lists, and a list more than its elements
abbrev pub decreases-find_body : goal.decreases-find_body
decreases-find_body l = 2 * length (nodes l.elements.now) + 1

abbrev pub decreases-find_inside : goal.decreases-find_inside
decreases-find_inside l = 2 * length (nodes_of l.element.now)
