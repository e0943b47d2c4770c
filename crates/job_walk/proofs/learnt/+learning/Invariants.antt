use Rattle.std.proofs.Common.{◌+◌, ◌*◌, length}
use Rattle.jsl_model.specs.Trees.{nodes, nodes_of}
use Rattle.job_walk.proofs.learnt.+learning.Given as goal

-- an element holds more than its lists, and a list more than its elements
abbrev pub decreases-list_changes : goal.decreases-list_changes
decreases-list_changes l = 3 * length (nodes l.elements.now) + 2

abbrev pub decreases-element_changes : goal.decreases-element_changes
decreases-element_changes l = 3 * length (nodes_of l.element.now) + 1

abbrev pub decreases-split_changes : goal.decreases-split_changes
decreases-split_changes l = 3 * length (nodes_of l.element.now)
