-- The model of the borrowed nodes of a job's tree.
use Rattle.std.specs.Prelude.{ℕ, Option, Some, None, List, []}
use Rattle.std.specs.Borrow.{Bor}
use Rattle.jsl_model.specs.declared.element.Body.{Body}
use Rattle.jsl_model.specs.declared.node.Node.{Node as BorrowedNode}
use Rattle.jsl_model.specs.Trees.{Node, in_body}

-- the artifacts that a body itself names, if there is a body
abbrev pub artifacts_in : Option (Bor Body) → List (List ℕ)
artifacts_in None = []
artifacts_in (Some body) = (in_body body.now).artifacts

-- the partitions of a body, if it is a partitioned step
abbrev pub partitions_in : Option (Bor Body) → Option ℕ
partitions_in None = None
partitions_in (Some body) = (in_body body.now).partitions

-- a node: its id, its transition elements, its artifacts and its partitions
abbrev pub node : BorrowedNode → Node
node borrowed =
    record {
      id = borrowed.id.now;
      transitions = borrowed.transitions.now;
      artifacts = artifacts_in borrowed.body;
      partitions = partitions_in borrowed.body;
    }
