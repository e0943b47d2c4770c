use Rattle.std.proofs.Common.{◌≡◌, ◌++◌, map, drop}
use Rattle.jsl_model.specs.Trees.{joined, Node}
use Rattle.jsl_model.specs.Nodes.{node}
use Rattle.jsl_model.proofs.catalogue.add_all_artifacts.Given as goal

abbrev pub invariant-loop-node : goal.invariant-loop-node
invariant-loop-node l =
    map (λ name. name.now) l.names.items ++ joined (map (λ (m : Node). m.artifacts) (map node (drop l.node-index l.node-items)))
    ≡ map (λ name. name.now) l.fn.names.items ++ joined (map (λ (m : Node). m.artifacts) (map node l.node-items))
