use Rattle.std.proofs.Common.{◌≡◌, ◌++◌, map, drop}
use Rattle.jsl_model.specs.Faults.{restarts}
use Rattle.jsl_model.specs.Nodes.{node}
use Rattle.jsl_model.proofs.naming.restarts_of.Given as goal

abbrev pub invariant-loop-node : goal.invariant-loop-node
invariant-loop-node l =
    map (λ id. id.now) l.found.items ++ restarts (map node (drop l.node-index l.nodes)) ≡ restarts (map node l.nodes)
