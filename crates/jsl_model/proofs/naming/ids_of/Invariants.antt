use Rattle.std.proofs.Common.{◌≡◌, map, take}
use Rattle.jsl_model.specs.Faults.{node_ids}
use Rattle.jsl_model.specs.Nodes.{node}
use Rattle.jsl_model.proofs.naming.ids_of.Given as goal

abbrev pub invariant-loop-node : goal.invariant-loop-node
invariant-loop-node l = map (λ id. id.now) l.ids.items ≡ node_ids (map node (take l.node-index l.nodes))
