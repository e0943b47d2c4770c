use Rattle.std.proofs.Common.{◌≡◌, drop, map}
use Rattle.jsl_model.specs.Faults.{has_many_partitions}
use Rattle.jsl_model.specs.Nodes.{node}
use Rattle.jsl_model.proofs.faults.have_many_partitions.Given as goal

abbrev pub invariant-loop-one : goal.invariant-loop-one
invariant-loop-one l =
    has_many_partitions (map node (drop l.one-index l.nodes)) ≡ has_many_partitions (map node l.nodes)
