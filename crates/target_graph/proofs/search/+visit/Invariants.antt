use Rattle.std.proofs.Math.ListN.{set}
use Rattle.target_graph.specs.declared.search.Mark.TheVariants.{Open}
use Rattle.target_graph.specs.Search.{new_in, IsUnderWay}
use Rattle.target_graph.proofs.search.+visit.Given as goal

abbrev pub decreases-visit : goal.decreases-visit
decreases-visit l = new_in l.marks.now

abbrev pub invariant-loop-target : goal.invariant-loop-target
invariant-loop-target l = IsUnderWay l.graph (set l.fn.marks l.vertex Open) l.marks l.rest l.target-items l.target-index
