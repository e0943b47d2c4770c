use Rattle.target_graph.specs.Search.{IsSearched}
use Rattle.target_graph.proofs.search.ranks.Given as goal

abbrev pub invariant-loop-vertex : goal.invariant-loop-vertex
invariant-loop-vertex l = IsSearched l.graph l.marks.items l.rest l.vertex
