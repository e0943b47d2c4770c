use Rattle.std.proofs.Common.{◌≡◌, ◌∙◌, arith, sym, ap, map, subst, List, ℕ}
use Rattle.target_graph.specs.Graph.{IsRanked}
use Rattle.target_graph.specs.Search.{rank_in}
use Rattle.target_graph.proofs.Marks.{ranked-all}
use Rattle.target_graph.proofs.Paths.{ranked-no_cycle}
use Rattle.target_graph.proofs.search.ranks.Goals as goal

ranks_found : goal.returns-clause-ranked
ranks_found c =
    let e : c.in_ok-found.found.items ≡ map rank_in c.loop-vertex.marks.items = c.in_ok-found.ensures ∙ ap (map rank_in) c.deref.ensures.value in
    subst (λ (xs : List ℕ). IsRanked xs c.args.graph.now) (sym e)
    (ranked-all c.args.graph.now c.loop-vertex.marks.items c.loop-vertex.rest c.loop-vertex.invariant.ranked (λ v h. c.loop-vertex.invariant.reached v (omega arith)))

pub returns-clause-ranked : goal.returns-clause-ranked
returns-clause-ranked c = ranks_found c

pub returns-clause-cycle : goal.returns-clause-cycle
returns-clause-cycle c = ranked-no_cycle c.args.graph.now c.in_ok-found.found.items (ranks_found c)
