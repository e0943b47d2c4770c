use Rattle.std.proofs.Common.{◌≡◌, ℕ, ◌<◌, length, ◌-◌, get_or, sym, ap, subst, arith}
use Rattle.std.proofs.lemmas.List.Elements.{Contains-get_or}
use Rattle.std.specs.List.{Contains}
use Rattle.target_graph.specs.Graph.{targets_of}
use Rattle.target_graph.specs.Search.{stage, stage_of, open_in}
use Rattle.target_graph.specs.declared.search.Mark.TheVariants.{Open, Ranked}
use Rattle.target_graph.proofs.Marks.{left_positive, close_ranked, visited-close, opens-next, reached-all, new_in-open, open_in-le, stage_of-set_same}
use Rattle.target_graph.proofs.Paths.{leads-cycle}
use Rattle.target_graph.proofs.search.+visit.Goals as goal

pub visit-requires : goal.visit-requires
visit-requires t c =
    let target : ℕ = get_or c.targets-target-items.result.now c.loop-target.target-index 0 in
    let here : c.args.vertex < length c.args.marks.now = omega (arith, c.requires.ranked.places, c.requires.within) in
    let edge : Contains (targets_of c.args.graph.now c.args.vertex) target =
    subst (λ xs. Contains xs target) c.targets-target-items.ensures.targets (Contains-get_or c.targets-target-items.result.now c.loop-target.target-index 0 c.loop-target-test.true) in (
      omega (arith, c.decreases, c.loop-target.invariant.visited.fewer, new_in-open c.args.marks.now c.args.vertex here c.requires.new),
      (
        c.loop-target.invariant.ranked,
        (
          c.targets-target-items.ensures.vertices c.loop-target.target-index 0 c.loop-target-test.true,
          (
            ap stage c.in-New.is,
            opens-next c.args.graph.now c.args.marks.now c.loop-target.marks c.args.vertex target here c.requires.new c.loop-target.invariant.visited c.requires.opens edge,
          ),
        ),
      ),
    )

pub returns-in-Open-clause-cycle : goal.returns-in-Open-clause-cycle
returns-in-Open-clause-cycle t c e =
    let target : ℕ = get_or c.targets-target-items.result.now c.loop-target.target-index 0 in
    let here : c.args.vertex < length c.args.marks.now = omega (arith, c.requires.ranked.places, c.requires.within) in
    let edge : Contains (targets_of c.args.graph.now c.args.vertex) target =
    subst (λ xs. Contains xs target) c.targets-target-items.ensures.targets (Contains-get_or c.targets-target-items.result.now c.loop-target.target-index 0 c.loop-target-test.true) in
    let round = opens-next c.args.graph.now c.args.marks.now c.loop-target.marks c.args.vertex target here c.requires.new c.loop-target.invariant.visited c.requires.opens edge target (ap stage c.in-Open.is) in
    leads-cycle c.args.graph.now (open_in c.loop-target.marks) target (c.targets-target-items.ensures.vertices c.loop-target.target-index 0 c.loop-target-test.true)
    (omega (arith, open_in-le c.loop-target.marks, c.loop-target.invariant.ranked.places)) round

pub overflow_sub-rest : goal.overflow_sub-rest
overflow_sub-rest t c =
    let here : c.args.vertex < length c.args.marks.now = omega (arith, c.requires.ranked.places, c.requires.within) in
    let open' : stage_of c.loop-target.marks c.args.vertex ≡ 1 =
    omega (arith, c.loop-target.invariant.visited.kept c.args.vertex, stage_of-set_same c.args.marks.now c.args.vertex Open here) in
    left_positive c.args.graph.now c.loop-target.marks c.loop-target.rest c.args.vertex c.loop-target.invariant.ranked c.requires.within open'

pub returns-clause-ranked : goal.returns-clause-ranked
returns-clause-ranked t c =
    let here : c.args.vertex < length c.args.marks.now = omega (arith, c.requires.ranked.places, c.requires.within) in
    let open' : stage_of c.loop-target.marks c.args.vertex ≡ 1 =
    omega (arith, c.loop-target.invariant.visited.kept c.args.vertex, stage_of-set_same c.args.marks.now c.args.vertex Open here) in
    close_ranked c.args.graph.now c.loop-target.marks c.loop-target.rest c.args.vertex c.loop-target.invariant.ranked c.requires.within open'
    (λ w edge. reached-all c.targets-target-items.result.now c.loop-target.marks c.loop-target.target-index c.loop-target-test.false
    c.loop-target.invariant.reached w (subst (λ xs. Contains xs w) (sym c.targets-target-items.ensures.targets) edge))

pub returns-clause-visited : goal.returns-clause-visited
returns-clause-visited t c =
    let here : c.args.vertex < length c.args.marks.now = omega (arith, c.requires.ranked.places, c.requires.within) in
    visited-close c.args.marks.now c.loop-target.marks c.args.vertex (Ranked (c.loop-target.rest - 1)) here
    (omega (arith, c.loop-target.invariant.ranked.places, c.requires.ranked.places)) c.requires.new (omega arith) c.loop-target.invariant.visited
