use Rattle.std.proofs.Common.{◌≡◌, ℕ, ◌<◌, List, [], length, map, Vec, Global, get_or, sym, ◌∙◌, ap, subst, arith}
use Rattle.std.proofs.lemmas.List.{get_or-map, length-map}
use Rattle.std.specs.List.{All}
use Rattle.target_graph.specs.Graph.{IsGraph}
use Rattle.target_graph.proofs.graph.Graph.targets.Goals as goal

vertices : (g : List (Vec ℕ Global)) (v : ℕ) (x : Vec ℕ Global) → x ≡ get_or g v x → v < length g
    → IsGraph (map (λ (t : Vec ℕ Global). t.items) g) → All (λ w. w < length (map (λ (t : Vec ℕ Global). t.items) g)) x.items
vertices g v x is h inv =
    let e : get_or (map (λ (t : Vec ℕ Global). t.items) g) v [] ≡ x.items = get_or-map (λ (t : Vec ℕ Global). t.items) g v x [] h ∙ ap (λ (t : Vec ℕ Global). t.items) (sym is) in
    subst (λ (xs : List ℕ). All (λ w. w < length (map (λ (t : Vec ℕ Global). t.items) g)) xs) e (inv v [] (rw length-map h))

pub returns-clause-vertices : goal.returns-clause-vertices
returns-clause-vertices c k d b =
    let places : length c.self.inside.targets.items ≡ length c.args.self.now = rw length-map at (ap length c.self.view_is) in
    let all : All (λ w. w < length (map (λ (t : Vec ℕ Global). t.items) c.self.inside.targets.items)) c.index.result.now.items =
    vertices c.self.inside.targets.items c.args.vertex c.index.result.now c.index.ensures (omega (arith, c.requires, places)) c.self.invariant in
    rw c.as_slice.ensures.value (omega (arith, ap length c.self.view_is, all k d (omega (arith, b, ap length c.as_slice.ensures.value))))
