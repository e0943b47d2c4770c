-- Walks of a bounded number of targets: they last as the bound grows, grow by a target at their end, and are paths.
use Rattle.std.proofs.Common.{◌≡◌, ℕ, zero, suc, ◌<◌, ◌≤◌, ◌||◌, Bool, true, false, List, [], ◌∷◌, length, nat_eq, slice_index, inl, inr, arith, sym, subst}
use Rattle.std.proofs.lemmas.Bool.{or_cases, or_left, or_right, false_from_ne_true}
use Rattle.std.proofs.lemmas.List.FromFn.{length-range_with_len, get_or-range_with_len}
use Rattle.std.proofs.lemmas.List.Folds.{Any-from_list_any, list_any-from_Any}
use Rattle.std.specs.List.{Any, Contains, list_any, range_with_len}
use Rattle.target_graph.specs.Graph.{targets_of, IsPath, IsRanked, HasCycle, leads, has_cycle}

same_number : (a b : ℕ) → nat_eq a b ≡ true → a ≡ b
same_number a b e = grind arith

number_itself : (a : ℕ) → nat_eq a a ≡ true
number_itself a = grind arith

any-mono : (p q : ℕ → Bool) (xs : List ℕ) → ((x : ℕ) → p x ≡ true → q x ≡ true) → list_any p xs ≡ true → list_any q xs ≡ true
any-mono p q [] more e = cc
any-mono p q (x ∷ xs) more e = elim (or_cases (p x) (list_any p xs) e) [
  | inl here ↦ or_left (q x) (list_any q xs) (more x here)
  | inr there ↦ or_right (q x) (list_any q xs) (any-mono p q xs more there)
]

-- a target leads there, within any bound above 0
pub leads-one : (graph : List (List ℕ)) (most v w : ℕ) → Contains (targets_of graph v) w → leads graph (suc most) v w ≡ true
unfolding leads
leads-one graph most v w (k, lt, e) =
    list_any-from_Any (λ next. nat_eq next w || leads graph most next w) (targets_of graph v)
    (k, w, lt, e, or_left (nat_eq w w) (leads graph most w w) (number_itself w))

-- a larger bound
pub leads-more : (graph : List (List ℕ)) (most larger from to : ℕ) → most ≤ larger → leads graph most from to ≡ true → leads graph larger from to ≡ true
unfolding leads
leads-more graph zero larger from to h e = cc
leads-more graph (suc most) zero from to h e = absurd (omega (arith, h))
leads-more graph (suc most) (suc larger) from to h e =
    any-mono (λ next. nat_eq next to || leads graph most next to) (λ next. nat_eq next to || leads graph larger next to) (targets_of graph from)
    (λ next is. elim (or_cases (nat_eq next to) (leads graph most next to) is) [
      | inl here ↦ or_left (nat_eq next to) (leads graph larger next to) here
      | inr on ↦ or_right (nat_eq next to) (leads graph larger next to) (leads-more graph most larger next to (omega (arith, h)) on)
    ])
    e

-- one more target at the end
pub leads-push : (graph : List (List ℕ)) (most u v w : ℕ) → leads graph most u v ≡ true → Contains (targets_of graph v) w → leads graph (suc most) u w ≡ true
unfolding leads
leads-push graph zero u v w e edge = cc
leads-push graph (suc most) u v w e edge =
    any-mono (λ next. nat_eq next v || leads graph most next v) (λ next. nat_eq next w || leads graph (suc most) next w) (targets_of graph u)
    (λ next is. or_right (nat_eq next w) (leads graph (suc most) next w) (elim (or_cases (nat_eq next v) (leads graph most next v) is) [
      | inl here ↦ subst (λ (x : ℕ). leads graph (suc most) x w ≡ true) (sym (same_number next v here)) (leads-one graph most v w edge)
      | inr on ↦ leads-push graph most next v w on edge
    ]))
    e

-- a vertex that leads back to itself makes a cycle
pub leads-cycle : (graph : List (List ℕ)) (most v : ℕ) → v < length graph → most ≤ length graph → leads graph most v v ≡ true → has_cycle graph ≡ true
leads-cycle graph most v h bound e =
    list_any-from_Any (λ v. leads graph (length graph) v v) (range_with_len 0 (length graph))
    (v, v, omega (arith, h, length-range_with_len 0 (length graph)), omega (arith, get_or-range_with_len 0 (length graph) v v h), leads-more graph most (length graph) v v bound e)

-- what leads there leads along a path
pub leads-path : (graph : List (List ℕ)) (most from to : ℕ) → leads graph most from to ≡ true → (between : List ℕ) × IsPath graph from between to
unfolding leads
leads-path graph zero from to e = cc
leads-path graph (suc most) from to e =
    let first : Any (λ next. (nat_eq next to || leads graph most next to) ≡ true) (targets_of graph from) =
    Any-from_list_any (λ next. nat_eq next to || leads graph most next to) (targets_of graph from) e in
    elim (or_cases (nat_eq first.1 to) (leads graph most first.1 to) first.4) [
      | inl here ↦ ([], subst (λ (x : ℕ). Contains (targets_of graph from) x) (same_number first.1 to here) (first.0, first.2, first.3))
      | inr on ↦ let rest : (between : List ℕ) × IsPath graph first.1 between to = leads-path graph most first.1 to on in
          (first.1 ∷ rest.0, ((first.0, first.2, first.3), rest.1))
    ]

pub cycle-path : (graph : List (List ℕ)) → has_cycle graph ≡ true → HasCycle graph
cycle-path graph e =
    let found : Any (λ v. leads graph (length graph) v v ≡ true) (range_with_len 0 (length graph)) =
    Any-from_list_any (λ v. leads graph (length graph) v v) (range_with_len 0 (length graph)) e in
    let path : (between : List ℕ) × IsPath graph found.1 between found.1 = leads-path graph (length graph) found.1 found.1 found.4 in
    (found.1, path.0, path.1)

path-rises : (graph : List (List ℕ)) (ranks : List ℕ) → IsRanked ranks graph → (from : ℕ) (between : List ℕ) (to : ℕ)
    → IsPath graph from between to → slice_index ranks from < slice_index ranks to
path-rises graph ranks r from [] to p = r.rise from to p
path-rises graph ranks r from (next ∷ rest) to p = omega (arith, r.rise from next p.0, path-rises graph ranks r next rest to p.1)

pub no_cycle : (graph : List (List ℕ)) (ranks : List ℕ) → IsRanked ranks graph → HasCycle graph → ⊥
no_cycle graph ranks r (v, between, p) = omega (arith, path-rises graph ranks r v between v p)

-- a graph with ranks has no cycle
pub ranked-no_cycle : (graph : List (List ℕ)) (ranks : List ℕ) → IsRanked ranks graph → false ≡ has_cycle graph
ranked-no_cycle graph ranks r = sym (false_from_ne_true (has_cycle graph) (λ e. no_cycle graph ranks r (cycle-path graph e)))
