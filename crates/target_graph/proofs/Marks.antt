-- How marks change.
use Rattle.std.proofs.Common.{◌≡◌, ℕ, suc, true, ◌+◌, ◌-◌, ◌<◌, ◌≤◌, ◌≢◌, inl, inr, List, [], length, get_or, map, refl, sym, ◌∙◌, ap, subst, arith, length-set}
use Rattle.std.proofs.lemmas.Bool.{cases_eq, cases_lt}
use Rattle.std.proofs.Math.ListN.{set, get_or-map as get_or-map-at}
use Rattle.std.proofs.lemmas.List.{get_or-set_same, get_or-set_other, get_or-map, get_or_past, length-map}
use Rattle.std.proofs.lemmas.List.Sums.{sum_by-set, sum_by-le, get_or-le-sum_by}
use Rattle.std.proofs.lemmas.Grind.{get_or_default_zero}
use Rattle.std.specs.List.{Contains}
use Rattle.target_graph.specs.declared.search.Mark.{Mark}
use Rattle.target_graph.specs.declared.search.Mark.TheVariants.{New, Open, Ranked}
use Rattle.target_graph.specs.Graph.{targets_of, IsRanked, leads}
use Rattle.target_graph.specs.Search.{stage, stage_of, is_new, is_open, is_unranked, new_in, open_in, rank_in, IsPartRanked, IsVisited}
use Rattle.target_graph.proofs.Paths.{leads-one, leads-more, leads-push}

pub stage_of-set_same : (marks : List Mark) (v : ℕ) (m : Mark) → v < length marks → stage_of (set marks v m) v ≡ stage m
stage_of-set_same marks v m h = ap stage (get_or-set_same marks v m New h)

pub stage_of-set_other : (marks : List Mark) (v u : ℕ) (m : Mark) → u ≢ v → stage_of (set marks v m) u ≡ stage_of marks u
stage_of-set_other marks v u m h = ap stage (get_or-set_other marks v u m New h)

is_new-stage : (m : Mark) → stage m ≡ 0 → is_new m ≡ 1
is_new-stage New h = refl
is_new-stage Open h = absurd (omega (arith, h))
is_new-stage (Ranked r) h = absurd (omega (arith, h))

is_new-closed : (m : Mark) → 1 < stage m → is_new m ≡ 0
is_new-closed New h = absurd (omega (arith, h))
is_new-closed Open h = refl
is_new-closed (Ranked r) h = refl

is_open-stage : (m : Mark) → stage m ≡ 1 → is_open m ≡ 1
is_open-stage New h = absurd (omega (arith, h))
is_open-stage Open h = refl
is_open-stage (Ranked r) h = absurd (omega (arith, h))

is_open-new : (m : Mark) → stage m ≡ 0 → is_open m ≡ 0
is_open-new New h = refl
is_open-new Open h = absurd (omega (arith, h))
is_open-new (Ranked r) h = absurd (omega (arith, h))

is_open-closed : (m : Mark) → 1 < stage m → is_open m ≡ 0
is_open-closed New h = absurd (omega (arith, h))
is_open-closed Open h = absurd (omega (arith, h))
is_open-closed (Ranked r) h = refl

is_open-le : (m : Mark) → is_open m ≤ 1
is_open-le New = omega arith
is_open-le Open = omega arith
is_open-le (Ranked r) = omega arith

is_unranked-stage : (m : Mark) → stage m ≤ 1 → is_unranked m ≡ 1
is_unranked-stage New h = refl
is_unranked-stage Open h = refl
is_unranked-stage (Ranked r) h = absurd (omega (arith, h))

-- a new vertex that is opened: one new vertex less
pub new_in-open : (marks : List Mark) (v : ℕ) → v < length marks → stage_of marks v ≡ 0 → new_in (set marks v Open) + 1 ≡ new_in marks
new_in-open marks v h new = omega (arith, sum_by-set is_new marks v Open New h, is_new-stage (get_or marks v New) new)

-- a new vertex that is opened: one open vertex more
pub open_in-open : (marks : List Mark) (v : ℕ) → v < length marks → stage_of marks v ≡ 0 → open_in (set marks v Open) ≡ open_in marks + 1
open_in-open marks v h new = omega (arith, sum_by-set is_open marks v Open New h, is_open-new (get_or marks v New) new)

-- at most as many vertices are open as there are
pub open_in-le : (marks : List Mark) → open_in marks ≤ length marks
open_in-le marks = omega (arith, sum_by-le is_open 1 marks (λ k d h. is_open-le (get_or marks k d)))

-- an open vertex has no rank yet
pub left_positive : (graph : List (List ℕ)) (marks : List Mark) (left v : ℕ) → IsPartRanked graph marks left → v < length graph → stage_of marks v ≡ 1 → 0 < left
left_positive graph marks left v r h open' =
    omega (arith, r.left_over, r.places, get_or-le-sum_by is_unranked marks v New (omega (arith, r.places)), is_unranked-stage (get_or marks v New) (omega (arith, open')))

-- an open vertex, all targets of which have ranks, gets the next lower one
pub close_ranked : (graph : List (List ℕ)) (marks : List Mark) (left v : ℕ) → IsPartRanked graph marks left → v < length graph → stage_of marks v ≡ 1
    → ((w : ℕ) → Contains (targets_of graph v) w → 1 < stage_of marks w)
    → IsPartRanked graph (set marks v (Ranked (left - 1))) (left - 1)
close_ranked graph marks left v r h open' reached =
    let here : v < length marks = omega (arith, r.places) in
    let some : 0 < left = left_positive graph marks left v r h open' in
    let same : stage_of (set marks v (Ranked (left - 1))) v ≡ left + 1 = omega (arith, stage_of-set_same marks v (Ranked (left - 1)) here) in
    let other = λ (u : ℕ) (ne : u ≢ v). stage_of-set_other marks v u (Ranked (left - 1)) ne in
    record {
      places = length-set marks v (Ranked (left - 1)) ∙ r.places;
      left_over = omega (arith, r.left_over, sum_by-set is_unranked marks v (Ranked (left - 1)) New here, is_unranked-stage (get_or marks v New) (omega (arith, open')));
      few = omega (arith, r.few);
      least = λ u k. elim (cases_eq u v) [
        | inl e ↦ subst (λ (x : ℕ). left - 1 + 1 < stage_of (set marks v (Ranked (left - 1))) x) (sym e) (omega arith)
        | inr ne ↦ omega (arith, other u ne, r.least u)
      ];
      below = λ u. elim (cases_eq u v) [
        | inl e ↦ subst (λ (x : ℕ). stage_of (set marks v (Ranked (left - 1))) x < length graph + 2) (sym e) (omega (arith, r.few))
        | inr ne ↦ omega (arith, other u ne, r.below u)
      ];
      rise = λ u w edge k. elim (cases_eq u v) [
        | inl e ↦
            let edge' : Contains (targets_of graph v) w = subst (λ (x : ℕ). Contains (targets_of graph x) w) e edge in
            elim (cases_eq w v) [
              | inl ew ↦ absurd (omega (arith, open', subst (λ (x : ℕ). 1 < stage_of marks x) ew (reached w edge')))
              | inr ne ↦ subst (λ (x : ℕ). stage_of (set marks v (Ranked (left - 1))) x < stage_of (set marks v (Ranked (left - 1))) w) (sym e) (omega (arith, same, other w ne, r.least w (reached w edge')))
            ]
        | inr ne ↦
            let up : stage_of marks u < stage_of marks w = r.rise u w edge (omega (arith, other u ne)) in
            elim (cases_eq w v) [
              | inl ew ↦ absurd (omega (arith, open', other u ne, subst (λ (x : ℕ). stage_of marks u < stage_of marks x) ew up))
              | inr nw ↦ omega (arith, other u ne, other w nw, up)
            ]
      ];
    }

-- a visit of a new vertex: opened, visited onwards, ranked
pub visited-close : (old new : List Mark) (v : ℕ) (m : Mark) → v < length old → length new ≡ length old → stage_of old v ≡ 0 → 1 < stage m
    → IsVisited (set old v Open) new → IsVisited old (set new v m)
visited-close old new v m h places fresh closed i = record {
  kept = λ u k. elim (cases_eq u v) [
    | inl e ↦ absurd (omega (arith, fresh, subst (λ (x : ℕ). 0 < stage_of old x) e k))
    | inr ne ↦ omega (arith, stage_of-set_other new v u m ne, stage_of-set_other old v u Open ne, i.kept u)
  ];
  opens = λ u k. elim (cases_eq u v) [
    | inl e ↦ absurd (omega (arith, closed, stage_of-set_same new v m (omega arith), subst (λ (x : ℕ). stage_of (set new v m) x ≡ 1) e k))
    | inr ne ↦ omega (arith, stage_of-set_other new v u m ne, stage_of-set_other old v u Open ne, i.opens u)
  ];
  same_open =
      let still : stage_of new v ≡ 1 = omega (arith, i.kept v, stage_of-set_same old v Open h) in
      omega (arith, i.same_open, open_in-open old v h fresh, sum_by-set is_open new v m New (omega arith), is_open-closed m closed, is_open-stage (get_or new v New) still);
  fewer = omega (arith, i.fewer, new_in-open old v h fresh, sum_by-set is_new new v m New (omega arith), is_new-closed m closed);
}

-- the vertices that are open while one is: itself, and those that were; all of them lead to its targets
pub opens-next : (graph : List (List ℕ)) (old new : List Mark) (v w : ℕ) → v < length old → stage_of old v ≡ 0
    → IsVisited (set old v Open) new
    → ((u : ℕ) → stage_of old u ≡ 1 → leads graph (open_in old) u v ≡ true)
    → Contains (targets_of graph v) w
    → (u : ℕ) → stage_of new u ≡ 1 → leads graph (open_in new) u w ≡ true
opens-next graph old new v w h fresh i opens edge u k =
    let bound : suc (open_in old) ≤ open_in new = omega (arith, i.same_open, open_in-open old v h fresh) in
    elim (cases_eq u v) [
      | inl e ↦ subst (λ (x : ℕ). leads graph (open_in new) x w ≡ true) (sym e) (leads-more graph (suc (open_in old)) (open_in new) v w bound (leads-one graph (open_in old) v w edge))
      | inr ne ↦ leads-more graph (suc (open_in old)) (open_in new) u w bound (leads-push graph (open_in old) u v w (opens u (sym (stage_of-set_other old v u Open ne) ∙ i.opens u k)) edge)
    ]

-- what holds up to the end holds of each target
pub reached-all : (targets : List ℕ) (marks : List Mark) (n : ℕ) → length targets ≤ n
    → ((k : ℕ) → k < n → 1 < stage_of marks (get_or targets k 0))
    → (w : ℕ) → Contains targets w → 1 < stage_of marks w
reached-all targets marks n h reached w (k, lt, e) =
    subst (λ (x : ℕ). 1 < stage_of marks x) (sym (get_or_default_zero targets k w lt) ∙ e) (reached k (omega (arith, lt, h)))

stage-rank : (m : Mark) → 1 < stage m → stage m ≡ rank_in m + 2
stage-rank New h = absurd (omega (arith, h))
stage-rank Open h = absurd (omega (arith, h))
stage-rank (Ranked r) h = refl

-- a vertex with a target is one of the graph's
within-edge : (graph : List (List ℕ)) (v w : ℕ) → Contains (targets_of graph v) w → v < length graph
within-edge graph v w (k, lt, e) = elim (cases_lt v (length graph)) [
  | inl h ↦ h
  | inr h ↦ absurd (omega (arith, lt, ap length (get_or_past graph v [] h)))
]

-- once each vertex has a rank, these are the graph's
pub ranked-all : (graph : List (List ℕ)) (marks : List Mark) (left : ℕ) → IsPartRanked graph marks left
    → ((v : ℕ) → v < length graph → 1 < stage_of marks v)
    → IsRanked (map rank_in marks) graph
ranked-all graph marks left r reached =
    let of : (v d : ℕ) → v < length graph → get_or (map rank_in marks) v d + 2 ≡ stage_of marks v =
    λ v d h. omega (arith, get_or-map rank_in marks v New d (omega (arith, h, r.places)), stage-rank (get_or marks v New) (reached v h)) in
    record {
      one_each = length-map marks rank_in ∙ r.places;
      below = λ k d h. omega (arith, of k d (omega (arith, h, length-map marks rank_in, r.places)), r.below k);
      rise = λ v w edge.
          let up : stage_of marks v < stage_of marks w = r.rise v w edge (reached v (within-edge graph v w edge)) in
          let some : 1 < stage_of marks v = reached v (within-edge graph v w edge) in
          omega (arith, up, get_or-map-at rank_in marks v New, get_or-map-at rank_in marks w New, stage-rank (get_or marks v New) some, stage-rank (get_or marks w New) (omega (arith, up, some)));
    }
