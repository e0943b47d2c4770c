-- The invariants of a search through a graph and its marks.
use Rattle.std.specs.Prelude.{◌≡◌, ℕ, ◌+◌, ◌<◌, ◌≤◌, List, length, slice_index, slice_index_or, sum_by, Contains}
use Rattle.target_graph.specs.declared.search.Mark.{Mark}
use Rattle.target_graph.specs.declared.search.Mark.TheVariants.{New, Open, Ranked}
use Rattle.target_graph.specs.Graph.{targets_of}

-- 0 for a new vertex, 1 for an open one, and 2 more than the rank of a ranked one
abbrev pub stage : Mark → ℕ
stage New = 0
stage Open = 1
stage (Ranked r) = r + 2

-- the stage of a vertex; a number that is no vertex counts as new
abbrev pub stage_of : List Mark → ℕ → ℕ
stage_of marks v = stage (slice_index_or marks v New)

-- 1 for a new vertex, else 0
abbrev pub is_new : Mark → ℕ
is_new New = 1
is_new Open = 0
is_new (Ranked r) = 0

-- 1 for a vertex without a rank, else 0
abbrev pub is_unranked : Mark → ℕ
is_unranked New = 1
is_unranked Open = 1
is_unranked (Ranked r) = 0

-- 1 for an open vertex, else 0
abbrev pub is_open : Mark → ℕ
is_open New = 0
is_open Open = 1
is_open (Ranked r) = 0

-- the number of vertices that are still new
abbrev pub new_in : List Mark → ℕ
new_in marks = sum_by is_new marks

-- the number of open vertices
abbrev pub open_in : List Mark → ℕ
open_in marks = sum_by is_open marks

-- the number of vertices without a rank
abbrev pub unranked_in : List Mark → ℕ
unranked_in marks = sum_by is_unranked marks

-- the rank of a ranked vertex, else 0
abbrev pub rank_in : Mark → ℕ
rank_in New = 0
rank_in Open = 0
rank_in (Ranked r) = r

-- the ranks so far: they rise along each target, and none is less than the number of vertices without a rank
pub record IsPartRanked (graph : List (List ℕ)) (marks : List Mark) (left : ℕ) : Type 0 where
  pub places : length marks ≡ length graph
  pub left_over : unranked_in marks ≡ left
  pub few : left ≤ length graph
  pub least : (v : ℕ) → 1 < stage_of marks v → left + 1 < stage_of marks v
  pub below : (v : ℕ) → stage_of marks v < length graph + 2
  pub rise : (v w : ℕ) → Contains (targets_of graph v) w → 1 < stage_of marks v → stage_of marks v < stage_of marks w

-- a visit changes only new vertices, and leaves none of them open
pub record IsVisited (old new : List Mark) : Type 0 where
  pub kept : (v : ℕ) → 0 < stage_of old v → stage_of new v ≡ stage_of old v
  pub opens : (v : ℕ) → stage_of new v ≡ 1 → stage_of old v ≡ 1
  pub same_open : open_in new ≡ open_in old
  pub fewer : new_in new ≤ new_in old

-- an open vertex under way: the first `upto` of its targets have ranks
pub record IsUnderWay (graph : List (List ℕ)) (old new : List Mark) (left : ℕ) (targets : List ℕ) (upto : ℕ) : Type 0 where
  pub ranked : IsPartRanked graph new left
  pub visited : IsVisited old new
  pub reached : (k : ℕ) → k < upto → 1 < stage_of new (slice_index targets k)

-- between visits, no vertex is open, and the first `upto` vertices have ranks
pub record IsSearched (graph : List (List ℕ)) (marks : List Mark) (left : ℕ) (upto : ℕ) : Type 0 where
  pub ranked : IsPartRanked graph marks left
  pub closed : (v : ℕ) → stage_of marks v ≡ 1 → ⊥
  pub reached : (v : ℕ) → v < upto → 1 < stage_of marks v
