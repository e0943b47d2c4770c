-- A graph is the list of each vertex's targets. A vertex is an index of that list.
use Rattle.std.specs.Prelude.{◌≡◌, ℕ, zero, suc, ◌<◌, ◌||◌, Bool, false, List, [], ◌∷◌, length, nat_eq, slice_index, slice_index_or, All, Contains}
use Rattle.std.specs.List.{list_any, range_with_len}

-- the targets of a vertex
abbrev pub targets_of : List (List ℕ) → ℕ → List ℕ
targets_of graph v = slice_index_or graph v []

-- each target is a vertex
abbrev pub IsGraph : List (List ℕ) → Type 0
IsGraph graph = All (λ targets. All (λ w. w < length graph) targets) graph

-- ranks, one for each vertex and less than the number of vertices, that rise along each target
pub record IsRanked (ranks : List ℕ) (graph : List (List ℕ)) : Type 0 where
  pub one_each : length ranks ≡ length graph
  pub below : All (λ r. r < length graph) ranks
  pub rise : (v w : ℕ) → Contains (targets_of graph v) w → slice_index ranks v < slice_index ranks w

-- whether a path of at least one and at most this many targets leads from one vertex to another
unfoldable pub leads : List (List ℕ) → ℕ → ℕ → ℕ → Bool
leads graph zero from to = false
leads graph (suc most) from to = list_any (λ next. nat_eq next to || leads graph most next to) (targets_of graph from)

-- whether a path leads from some vertex back to itself, with at most as many targets as the graph has
-- vertices
abbrev pub has_cycle : List (List ℕ) → Bool
has_cycle graph = list_any (λ v. leads graph (length graph) v v) (range_with_len 0 (length graph))

-- a path: each vertex on it has the next one as a target
abbrev pub IsPath : List (List ℕ) → ℕ → List ℕ → ℕ → Type 0
IsPath graph from [] to = Contains (targets_of graph from) to
IsPath graph from (next ∷ rest) to = Contains (targets_of graph from) next × IsPath graph next rest to

-- a path of any length leads from some vertex back to itself
abbrev pub HasCycle : List (List ℕ) → Type 0
HasCycle graph = (v : ℕ) × (between : List ℕ) × IsPath graph v between v
