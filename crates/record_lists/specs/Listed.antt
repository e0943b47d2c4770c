-- Checkpoints in one list per job instance, by the number of the job instance.
use Rattle.std.specs.Prelude.{◌≡◌, ℕ, List, [], ◌∷◌}
use Rattle.std.specs.List.{flat_map}
use Rattle.std.specs.List.Sorted.{IsStrictlySortedBy}
use Rattle.std.specs.Map.{keys_of}
use Rattle.std.specs.Ordering.{nat_cmp}
use Rattle.batch_history.specs.declared.rows.CheckpointRow.{CheckpointRow}
use Rattle.record_lists.specs.Places.{AreApart}

-- each checkpoint belongs to this job instance
abbrev pub AreOf : ℕ → List CheckpointRow → Type 0
AreOf i [] = Unit {0}
AreOf i (row ∷ rest) = (row.instance ≡ i) × AreOf i rest

module _ {X : Type 0} (rows : X → List CheckpointRow) where
  -- all checkpoints, as the lists of the job instances one after the other
  abbrev pub rows_listed : List (ℕ × X) → List CheckpointRow
  rows_listed lists = flat_map (λ e. rows e.1) lists

  -- each list has checkpoints of its own job instance only, and at most one of each step
  abbrev pub AreOwn : List (ℕ × X) → Type 0
  AreOwn [] = Unit {0}
  AreOwn (e ∷ rest) = AreOf e.0 (rows e.1) × AreApart (rows e.1) × AreOwn rest

  -- the lists are in ascending order of their job instances, and each has its own checkpoints only
  pub record AreListed (lists : List (ℕ × X)) : Type 0 where
    pub rising : IsStrictlySortedBy nat_cmp (keys_of lists)
    pub own : AreOwn lists
