-- The meaning of artifacts to the worker that calls them, and the kit that has them.
use Rattle.std.specs.Prelude.{ℕ, zero, suc, ◌+◌, nat_eq, cond, map, List, [], ◌∷◌, Option, Some, None}
use Rattle.std.specs.Cmp.Lexicographic.{pointwise}

-- an item that a reader hasn't read yet, with the reader's checkpoint after it is read
pub record Coming : Type 0 where
  pub item : List ℕ
  pub mark : List ℕ

-- an artifact's description of itself for a partition. For a reader, it has the items that an open leaves, by
-- the checkpoint. For a processor, it has the result for each item; for a batchlet or decider, the exit
-- status of its next run
pub record Told : Type 0 where
  pub opens : Option (List ℕ) → List Coming
  pub gives : List ℕ → Option (List ℕ)
  pub exit : Option (List ℕ)

-- an artifact's description of itself: for each partition, and for the current one. For a reader, also the
-- items that are left, and its checkpoint; for a writer, the groups that it has, if they are described. It
-- also counts the faults of begin and open, and those of other calls
pub record Meaning : Type 0 where
  pub begins : Option ℕ → Told
  pub opens : Option (List ℕ) → List Coming
  pub left : List Coming
  pub mark : List ℕ
  pub gives : List ℕ → Option (List ℕ)
  pub exit : Option (List ℕ)
  pub holds : Option (List (List (List ℕ)))
  pub open_faults : ℕ
  pub faults : ℕ

-- an artifact after its partition was set, or set to none
abbrev pub begun : Option ℕ → Meaning → Meaning
begun p m = record m { opens = (m.begins p).opens; gives = (m.begins p).gives; exit = (m.begins p).exit }

-- an artifact of a kit, with its name
pub record Known : Type 0 where
  pub name : List ℕ
  pub meaning : Meaning

abbrev pub known : List ℕ → Meaning → Known
known n m = record { name = n; meaning = m }

-- the description of an artifact that does nothing, for any partition
abbrev pub silent : Told
silent = record { opens = λ _. []; gives = λ _. None; exit = None }

abbrev pub nobody : Meaning
nobody =
    record {
      begins = λ _. silent;
      opens = λ _. [];
      left = [];
      mark = [];
      gives = λ _. None;
      exit = None;
      holds = None;
      open_faults = 0;
      faults = 0;
    }

-- the meaning of the artifact at this index
abbrev pub means_at : ℕ → List Known → Meaning
means_at _ [] = nobody
means_at zero (k ∷ ks) = k.meaning
means_at (suc n) (k ∷ ks) = means_at n ks

-- the kit with another meaning at this index
abbrev pub put_at : ℕ → Meaning → List Known → List Known
put_at _ _ [] = []
put_at zero m (k ∷ ks) = known k.name m ∷ ks
put_at (suc n) m (k ∷ ks) = k ∷ put_at n m ks

-- the names of a kit
abbrev pub names : List Known → List (List ℕ)
names ks = map (λ (k : Known). k.name) ks

-- the index of the first of these names that equals this one, counted from i
abbrev pub place_from : ℕ → List ℕ → List (List ℕ) → Option ℕ
place_from i _ [] = None
place_from i name (n ∷ ns) = cond (pointwise nat_eq n name) (Some i) (place_from (i + 1) name ns)

abbrev pub place_of : List ℕ → List Known → Option ℕ
place_of name ks = place_from 0 name (names ks)
