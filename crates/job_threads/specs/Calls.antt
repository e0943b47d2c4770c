-- The results of an artifact's calls, by its meaning before and after.
use Rattle.std.specs.Prelude.{ℕ, List, [], ◌∷◌, ◌++◌, Option, Some, None, option_map, Result, Ok, Err, ◌≡◌, ◌<◌, String, string_bytes}
use Rattle.std.specs.declared.alloc.Global.{Global}
use Rattle.job_threads.specs.declared.artifact.ArtifactFault.{ArtifactFault}
use Rattle.job_threads.specs.Meaning.{Coming, Meaning, Known, begun, means_at, put_at}

-- a call other than begin and open faulted: the fault is counted, and the writer's groups are unchanged
pub record Faulted (m n : Meaning) : Type 0 where
  pub counted : m.faults < n.faults
  pub holds : n.holds ≡ m.holds

-- a begin or an open faulted
pub record Unopened (m n : Meaning) : Type 0 where
  pub counted : m.open_faults < n.open_faults
  pub holds : n.holds ≡ m.holds

-- the reader starts again: an open with this checkpoint determines the items that are left
abbrev pub opened : Option (List ℕ) → List ℕ → Meaning → Meaning
opened at mark m = record m { left = m.opens at; mark = mark }

-- one item less is left
abbrev pub passed : List Coming → List ℕ → Meaning → Meaning
passed rest mark m = record m { left = rest; mark = mark }

-- the writer has one more group, if its groups are described
abbrev pub taken : List (List ℕ) → Meaning → Meaning
taken group m = record m { holds = option_map (λ gs. gs ++ group ∷ []) m.holds }

abbrev pub Beginning : Option ℕ → Result (Unit {0}) ArtifactFault → Meaning → Meaning → Type 0
Beginning p (Ok _) m n = n ≡ begun p m
Beginning p (Err _) m n = Unopened m n

abbrev pub Opening : Option (List ℕ) → Result (Unit {0}) ArtifactFault → Meaning → Meaning → Type 0
Opening at (Ok _) m n = (mark : List ℕ) × (n ≡ opened at mark m)
Opening at (Err _) m n = Unopened m n

-- an item was read, or the end was found, or the reader faulted
abbrev pub Reading : Result (Option (String Global)) ArtifactFault → Meaning → Meaning → Type 0
Reading (Ok (Some x)) m n = (c : Coming) × (rest : List Coming) × (m.left ≡ c ∷ rest) × (c.item ≡ string_bytes x) × (n ≡ passed rest c.mark m)
Reading (Ok None) m n = (m.left ≡ []) × (n ≡ m)
Reading (Err _) m n = Faulted m n

abbrev pub Processing : List ℕ → Result (Option (String Global)) ArtifactFault → Meaning → Meaning → Type 0
Processing item (Ok r) m n = (option_map string_bytes r ≡ m.gives item) × (n ≡ m)
Processing item (Err _) m n = Faulted m n

abbrev pub Writing : List (List ℕ) → Result (Unit {0}) ArtifactFault → Meaning → Meaning → Type 0
Writing group (Ok _) m n = n ≡ taken group m
Writing group (Err _) m n = Faulted m n

abbrev pub Marking : Result (String Global) ArtifactFault → Meaning → Meaning → Type 0
Marking (Ok r) m n = (string_bytes r ≡ m.mark) × (n ≡ m)
Marking (Err _) m n = Faulted m n

abbrev pub Running : Result (Option (List ℕ)) ArtifactFault → Meaning → Meaning → Type 0
Running (Ok exit) m n = (exit ≡ m.exit) × (n.faults ≡ m.faults) × (n.open_faults ≡ m.open_faults)
Running (Err _) m n = m.faults < n.faults

-- one artifact of the kit was called
abbrev pub Turned : ℕ → (Meaning → Meaning → Type 0) → List Known → List Known → Type 0
Turned at R before after = (m : Meaning) × R (means_at at before) m × (after ≡ put_at at m before)
