-- The effect of a host's calls on its file and on its listener, and the effect of a crash between two syncs.
use Rattle.std.specs.Prelude.{◌<◌, ◌≡◌, ◌⊎◌, ℕ, ◌+◌, ◌≤◌, max, List, ◌++◌, length, take, drop, Result, OnErr}
use Rattle.log_host.specs.declared.host.HostFault.{HostFault}

-- the possible outcomes of a crash: the bytes of the file, and the bytes that the listener has heard
abbrev pub Outcomes : Type 1
Outcomes = List ℕ → List ℕ → Type 0

-- `new` is `old` with these bytes at this offset
abbrev pub Holds : List ℕ → ℕ → List ℕ → List ℕ → Type 0
Holds old at bytes new = new ≡ take at old ++ bytes ++ drop (at + length bytes) old

-- a write of n bytes, cut short by a crash: there are any bytes in the range and past the old end, and the
-- old bytes elsewhere
pub record Torn (at n : ℕ) (old new : List ℕ) : Type 0 where
  pub before : take at new ≡ take at old
  pub after : drop (at + n) new ≡ drop (at + n) old
  pub no_shorter : length old ≤ length new
  pub no_longer : length new ≤ max (length old) (at + n)

-- each new outcome of a crash is an old outcome after a change of the file; nothing more was heard
abbrev pub Follows : (List ℕ → List ℕ → Type 0) → Outcomes → Outcomes → Type 0
Follows step old new = (c o : List ℕ) → new c o → (d : List ℕ) × old d o × step d c

-- an old outcome, after which a front of the piece was heard
abbrev pub Hearing : List ℕ → Outcomes → Outcomes
Hearing piece old c o = (heard : List ℕ) × old c heard × ((n : ℕ) × (o ≡ heard ++ take n piece))

-- a crash leaves only this file, and only these bytes heard
abbrev pub Only : List ℕ → List ℕ → Outcomes → Type 0
Only file heard outcomes = (c o : List ℕ) → outcomes c o → (c ≡ file) × (o ≡ heard)

-- Time goes on. A crash since t might have left an outcome that was possible before, or one that is possible
-- in the call and after it.
pub record Elapses (before now : ℕ) (past since : ℕ → Outcomes) (may_leave : Outcomes) : Type 0 where
  pub later : before ≤ now
  pub nothing_else : (t : ℕ) (c o : List ℕ) → t ≤ before → since t c o → past t c o ⊎ may_leave c o
  pub keeps : (t : ℕ) (c o : List ℕ) → t ≤ before → past t c o → since t c o

-- each of these outcomes has P
abbrev pub Each : Outcomes → Outcomes → Type 0
Each outcomes P = (c o : List ℕ) → outcomes c o → P c o

-- A crash at any moment since `old` leaves an outcome that has P.
pub record LeavesOnly {D : Type 0} (moment : D → ℕ) (left_since : D → ℕ → Outcomes) (old new : D) (P : Outcomes) : Type 0 where
  pub later : moment old ≤ moment new
  pub each : Each (left_since new (moment old)) P
  -- for a run that began earlier
  pub before : (t : ℕ) (c o : List ℕ) → t ≤ moment old → left_since new t c o → left_since old t c o ⊎ P c o

-- a call of a host that fails counts as a failure
pub record HasCause {T : Type 0} (before now : ℕ) (result : Result T HostFault) : Type 0 where
  pub later : before ≤ now
  pub failed : OnErr result (before < now)
