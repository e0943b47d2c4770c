-- The parts of a kit that the calls of its artifacts change or leave unchanged.
use Rattle.std.specs.Prelude.{ℕ, ◌<◌, ◌≡◌, ◌⊎◌, ◌++◌, nat_eq, cond, length, List, Option, Some, None}
use Rattle.job_threads.specs.Meaning.{Coming, Known, begun, means_at, put_at}
use Rattle.job_threads.specs.Groups.{mark_from, grown}
use Rattle.job_threads.specs.declared.kit.Roles.{Roles}

-- no artifact's results changed, and none faulted
pub record Calm (before after : List Known) : Type 0 where
  pub gives : (i : ℕ) → (means_at i after).gives ≡ (means_at i before).gives
  pub faults : (i : ℕ) → (means_at i after).faults ≡ (means_at i before).faults
  pub open_faults : (i : ℕ) → (means_at i after).open_faults ≡ (means_at i before).open_faults
  pub size : length after ≡ length before

-- no artifact faulted
abbrev pub NoneFaulted : List Known → List Known → Type 0
NoneFaulted before after =
    (i : ℕ) → ((means_at i after).faults ≡ (means_at i before).faults) × ((means_at i after).open_faults ≡ (means_at i before).open_faults)

-- every writer has the groups that it had
abbrev pub HoldsSame : List Known → List Known → Type 0
HoldsSame before after = (i : ℕ) → (means_at i after).holds ≡ (means_at i before).holds

-- the reader read these items, and the rest is left
pub record Read (reader : ℕ) (before after : List Known) (xs rest : List Coming) : Type 0 where
  pub items : (means_at reader before).left ≡ xs ++ rest
  pub left : (means_at reader after).left ≡ rest
  pub mark : (means_at reader after).mark ≡ mark_from (means_at reader before).mark xs
  pub calm : Calm before after
  pub holds : HoldsSame before after

-- the writer took these groups, and no reader advanced
pub record Written (writer : ℕ) (before after : List Known) (more : List (List (List ℕ))) : Type 0 where
  pub holds : (means_at writer after).holds ≡ grown more (means_at writer before).holds
  pub left : (i : ℕ) → (means_at i after).left ≡ (means_at i before).left
  pub mark : (i : ℕ) → (means_at i after).mark ≡ (means_at i before).mark
  pub calm : Calm before after

abbrev pub FaultAt : ℕ → List Known → List Known → Type 0
FaultAt i before after = (means_at i before).faults < (means_at i after).faults

abbrev pub FaultIn : Option ℕ → List Known → List Known → Type 0
FaultIn None before after = ⊥
FaultIn (Some i) before after = FaultAt i before after

-- one of the chunk's artifacts faulted
abbrev pub FaultOf : Roles → List Known → List Known → Type 0
FaultOf roles before after = FaultAt roles.reader before after ⊎ (FaultIn roles.processor before after ⊎ FaultAt roles.writer before after)

abbrev pub OpenFaultAt : ℕ → List Known → List Known → Type 0
OpenFaultAt i before after = (means_at i before).open_faults < (means_at i after).open_faults

abbrev pub OpenFaultIn : Option ℕ → List Known → List Known → Type 0
OpenFaultIn None before after = ⊥
OpenFaultIn (Some i) before after = OpenFaultAt i before after

-- a begin or an open of one of the chunk's artifacts faulted
abbrev pub OpenFaultOf : Roles → List Known → List Known → Type 0
OpenFaultOf roles before after =
    OpenFaultAt roles.reader before after ⊎ (OpenFaultIn roles.processor before after ⊎ OpenFaultAt roles.writer before after)

abbrev pub IsWithin : Option ℕ → List Known → Type 0
IsWithin None ks = Unit {0}
IsWithin (Some i) ks = i < length ks

pub record AreWithin (roles : Roles) (ks : List Known) : Type 0 where
  pub reader : roles.reader < length ks
  pub processor : IsWithin roles.processor ks
  pub writer : roles.writer < length ks

-- the result of processing an item: without a processor, the item itself
abbrev pub work_of : Option ℕ → List Known → (List ℕ → Option (List ℕ))
work_of None ks = λ item. Some item
work_of (Some i) ks = (means_at i ks).gives

-- the items that are left after the reader was opened with the checkpoint, and then the writer without one
abbrev pub to_read : Option (List ℕ) → Roles → List Known → List Coming
to_read checkpoint roles ks = (means_at roles.reader ks).opens (cond (nat_eq roles.reader roles.writer) None checkpoint)

-- the kit after the partition of one artifact was set
abbrev pub begun_at : Option ℕ → ℕ → List Known → List Known
begun_at p i ks = put_at i (begun p (means_at i ks)) ks

abbrev pub begun_in : Option ℕ → Option ℕ → List Known → List Known
begun_in p None ks = ks
begun_in p (Some i) ks = begun_at p i ks

-- the kit after the partition of the chunk's artifacts was set: of the reader, then the processor, then the
-- writer
abbrev pub begun_roles : Option ℕ → Roles → List Known → List Known
begun_roles p roles ks = begun_at p roles.writer (begun_in p roles.processor (begun_at p roles.reader ks))
