-- The parts of a chunk: an item, a group, and its report.
use Rattle.std.specs.Prelude.{ℕ, ◌≤◌, ◌≡◌, true, false, map, length, List, [], ◌∷◌, Option, Some, None, Result, Ok, Err, option_map, String, string_bytes}
use Rattle.std.specs.declared.alloc.Global.{Global}
use Rattle.job_threads.specs.declared.artifact.ArtifactFault.{ArtifactFault}
use Rattle.job_threads.specs.declared.kit.Roles.{Roles}
use Rattle.job_threads.specs.declared.group.ItemRead.{ItemRead}
use Rattle.job_threads.specs.declared.group.ItemRead.TheVariants.{End, Dropped, Kept}
use Rattle.job_threads.specs.declared.group.Group.{Group}
use Rattle.job_threads.specs.declared.group.Trouble.{Trouble}
use Rattle.job_threads.specs.declared.group.Trouble.TheVariants.{Fault, Memory}
use Rattle.job_threads.specs.Meaning.{Coming, Known, means_at}
use Rattle.job_threads.specs.Kits.{Read, Written, HoldsSame, FaultAt, FaultIn, FaultOf, work_of}
use Rattle.job_threads.specs.Groups.{kept, unless_empty}

abbrev pub Processes : Option ℕ → List ℕ → Result (Option (String Global)) ArtifactFault → List Known → List Known → Type 0
Processes processor item (Ok r) before after = (option_map string_bytes r ≡ work_of processor before item) × (after ≡ before)
Processes processor item (Err _) before after = FaultIn processor before after × HoldsSame before after

abbrev pub ReadsItem : Roles → Result ItemRead ArtifactFault → List Known → List Known → Type 0
ReadsItem roles (Ok End) before after = ((means_at roles.reader before).left ≡ []) × (after ≡ before)
ReadsItem roles (Ok Dropped) before after = (c : Coming) × (rest : List Coming) × Read roles.reader before after (c ∷ []) rest × (work_of roles.processor before c.item ≡ None)
ReadsItem roles (Ok (Kept x)) before after = (c : Coming) × (rest : List Coming) × Read roles.reader before after (c ∷ []) rest × (work_of roles.processor before c.item ≡ Some (string_bytes x))
ReadsItem roles (Err _) before after = FaultOf roles before after × HoldsSame before after

-- a group was read: these items, of which these weren't filtered out
pub record IsRead (roles : Roles) (n : ℕ) (many : ℕ) (bytes : List (List ℕ)) (before after : List Known) (items rest : List Coming) : Type 0 where
  pub read : Read roles.reader before after items rest
  pub count : many ≡ length items
  pub keeps : bytes ≡ kept (work_of roles.processor before) items
  pub fewer : length bytes ≤ many
  pub most : many ≤ n

-- this many items were read, and these of them weren't filtered out
abbrev pub Reached : Roles → ℕ → ℕ → List (List ℕ) → List Known → List Known → Type 0
Reached roles n read bytes before after = (items : List Coming) × (rest : List Coming) × IsRead roles n read bytes before after items rest

abbrev pub bytes_of : Group → List (List ℕ)
bytes_of group = map string_bytes group.kept.items

abbrev pub ReadsGroup : Roles → ℕ → Result Group Trouble → List Known → List Known → Type 0
ReadsGroup roles n (Ok group) before after =
    (items : List Coming) × (rest : List Coming) × IsRead roles n group.read (bytes_of group) before after items rest
    × (group.ended ≡ true → rest ≡ []) × (group.ended ≡ false → group.read ≡ n)
ReadsGroup roles n (Err Fault) before after = FaultOf roles before after × HoldsSame before after
ReadsGroup roles n (Err Memory) before after = HoldsSame before after

-- the items of a group that weren't filtered out were written, if there are any
abbrev pub Writes : ℕ → List (List ℕ) → Result (Unit {0}) ArtifactFault → List Known → List Known → Type 0
Writes writer group (Ok _) before after = Written writer before after (unless_empty group)
Writes writer group (Err _) before after = FaultAt writer before after × HoldsSame before after
