-- A chunk: the result of one group, and of all of them.
use Rattle.std.specs.Prelude.{ℕ, ◌<◌, ◌-◌, ◌≡◌, ◌⊎◌, ◌++◌, true, false, length, List, [], ◌∷◌, Result, Ok, Err, Bool}
use Rattle.std.specs.List.{Contains}
use Rattle.batch_ids.specs.declared.refusal.Refusal.{Refusal}
use Rattle.job_threads.specs.declared.report.Report.{Report}
use Rattle.job_threads.specs.declared.report.Report.TheVariants.{Checkpoint}
use Rattle.job_threads.specs.declared.report.Onward.{Onward}
use Rattle.job_threads.specs.declared.report.Onward.TheVariants.{Go, StopAsked}
use Rattle.job_threads.specs.declared.kit.Roles.{Roles}
use Rattle.job_threads.specs.declared.chunk.Step.{Step}
use Rattle.job_threads.specs.declared.chunk.Step.TheVariants.{More, Stop, End, Fault}
use Rattle.job_threads.specs.declared.chunk.Ending.{Ending}
use Rattle.job_threads.specs.declared.chunk.Ending.TheVariants.{Completed, Stopped, Failed, Unopened}
use Rattle.job_threads.specs.Meaning.{Coming, Known, means_at}
use Rattle.job_threads.specs.Ports.{Stops, FoundNone, FoundLast}
use Rattle.job_threads.specs.Kits.{Calm, NoneFaulted, HoldsSame, FaultAt, FaultOf, OpenFaultOf, work_of}
use Rattle.job_threads.specs.Groups.{FirstGroups, IsGroup, kept, unless_empty, grown, written, Done, done, groups, counts, report_of, reports_of, mark_after, AllGo}

-- the reader was asked for its checkpoint, and the group was reported
abbrev pub Marks : ℕ → ℕ → ℕ → ℕ → ℕ → Bool → Result Step Refusal → List Known → List Known → List Report → List Report → Type 0
Marks r work at read kept ended (Ok More) a b before after = (b ≡ a) × (after ≡ before ++ Checkpoint work (means_at r a).mark (counts read (read - kept) kept 1 0) at Go ∷ []) × (ended ≡ false)
Marks r work at read kept ended (Ok End) a b before after = (b ≡ a) × (after ≡ before ++ Checkpoint work (means_at r a).mark (counts read (read - kept) kept 1 0) at Go ∷ []) × (ended ≡ true)
Marks r work at read kept ended (Ok Stop) a b before after = (b ≡ a) × (after ≡ before ++ Checkpoint work (means_at r a).mark (counts read (read - kept) kept 1 0) at StopAsked ∷ [])
Marks r work at read kept ended (Ok Fault) a b before after = HoldsSame a b × (after ≡ before) × (FaultAt r a b ⊎ (65536 < length (means_at r a).mark))
Marks r work at read kept ended (Err _) a b before after = (b ≡ a) × (after ≡ before)

-- a group was read, written and reported
pub record GroupDone (roles : Roles) (n work at : ℕ) (a b : List Known) (before after : List Report) (g rest : List Coming) (reply : Onward) : Type 0 where
  pub group : IsGroup n g rest
  pub items : (means_at roles.reader a).left ≡ g ++ rest
  pub left : (means_at roles.reader b).left ≡ rest
  pub calm : Calm a b
  pub holds : (means_at roles.writer b).holds ≡ grown (unless_empty (kept (work_of roles.processor a) g)) (means_at roles.writer a).holds
  pub reports : after ≡ before ++ report_of (work_of roles.processor a) work at (done g reply) ∷ []

-- a group was read and written, but not reported
pub record GroupLost (roles : Roles) (n : ℕ) (a b : List Known) (g rest : List Coming) : Type 0 where
  pub group : IsGroup n g rest
  pub items : (means_at roles.reader a).left ≡ g ++ rest
  pub holds : (means_at roles.writer b).holds ≡ grown (unless_empty (kept (work_of roles.processor a) g)) (means_at roles.writer a).holds

abbrev pub SameAt : ℕ → List Known → List Known → Type 0
SameAt w a b = (means_at w b).holds ≡ (means_at w a).holds

abbrev pub StepsTo : Roles → ℕ → ℕ → ℕ → Result Step Refusal → List Known → List Known → List Report → List Report → Type 0
StepsTo roles n work at (Ok More) a b before after = (g : List Coming) × (rest : List Coming) × GroupDone roles n work at a b before after g rest Go
StepsTo roles n work at (Ok Stop) a b before after = (g : List Coming) × (rest : List Coming) × GroupDone roles n work at a b before after g rest StopAsked
StepsTo roles n work at (Ok End) a b before after =
    (((means_at roles.reader a).left ≡ []) × Calm a b × SameAt roles.writer a b × (after ≡ before))
    ⊎ ((g : List Coming) × GroupDone roles n work at a b before after g [] Go)
StepsTo roles n work at (Ok Fault) a b before after =
    (after ≡ before)
    × ((FaultOf roles a b × SameAt roles.writer a b)
    ⊎ ((g : List Coming) × (rest : List Coming) × GroupLost roles n a b g rest × (FaultAt roles.reader a b ⊎ (65536 < length (mark_after g)))))
StepsTo roles n work at (Err _) a b before after =
    (after ≡ before) × (SameAt roles.writer a b ⊎ ((g : List Coming) × (rest : List Coming) × GroupLost roles n a b g rest))

-- the reply to the last group, and to no other, asks for a stop
abbrev pub LastIsStop : List Done → Type 0
LastIsStop ds = (before : List Done) × (g : List Coming) × (ds ≡ before ++ done g StopAsked ∷ []) × AllGo before

-- the last look found that the job execution was asked to stop, and no reply asked for it
abbrev pub IsSeen : ℕ → List Done → Stops → Type 0
IsSeen execution ds stops = Contains stops.seen execution × (stops.found ≡ true) × AllGo ds

-- the first look that found a stop was the last one, and stopped the chunk; otherwise, no look found one
abbrev pub IsHeeded : Result Ending Refusal → Stops → Stops → Type 0
IsHeeded (Ok Stopped) before after = FoundNone before after ⊎ FoundLast before after
IsHeeded (Ok Completed) before after = FoundNone before after
IsHeeded (Ok Failed) before after = FoundNone before after
IsHeeded (Ok Unopened) before after = FoundNone before after
IsHeeded (Err _) before after = FoundNone before after

-- the writer has exactly the reported groups
abbrev pub HoldsThese : Roles → List Done → List Known → List Known → Type 0
HoldsThese roles ds a b = (means_at roles.writer b).holds ≡ grown (written (work_of roles.processor a) (groups ds)) (means_at roles.writer a).holds

-- the writer has the reported groups and the next one
pub record HoldsNext (roles : Roles) (n : ℕ) (ds : List Done) (left : List Coming) (a b : List Known) (g rest : List Coming) : Type 0 where
  pub items : left ≡ g ++ rest
  pub group : IsGroup n g rest
  pub holds : (means_at roles.writer b).holds ≡ grown (written (work_of roles.processor a) (groups ds) ++ unless_empty (kept (work_of roles.processor a) g)) (means_at roles.writer a).holds

-- the reason for the end of the groups, and the groups that the writer has. Completed: all items are read,
-- each reply says to continue, the last look found no stop, and nothing faulted. Stopped: by the reply to the
-- last report or by the last look, after which nothing was read. Failed: by a fault, or by a checkpoint that
-- is too long
abbrev pub EndsBy : Roles → ℕ → ℕ → Result Ending Refusal → List Done → List Coming → List Known → List Known → Stops → Type 0
EndsBy roles n execution (Ok Completed) ds left a b stops =
    (left ≡ []) × AllGo ds × (stops.found ≡ false) × NoneFaulted a b × HoldsThese roles ds a b
EndsBy roles n execution (Ok Stopped) ds left a b stops =
    (LastIsStop ds ⊎ IsSeen execution ds stops) × ((means_at roles.reader b).left ≡ left) × NoneFaulted a b × HoldsThese roles ds a b
EndsBy roles n execution (Ok Failed) ds left a b stops =
    AllGo ds × (stops.found ≡ false)
    × ((FaultOf roles a b × HoldsThese roles ds a b)
    ⊎ ((g : List Coming) × (rest : List Coming) × HoldsNext roles n ds left a b g rest × (FaultAt roles.reader a b ⊎ (65536 < length (mark_after g)))))
EndsBy roles n execution (Ok Unopened) ds left a b stops = (ds ≡ []) × OpenFaultOf roles a b × HoldsThese roles ds a b
EndsBy roles n execution (Err _) ds left a b stops =
    AllGo ds × (HoldsThese roles ds a b ⊎ ((g : List Coming) × (rest : List Coming) × HoldsNext roles n ds left a b g rest))

-- the first groups were reported, and the chunk ended
abbrev pub RunsGroups : Roles → ℕ → ℕ → ℕ → ℕ → List Coming → Result Ending Refusal → List Known → List Known → List Report → List Report → Stops → Type 0
RunsGroups roles n work execution at items result a b before after stops =
    (ds : List Done) × (left : List Coming) × FirstGroups n items (groups ds) left
    × (after ≡ before ++ reports_of (work_of roles.processor a) work at ds) × EndsBy roles n execution result ds left a b stops

-- the first groups were reported, and the chunk continues
pub record Went (roles : Roles) (n work at : ℕ) (a b : List Known) (before after : List Report) (ds : List Done) (to : List Coming) : Type 0 where
  pub cut : FirstGroups n (means_at roles.reader a).left (groups ds) to
  pub left : (means_at roles.reader b).left ≡ to
  pub calm : Calm a b
  pub holds : HoldsThese roles ds a b
  pub reports : after ≡ before ++ reports_of (work_of roles.processor a) work at ds

abbrev pub Going : Roles → ℕ → ℕ → ℕ → List Known → List Known → List Report → List Report → Type 0
Going roles n work at a b before after = (ds : List Done) × (left : List Coming) × Went roles n work at a b before after ds left × AllGo ds
