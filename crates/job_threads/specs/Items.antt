-- A work item: the artifacts that it names, their opening, and its finish.
use Rattle.std.specs.Prelude.{ℕ, ◌≡◌, ◌⊎◌, ◌++◌, max, List, [], ◌∷◌, Option, Some, None, option_map, Result, Ok, Err}
use Rattle.batch_ids.specs.Metrics.{zero_step}
use Rattle.batch_ids.specs.declared.refusal.Refusal.{Refusal}
use Rattle.batch_ids.specs.declared.status.WorkOutcome.{WorkOutcome}
use Rattle.batch_ids.specs.declared.status.WorkOutcome.TheVariants.{Completed, Failed, Stopped}
use Rattle.batch_history.specs.declared.call.WorkItem.{WorkItem}
use Rattle.batch_history.specs.declared.call.WorkTask.{WorkTask}
use Rattle.batch_history.specs.declared.call.WorkTask.TheVariants.{Batchlet, Chunk, Decision}
use Rattle.job_threads.specs.declared.report.Report.{Report}
use Rattle.job_threads.specs.declared.report.Report.TheVariants.{Finish}
use Rattle.job_threads.specs.declared.artifact.ArtifactFault.{ArtifactFault}
use Rattle.job_threads.specs.declared.kit.Roles.{Roles}
use Rattle.job_threads.specs.declared.chunk.Ending.{Ending}
use Rattle.job_threads.specs.declared.chunk.Ending.TheVariants.{Unopened}
use Rattle.job_threads.specs.Meaning.{Known, means_at, place_of}
use Rattle.job_threads.specs.Kits.{Calm, HoldsSame, OpenFaultAt, OpenFaultIn, OpenFaultOf, FaultAt, to_read, AreWithin, begun_in, begun_roles}
use Rattle.job_threads.specs.Ports.{Stops, FoundNone, FoundLast}
use Rattle.job_threads.specs.Chunks.{RunsGroups}
use Rattle.job_threads.specs.Endings.{outcome_of, finish_of}

-- the indexes of a chunk's artifacts, if the kit has them all
abbrev pub roles_from : Option ℕ → Option (Option ℕ) → Option ℕ → Option Roles
roles_from None _ _ = None
roles_from (Some r) None _ = None
roles_from (Some r) (Some p) None = None
roles_from (Some r) (Some p) (Some w) = Some record { reader = r; processor = p; writer = w }

abbrev pub place_if : Option (List ℕ) → List Known → Option (Option ℕ)
place_if None ks = Some None
place_if (Some name) ks = option_map Some (place_of name ks)

abbrev pub roles_of : List ℕ → Option (List ℕ) → List ℕ → List Known → Option Roles
roles_of reader processor writer ks = roles_from (place_of reader ks) (place_if processor ks) (place_of writer ks)

abbrev pub FoundWithin : Option Roles → List Known → Type 0
FoundWithin None ks = Unit {0}
FoundWithin (Some roles) ks = AreWithin roles ks

-- the partition of an artifact was set, if an artifact is named
abbrev pub BeginsIn : Option ℕ → Option ℕ → Result (Unit {0}) ArtifactFault → List Known → List Known → Type 0
BeginsIn p place (Ok _) a b = b ≡ begun_in p place a
BeginsIn p place (Err _) a b = OpenFaultIn place a b × HoldsSame a b

-- the partition of the chunk's artifacts was set
abbrev pub BeginsRoles : Option ℕ → Roles → Result (Unit {0}) ArtifactFault → List Known → List Known → Type 0
BeginsRoles p roles (Ok _) a b = b ≡ begun_roles p roles a
BeginsRoles p roles (Err _) a b = OpenFaultOf roles (begun_roles p roles a) b × HoldsSame (begun_roles p roles a) b

-- reader and writer were opened
abbrev pub OpensRoles : Option (List ℕ) → Roles → Result (Unit {0}) ArtifactFault → List Known → List Known → Type 0
OpensRoles checkpoint roles (Ok _) a b = Calm a b × HoldsSame a b × ((means_at roles.reader b).left ≡ to_read checkpoint roles a)
OpensRoles checkpoint roles (Err _) a b = OpenFaultOf roles a b × HoldsSame a b

-- a chunk without its finish
abbrev pub RunsChunk : Option ℕ → Option Roles → ℕ → ℕ → ℕ → ℕ → Option (List ℕ) → Result Ending Refusal → List Known → List Known → List Report → List Report → Stops → Type 0
RunsChunk p None n work execution at checkpoint result a b before after stops = (result ≡ Ok Unopened) × (b ≡ a) × (after ≡ before)
RunsChunk p (Some roles) n work execution at checkpoint result a b before after stops =
    RunsGroups roles n work execution at (to_read checkpoint roles (begun_roles p roles a)) result (begun_roles p roles a) b before after stops

-- a chunk with its finish
abbrev pub EndsChunk : Option ℕ → Option Roles → ℕ → ℕ → ℕ → ℕ → Option (List ℕ) → Result WorkOutcome Refusal → List Known → List Known → List Report → List Report → Stops → Type 0
EndsChunk p roles n work execution at checkpoint (Ok outcome) a b before after stops =
    (e : Ending) × (between : List Report) × (outcome ≡ outcome_of e) × RunsChunk p roles n work execution at checkpoint (Ok e) a b before between stops × (after ≡ between ++ finish_of work at e ∷ [])
EndsChunk p roles n work execution at checkpoint (Err _) a b before after stops =
    (result : Result Ending Refusal) × RunsChunk p roles n work execution at checkpoint result a b before after stops

-- the first look that found a stop was the last one: no look found one for a work item that is COMPLETED or
-- FAILED
abbrev pub IsHeededBy : Result WorkOutcome Refusal → Stops → Stops → Type 0
IsHeededBy (Ok Completed) before after = FoundNone before after
IsHeededBy (Ok Failed) before after = FoundNone before after
IsHeededBy (Ok Stopped) before after = FoundNone before after ⊎ FoundLast before after
IsHeededBy (Err _) before after = FoundNone before after ⊎ FoundLast before after

-- the partition of a batchlet or decider was set, and it ran
abbrev pub RunsBegun : Option ℕ → ℕ → Result (Option (List ℕ)) ArtifactFault → List Known → List Known → Type 0
RunsBegun p i (Ok exit) a b =
    (exit ≡ ((means_at i a).begins p).exit) × ((means_at i b).faults ≡ (means_at i a).faults) × ((means_at i b).open_faults ≡ (means_at i a).open_faults)
RunsBegun p i (Err _) a b = OpenFaultAt i a b ⊎ FaultAt i a b

-- a batchlet or decision
abbrev pub RunsOnce : Option ℕ → Option ℕ → ℕ → ℕ → Result WorkOutcome Refusal → List Known → List Known → List Report → List Report → Type 0
RunsOnce p place work at (Err _) a b before after = after ≡ before
RunsOnce p None work at (Ok outcome) a b before after = (outcome ≡ Failed) × (after ≡ before ++ Finish work Failed None zero_step at ∷ [])
RunsOnce p (Some i) work at (Ok outcome) a b before after =
    ((outcome ≡ Completed) × (after ≡ before ++ Finish work Completed ((means_at i a).begins p).exit zero_step at ∷ [])
    × ((means_at i b).faults ≡ (means_at i a).faults) × ((means_at i b).open_faults ≡ (means_at i a).open_faults))
    ⊎ ((outcome ≡ Failed) × (after ≡ before ++ Finish work Failed None zero_step at ∷ []) × (OpenFaultAt i a b ⊎ FaultAt i a b))

-- a work item: the theorem of this crate
abbrev pub RunsItem : WorkItem → ℕ → WorkTask → Result WorkOutcome Refusal → List Known → List Known → List Report → List Report → Stops → Type 0
RunsItem item at (Batchlet artifact) result a b before after stops = RunsOnce item.partition (place_of artifact a) item.work at result a b before after
RunsItem item at (Decision artifact) result a b before after stops = RunsOnce item.partition (place_of artifact a) item.work at result a b before after
RunsItem item at (Chunk reader processor writer item_count checkpoint) result a b before after stops =
    EndsChunk item.partition (roles_of reader processor writer a) (max item_count 1) item.work item.execution at checkpoint result a b before after stops
