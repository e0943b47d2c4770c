-- The state of a port.
use Rattle.std.specs.Prelude.{ℕ, ◌≡◌, ◌⊎◌, ◌+◌, ◌%◌, ◌^◌, if◌then◌else◌, Bool, true, false, IsTrue, Option, Some, None, List, [], ◌∷◌, Result, Ok, Err, count_by, filter_map}
use Rattle.std.specs.List.{Contains}
use Rattle.batch_ids.specs.declared.refusal.Refusal.{Refusal}
use Rattle.batch_ids.specs.declared.refusal.Refusal.TheVariants.{OutOfMemory}
use Rattle.batch_history.specs.declared.call.Call.{Call}
use Rattle.batch_history.specs.declared.call.Call.TheVariants.{Start, Restart, Stop, Abandon, Claim, Lose, Purge, Checkpoint as CallCheckpoint, Finish as CallFinish}
use Rattle.batch_history.specs.declared.call.Entry.{Entry}
use Rattle.batch_history.specs.declared.call.Reply.{Reply}
use Rattle.batch_history.specs.declared.call.Reply.TheVariants.{Execution as ReplyExecution, Work as ReplyWork, Closed as ReplyClosed, Nothing as ReplyNothing, Done as ReplyDone, Go as ReplyGo, StopAsked as ReplyStopAsked}
use Rattle.job_threads.specs.declared.report.Onward.{Onward}
use Rattle.job_threads.specs.declared.report.Onward.TheVariants.{Go, StopAsked}
use Rattle.job_threads.specs.declared.report.Report.{Report}
use Rattle.job_threads.specs.declared.report.Report.TheVariants.{Checkpoint, Finish}

-- the report of a call, if it was accepted
abbrev pub accepted : {A R E : Type 0} → (A → R) → Result A E → List R
accepted report (Ok reply) = report reply ∷ []
accepted report (Err _) = []

-- a port's last refusal, after a call with this result
abbrev pub refused_by : {A : Type 0} → Option Refusal → Result A Refusal → Option Refusal
refused_by before (Ok _) = before
refused_by before (Err refusal) = Some refusal

-- a refusal is the port's last one, or memory was refused outside of the port; otherwise, the port refused
-- nothing
abbrev pub IsRefusal : {A : Type 0} → Result A Refusal → Option Refusal → Option Refusal → Type 0
IsRefusal (Ok _) before after = after ≡ before
IsRefusal (Err refusal) before after = (after ≡ Some refusal) ⊎ ((refusal ≡ OutOfMemory) × (after ≡ before))

-- a port's view of stops: the job executions whose stop was seen, whether the last look found a stop, and the
-- 64-bit count of looks that did
pub record Stops : Type 0 where
  pub seen : List ℕ
  pub found : Bool
  pub finds : ℕ

abbrev pub stops_of : List ℕ → Bool → ℕ → Stops
stops_of seen found finds = record { seen = seen; found = found; finds = finds }

-- a 64-bit count with one more
abbrev pub one_more : ℕ → ℕ
one_more n = (n + 1) % 2 ^ 64

-- a stop that was seen stays seen
abbrev pub StaySeen : List ℕ → List ℕ → Type 0
StaySeen before after = (x : ℕ) → Contains before x → Contains after x

-- the port didn't look for a stop
abbrev pub HasNotLooked : Stops → Stops → Type 0
HasNotLooked before after = StaySeen before.seen after.seen × (after.found ≡ before.found) × (after.finds ≡ before.finds)

-- the port looked for a stop of this job execution
abbrev pub HasLooked : ℕ → Bool → Stops → Stops → Type 0
HasLooked execution found before after =
    StaySeen before.seen after.seen × (after.found ≡ found) × (IsTrue found → Contains after.seen execution)
    × (after.finds ≡ (if found then one_more before.finds else before.finds))

-- no look found a stop
abbrev pub FoundNone : Stops → Stops → Type 0
FoundNone before after = after.finds ≡ before.finds

-- one look found a stop, and it was the last
abbrev pub FoundLast : Stops → Stops → Type 0
FoundLast before after = (after.found ≡ true) × (after.finds ≡ one_more before.finds)

-- whether a report is a finish
abbrev pub is_finish : Report → Bool
is_finish (Finish work outcome exit step at) = true
is_finish (Checkpoint work mark step at reply) = false

-- the number of finishes among these reports
abbrev pub finishes : List Report → ℕ
finishes reports = count_by is_finish reports

-- ---- An operator's session

-- the reply to a checkpoint, converted for a worker
abbrev pub onward_of : Reply → Onward
onward_of ReplyStopAsked = StopAsked
onward_of ReplyGo = Go
onward_of (ReplyExecution x) = Go
onward_of (ReplyWork item) = Go
onward_of (ReplyClosed x) = Go
onward_of ReplyNothing = Go
onward_of ReplyDone = Go

-- the report of an operation, if it is a checkpoint or a finish
abbrev pub report_by : Call → ℕ → Reply → Option Report
report_by (CallCheckpoint work mark step) at reply = Some (Checkpoint work mark step at (onward_of reply))
report_by (CallFinish work outcome exit step) at reply = Some (Finish work outcome exit step at)
report_by (Start job parameters) at reply = None
report_by (Restart x parameters) at reply = None
report_by (Stop x) at reply = None
report_by (Abandon x) at reply = None
report_by Claim at reply = None
report_by (Lose work) at reply = None
report_by (Purge instance) at reply = None

abbrev pub report_of_entry : Entry → Option Report
report_of_entry e = report_by e.call e.at e.reply

-- the reports among the operations of a session
abbrev pub reports_in : List Entry → List Report
reports_in mine = filter_map report_of_entry mine
