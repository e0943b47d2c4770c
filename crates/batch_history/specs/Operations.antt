-- The effects of operations: an entry for each call, and for a claim an entry for each reply. The other
-- definitions read all that they need of a call or a reply here.
use Rattle.std.specs.Prelude.{ℕ, ◌==◌, Bool, true, false, List, Option, Some, None, is_some, if◌then◌else◌}
use Rattle.batch_ids.specs.Parameters.{Pair}
use Rattle.batch_ids.specs.declared.metric_step.MetricStep.{MetricStep}
use Rattle.batch_ids.specs.Metrics.{zero_step}
use Rattle.batch_ids.specs.declared.status.WorkOutcome.{WorkOutcome}
use Rattle.batch_ids.specs.declared.status.WorkOutcome.TheVariants.{Failed}
use Rattle.batch_history.specs.declared.call.Call.{Call}
use Rattle.batch_history.specs.declared.call.Call.TheVariants.{Start, Restart, Stop, Abandon, Claim, Checkpoint, Finish, Lose, Purge}
use Rattle.batch_history.specs.declared.call.WorkItem.{WorkItem}
use Rattle.batch_history.specs.declared.call.Reply.{Reply}
use Rattle.batch_history.specs.declared.call.Reply.TheVariants.{Execution, Work, Closed, Nothing, Done, Go, StopAsked}

-- the making of a job execution, with its parameters: the first one of a new job instance of this job, or one
-- more of an earlier job execution's job instance
pub data Making : Type 0 where
  begins : List ℕ → List Pair → Making
  restarts : ℕ → List Pair → Making

-- the end of a work item
pub record Ending : Type 0 where
  pub outcome : WorkOutcome
  pub exit : Option (List ℕ)

-- a report of a work item: a metric step, its checkpoint, its end
pub record Report : Type 0 where
  pub work : ℕ
  pub counts : MetricStep
  pub mark : Option (List ℕ)
  pub end : Option Ending

-- the effects of an accepted call: the job execution that it makes, the one whose stop it requests, the one
-- that it abandons, its report of a work item, the job instance that it removes, and whether it claims, so
-- that its reply hands out a work item
pub record Effects : Type 0 where
  pub makes : Option Making
  pub stops : Option ℕ
  pub abandons : Option ℕ
  pub reports : Option Report
  pub purges : Option ℕ
  pub claims : Bool

-- no effects
abbrev no_effects : Effects
no_effects = record { makes = None; stops = None; abandons = None; reports = None; purges = None; claims = false }

-- THE TABLE OF CALLS
abbrev pub effects : Call → Effects
effects (Start job parameters) = record no_effects { makes = Some (begins job parameters) }
effects (Restart y parameters) = record no_effects { makes = Some (restarts y parameters) }
effects (Stop y) = record no_effects { stops = Some y }
effects (Abandon y) = record no_effects { abandons = Some y }
effects Claim = record no_effects { claims = true }
effects (Checkpoint w mark step) =
    record no_effects { reports = Some record { work = w; counts = step; mark = Some mark; end = None } }
effects (Finish w outcome exit step) =
    record no_effects { reports = Some record { work = w; counts = step; mark = None; end = Some record { outcome = outcome; exit = exit } } }
effects (Lose w) =
    record no_effects { reports = Some record { work = w; counts = zero_step; mark = None; end = Some record { outcome = Failed; exit = None } } }
effects (Purge i) = record no_effects { purges = Some i }

-- the effects of a claim by its reply: the job execution that it takes up (that of the work item, or the
-- closed one), and the work item that it hands out
pub record ClaimEffects : Type 0 where
  pub takes_up : Option ℕ
  pub hands_out : Option WorkItem

-- no effects of a claim
abbrev no_claim : ClaimEffects
no_claim = record { takes_up = None; hands_out = None }

-- THE TABLE OF REPLIES TO CLAIMS
abbrev pub claim_effects : Reply → ClaimEffects
claim_effects (Work item) = record { takes_up = Some item.execution; hands_out = Some item }
claim_effects (Closed x) = record no_claim { takes_up = Some x }
claim_effects (Execution x) = no_claim
claim_effects Nothing = no_claim
claim_effects Done = no_claim
claim_effects Go = no_claim
claim_effects StopAsked = no_claim

-- the job execution that a reply takes up
abbrev pub taken_up_by : Reply → Option ℕ
taken_up_by reply = (claim_effects reply).takes_up

-- whether a reply hands out a work item
abbrev pub hands_out_work : Reply → Bool
hands_out_work reply = is_some (claim_effects reply).hands_out

-- the job execution that an operation takes up
abbrev pub taken_up : Call → Reply → Option ℕ
taken_up call reply = if (effects call).claims then taken_up_by reply else None

-- whether a call makes a job execution
abbrev pub makes_execution : Call → Bool
makes_execution call = is_some (effects call).makes

-- whether a job execution begins a job instance
abbrev pub is_beginning : Option Making → Bool
is_beginning None = false
is_beginning (Some (begins job parameters)) = true
is_beginning (Some (restarts y parameters)) = false

-- whether a call makes a job instance
abbrev pub makes_instance : Call → Bool
makes_instance call = is_beginning (effects call).makes

-- the job execution whose stop a call requests
abbrev pub stop_request : Call → Option ℕ
stop_request call = (effects call).stops

-- the job execution that a call abandons
abbrev pub abandonment : Call → Option ℕ
abandonment call = (effects call).abandons

-- the job instance that a call removes
abbrev pub purged_by : Call → Option ℕ
purged_by call = (effects call).purges

-- whether a report ends this work item
abbrev pub is_end_of : ℕ → Option Report → Bool
is_end_of w None = false
is_end_of w (Some r) = if is_some r.end then r.work == w else false

-- whether a call ends this work item
abbrev pub ends_work : ℕ → Call → Bool
ends_work w call = is_end_of w (effects call).reports

-- the metric step that a report has for this work item
abbrev pub counts_for : ℕ → Option Report → Option MetricStep
counts_for w None = None
counts_for w (Some r) = if r.work == w then Some r.counts else None

-- the metric step that a call reports of this work item
abbrev pub counts_reported : ℕ → Call → Option MetricStep
counts_reported w call = counts_for w (effects call).reports
