-- The batch statuses' names, and which of them are finished.
use Rattle.std.specs.Prelude.{ℕ, Bool, true, false, Option, List, [], ◌∷◌, codes, find}
use Rattle.std.specs.Str.{bytes_eq}
use Rattle.batch_ids.specs.declared.status.BatchStatus.{BatchStatus}
use Rattle.batch_ids.specs.declared.status.BatchStatus.TheVariants.{Starting, Started, Stopping, Stopped, Failed, Completed, Abandoned}
use Rattle.batch_ids.specs.declared.status.WorkOutcome.{WorkOutcome}
use Rattle.batch_ids.specs.declared.status.WorkOutcome.TheVariants.{Completed as CameCompleted, Failed as CameFailed, Stopped as CameStopped}

-- the name of a batch status
abbrev pub status_name : BatchStatus → List ℕ
status_name Starting = codes "STARTING"
status_name Started = codes "STARTED"
status_name Stopping = codes "STOPPING"
status_name Stopped = codes "STOPPED"
status_name Failed = codes "FAILED"
status_name Completed = codes "COMPLETED"
status_name Abandoned = codes "ABANDONED"

-- every batch status
abbrev pub all_statuses : List BatchStatus
all_statuses = Starting ∷ Started ∷ Stopping ∷ Stopped ∷ Failed ∷ Completed ∷ Abandoned ∷ []

-- the batch status with this name, if there is one
abbrev pub status_named : List ℕ → Option BatchStatus
status_named text = find (λ status. bytes_eq (status_name status) text) all_statuses

-- an execution is unfinished while it is STARTING, STARTED or STOPPING
abbrev pub is_unfinished : BatchStatus → Bool
is_unfinished Starting = true
is_unfinished Started = true
is_unfinished Stopping = true
is_unfinished Stopped = false
is_unfinished Failed = false
is_unfinished Completed = false
is_unfinished Abandoned = false

-- the batch status for an outcome
abbrev pub outcome_status : WorkOutcome → BatchStatus
outcome_status CameCompleted = Completed
outcome_status CameFailed = Failed
outcome_status CameStopped = Stopped

-- the name of an outcome, that of its batch status; it is also the default exit status
abbrev pub outcome_name : WorkOutcome → List ℕ
outcome_name outcome = status_name (outcome_status outcome)

-- every outcome
abbrev pub all_outcomes : List WorkOutcome
all_outcomes = CameCompleted ∷ CameFailed ∷ CameStopped ∷ []

-- the outcome with this name, if there is one
abbrev pub outcome_named : List ℕ → Option WorkOutcome
outcome_named text = find (λ outcome. bytes_eq (outcome_name outcome) text) all_outcomes
