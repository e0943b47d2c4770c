-- Batch status and exit status (Jakarta Batch 2.1, "Batch and Exit Status"), apart from abandonment. They
-- follow from whether a stop of the job execution was requested, whether it is taken up (it has a start), and
-- its walk.
use Rattle.std.specs.List.{list_any}
use Rattle.std.specs.Prelude.{ℕ, Bool, true, false, Option, Some, None, List, [], ◌∷◌, if◌then◌else◌}
use Rattle.batch_history.specs.Lists.{is_at}
use Rattle.batch_history.specs.Operations.{stop_request, abandonment}
use Rattle.batch_history.specs.declared.call.Entry.{Entry}
use Rattle.batch_ids.specs.Statuses.{status_name, is_unfinished}
use Rattle.batch_ids.specs.declared.status.BatchStatus.{BatchStatus}
use Rattle.batch_ids.specs.declared.status.BatchStatus.TheVariants.{Starting, Started, Stopping, Stopped as IsStopped, Completed as IsCompleted}
use Rattle.walk_rules.specs.declared.work_key.WorkKey.{WorkKey}
use Rattle.walk_rules.specs.declared.facts.Value.{Value}
use Rattle.walk_rules.specs.declared.facts.Value.TheVariants.{Open, Done as IsDone, Ended}

-- whether some entry is a Stop that names job execution x
abbrev pub stop_requested : List Entry → ℕ → Bool
stop_requested past x = list_any (λ e. is_at x (stop_request e.call)) past

-- whether some entry is an Abandon that names job execution x
abbrev pub is_abandoned : List Entry → ℕ → Bool
is_abandoned past x = list_any (λ e. is_at x (abandonment e.call)) past

-- the batch status of a job execution whose stop was requested: STOPPING while something is being run, then
-- STOPPED
abbrev pub stopping_status : List WorkKey → BatchStatus
stopping_status [] = IsStopped
stopping_status (key ∷ busy) = Stopping

-- the batch status of a job execution that is taken up, by the value of its walk
abbrev pub status_of_walk : Bool → Value → BatchStatus
status_of_walk stop (Open ready busy) = if stop then stopping_status busy else Started
status_of_walk stop (IsDone exit) = IsCompleted
status_of_walk stop (Ended status exit point) = status

-- the batch status: a job execution that is not taken up is STARTING, or STOPPED if its stop was requested
abbrev pub batch_status : Bool → Option ℕ → Value → BatchStatus
batch_status stop None value = if stop then IsStopped else Starting
batch_status stop (Some t) value = status_of_walk stop value

-- the exit status of a job execution that a stop ended
abbrev pub stopped_exit : Option (List ℕ)
stopped_exit = Some (status_name IsStopped)

-- the exit status of a job execution whose stop was requested: there is none while something is being run
abbrev pub stopping_exit_status : List WorkKey → Option (List ℕ)
stopping_exit_status [] = stopped_exit
stopping_exit_status (key ∷ busy) = None

-- the exit status of a job execution that is taken up, by the value of its walk
abbrev pub exit_of_walk : Bool → Value → Option (List ℕ)
exit_of_walk stop (Open ready busy) = if stop then stopping_exit_status busy else None
exit_of_walk stop (IsDone exit) = Some (status_name IsCompleted)
exit_of_walk stop (Ended status exit point) = Some exit

-- the exit status: there is none while the job execution is unfinished
abbrev pub exit_status : Bool → Option ℕ → Value → Option (List ℕ)
exit_status stop None value = if stop then stopped_exit else None
exit_status stop (Some t) value = exit_of_walk stop value

-- whether a job execution of this status is over
abbrev pub is_finished : BatchStatus → Bool
is_finished status = if is_unfinished status then false else true
