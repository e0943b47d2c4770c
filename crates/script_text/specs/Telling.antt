-- A writer after it wrote a value: the value's tokens come after those that it had.
use Rattle.std.specs.Prelude.{◌≡◌, ◌==◌, Bool, true, false, Result, Ok, Err, ℕ, List, [], ◌∷◌, ◌++◌, if◌then◌else◌}
use Rattle.std.specs.Borrow.{Bor}
use Rattle.json.specs.Token.{Token}
use Rattle.json.specs.Tree.{json_tokens}
use Rattle.json.specs.Written.{Written}
use Rattle.serde_json.specs.Data.{Data, Members, no_members, member}
use Rattle.serde_json.specs.Written.{outline}
use Rattle.batch_ids.specs.Metrics.{metric_name}
use Rattle.batch_ids.specs.Statuses.{status_name}
use Rattle.batch_ids.specs.declared.metric.Metric.TheVariants.{ReadCount, WriteCount, CommitCount, RollbackCount, ReadSkipCount, ProcessSkipCount, FilterCount, WriteSkipCount}
use Rattle.batch_ids.specs.declared.metrics.Metrics.{Metrics}
use Rattle.batch_ids.specs.declared.status.BatchStatus.TheVariants.{Starting, Started, Stopping, Stopped, Failed, Completed, Abandoned}
use Rattle.batch_ids.specs.declared.refusal.Refusal.{Refusal}
use Rattle.batch_history.specs.declared.call.WorkTask.{WorkTask}
use Rattle.batch_history.specs.declared.call.WorkTask.TheVariants.{Batchlet, Chunk, Decision}
use Rattle.batch_history.specs.declared.query.Answer.{Answer}
use Rattle.batch_history.specs.declared.query.Answer.TheVariants.{JobNames, JobInstanceCount, JobInstances, RunningExecutions, Parameters, JobInstance, JobExecutions, JobExecution, StepExecutions, StatusCounts}
use Rattle.batch_history.specs.declared.query.CountsByStatus.{CountsByStatus}
use Rattle.script_text.specs.Written.{count}
use Rattle.script_text.specs.Shown.{shown_data}
use Rattle.script_text.specs.declared.objects.Shown.{Shown}

-- these tokens were added
abbrev pub AddsTokens : List Token → Written → Written → Type 0
AddsTokens ts old new = (new.tokens ≡ old.tokens ++ ts) × (new.before ≡ old.before)

-- tokens with those of a value after them
unfoldable pub told_after : Data → List Token → List Token
told_after d ts = ts ++ json_tokens (outline d)

-- this value was added
abbrev pub Adds : Data → Written → Written → Type 0
Adds d old new = (new.tokens ≡ told_after d old.tokens) × (new.before ≡ old.before)

-- members in the given order
abbrev pub told_members : List (Bor (List ℕ) × Shown) → Members
told_members [] = no_members
told_members (named ∷ rest) = member named.0.now (shown_data named.1) (told_members rest)

-- the tokens of a count by its name; none for a count of zero
abbrev pub count_tokens : List ℕ × ℕ → List Token
count_tokens named = if named.1 == 0 then [] else Token.key named.0 ∷ json_tokens (outline (count named.1))

-- counts in the given order, without those of zero
abbrev pub told_counts : List (List ℕ × ℕ) → Members
told_counts [] = no_members
told_counts (named ∷ rest) = if named.1 == 0 then told_counts rest else member named.0 (count named.1) (told_counts rest)

-- the counts of metrics in rising order of the metrics' names
abbrev pub rising_counts : Metrics → List (List ℕ × ℕ)
rising_counts metrics =
    (metric_name CommitCount, metrics.commit_count) ∷ (metric_name FilterCount, metrics.filter_count)
    ∷ (metric_name ProcessSkipCount, metrics.process_skip_count) ∷ (metric_name ReadCount, metrics.read_count)
    ∷ (metric_name ReadSkipCount, metrics.read_skip_count) ∷ (metric_name RollbackCount, metrics.rollback_count)
    ∷ (metric_name WriteCount, metrics.write_count) ∷ (metric_name WriteSkipCount, metrics.write_skip_count) ∷ []

-- the counts of job executions in rising order of the names of their statuses
abbrev pub rising_statuses : CountsByStatus → List (List ℕ × ℕ)
rising_statuses counts =
    (status_name Abandoned, counts.abandoned) ∷ (status_name Completed, counts.completed)
    ∷ (status_name Failed, counts.failed) ∷ (status_name Started, counts.started)
    ∷ (status_name Starting, counts.starting) ∷ (status_name Stopped, counts.stopped)
    ∷ (status_name Stopping, counts.stopping) ∷ []

-- whether a task is a chunk
abbrev pub is_chunk : WorkTask → Bool
is_chunk (Batchlet artifact) = false
is_chunk (Decision artifact) = false
is_chunk (Chunk reader processor writer item_count checkpoint) = true

-- whether an answer is one of parameters
abbrev pub tells_parameters : Result Answer Refusal → Bool
tells_parameters (Ok (JobNames names)) = false
tells_parameters (Ok (JobInstanceCount n)) = false
tells_parameters (Ok (JobInstances instances)) = false
tells_parameters (Ok (RunningExecutions executions)) = false
tells_parameters (Ok (Parameters pairs)) = true
tells_parameters (Ok (JobInstance instance)) = false
tells_parameters (Ok (JobExecutions executions)) = false
tells_parameters (Ok (JobExecution execution)) = false
tells_parameters (Ok (StepExecutions steps)) = false
tells_parameters (Ok (StatusCounts counts)) = false
tells_parameters (Err refusal) = false
