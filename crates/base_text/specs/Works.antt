-- The line of a work item.
use Rattle.std.specs.Prelude.{ℕ, List, [], ◌∷◌, Bool, ◌&&◌, bytes_eq, is_some, is_none, codes, Option, Some, None, option_map, unwrap_or, if◌then◌else◌}
use Rattle.serde_json.specs.Data.{Data}
use Rattle.json_members.specs.Members.{has_only, text_at, optional_text, number_at, optional_number, optional_object}
use Rattle.json_members.specs.Chains.{◌>>=◌}
use Rattle.batch_ids.specs.Metrics.{metric_name, zero_metrics}
use Rattle.batch_ids.specs.Statuses.{outcome_named}
use Rattle.batch_ids.specs.declared.metric.Metric.{Metric}
use Rattle.batch_ids.specs.declared.metric.Metric.TheVariants.{ReadCount, WriteCount, CommitCount, RollbackCount, ReadSkipCount, ProcessSkipCount, FilterCount, WriteSkipCount}
use Rattle.batch_ids.specs.declared.metrics.Metrics.{Metrics}
use Rattle.batch_ids.specs.declared.status.WorkOutcome.{WorkOutcome}
use Rattle.batch_history.specs.declared.call.WorkKind.{WorkKind}
use Rattle.batch_history.specs.declared.call.WorkKind.TheVariants.{Batchlet, Chunk, Decision}
use Rattle.batch_history.specs.declared.rows.WorkRow.{WorkRow}
use Rattle.batch_history.specs.declared.rows.WorkState.{WorkState}
use Rattle.batch_history.specs.declared.rows.WorkState.TheVariants.{Busy, Over}
use Rattle.script_text.specs.Metrics.{metric_names}
use Rattle.base_text.specs.Bounded.{bounded_text_at, exit_at, optional_partition_at}
use Rattle.base_text.specs.declared.work.WorkMembers.{WorkMembers}

-- ---- Metrics

-- the count of this metric, 0 if it is left out
abbrev pub metric_at : Metric → Data → Option ℕ
metric_at metric d = option_map (λ found. unwrap_or found 0) (optional_number (metric_name metric) d)

-- the metrics in an object of counts
unfoldable pub metrics_of : Data → Option Metrics
metrics_of d =
    if has_only metric_names d
    then (do
      read_count ← metric_at ReadCount d
      write_count ← metric_at WriteCount d
      commit_count ← metric_at CommitCount d
      rollback_count ← metric_at RollbackCount d
      read_skip_count ← metric_at ReadSkipCount d
      process_skip_count ← metric_at ProcessSkipCount d
      filter_count ← metric_at FilterCount d
      write_skip_count ← metric_at WriteSkipCount d
      Some (record {
        read_count = read_count;
        write_count = write_count;
        commit_count = commit_count;
        rollback_count = rollback_count;
        read_skip_count = read_skip_count;
        process_skip_count = process_skip_count;
        filter_count = filter_count;
        write_skip_count = write_skip_count;
      }))
    else None

-- the metrics in an object that may be left out
abbrev pub metrics_given : Option Data → Option Metrics
metrics_given None = Some zero_metrics
metrics_given (Some d) = metrics_of d

-- the metrics of a work item, all 0 if they are left out
abbrev pub metrics_at : Data → Option Metrics
metrics_at d = optional_object (codes "metrics") d >>= metrics_given

-- ---- Kinds and outcomes

-- the kind of work items with this name
abbrev pub kind_named : List ℕ → Option WorkKind
kind_named name =
    if bytes_eq name (codes "batchlet") then Some Batchlet
    else (if bytes_eq name (codes "chunk") then Some Chunk
    else (if bytes_eq name (codes "decision") then Some Decision else None))

-- the kind of a work item
abbrev pub kind_at : Data → Option WorkKind
kind_at d = text_at (codes "kind") d >>= kind_named

-- the outcome of this name, if there is a name
abbrev pub outcome_given : Option (List ℕ) → Option (Option WorkOutcome)
outcome_given None = Some None
outcome_given (Some name) = option_map Some (outcome_named name)

-- the outcome of a work item, which may be left out
abbrev pub outcome_at : Data → Option (Option WorkOutcome)
outcome_at d = optional_text (codes "outcome") d >>= outcome_given

-- ---- Work items

-- the state of a work item: if it is over it has an outcome and an exit status, and else neither
abbrev pub state_of : Option WorkOutcome → Option (List ℕ) → Option WorkState
state_of None None = Some Busy
state_of None (Some exit) = None
state_of (Some outcome) None = None
state_of (Some outcome) (Some exit) = Some (Over outcome exit)

-- whether the moment or the number of a work item's end is there exactly if the work item is over
abbrev pub fits_state : WorkState → Option ℕ → Bool
fits_state Busy end = is_none end
fits_state (Over outcome exit) end = is_some end

-- the members of a work item that are no texts of its own
unfoldable pub work_members_of : Data → Option WorkMembers
work_members_of d = do
  work ← number_at (codes "work") d
  execution ← number_at (codes "execution") d
  claimer ← number_at (codes "claimer") d
  partition ← optional_partition_at d
  kind ← kind_at d
  outcome ← outcome_at d
  start ← number_at (codes "start") d
  end ← optional_number (codes "end") d
  ended ← optional_number (codes "ended") d
  metrics ← metrics_at d
  Some (record {
    work = work;
    execution = execution;
    claimer = claimer;
    partition = partition;
    kind = kind;
    outcome = outcome;
    start = start;
    end = end;
    ended = ended;
    metrics = metrics;
  })

-- the row of a work item
abbrev pub work_row : WorkMembers → List ℕ → WorkState → WorkRow
work_row m element state = record {
  work = m.work;
  execution = m.execution;
  element = element;
  partition = m.partition;
  kind = m.kind;
  claimer = m.claimer;
  state = state;
  start = m.start;
  end = m.end;
  ended = m.ended;
  metrics = m.metrics;
}

-- the row of a work item, if the moment and the number of its end fit its state
abbrev pub fitting_row : WorkMembers → List ℕ → WorkState → Option WorkRow
fitting_row m element state =
    if fits_state state m.end && fits_state state m.ended then Some (work_row m element state) else None

-- the members of a work item's line
abbrev pub work_names : List (List ℕ)
work_names =
    codes "claimer" ∷ codes "element" ∷ codes "end" ∷ codes "ended" ∷ codes "execution" ∷ codes "exit" ∷ codes "kind"
    ∷ codes "metrics" ∷ codes "outcome" ∷ codes "partition" ∷ codes "start" ∷ codes "work" ∷ []

-- the work item in a value
unfoldable pub work_of : Data → Option WorkRow
work_of d =
    if has_only work_names d
    then (do
      members ← work_members_of d
      element ← bounded_text_at 256 (codes "element") d
      exit ← exit_at d
      state ← state_of members.outcome exit
      fitting_row members element state)
    else None
