-- The step execution that partitions of a step are.
use Rattle.std.proofs.Common.{◌≡◌, ℕ, ◌+◌, ◌<◌, ◌&&◌, ◌||◌, if◌then◌else◌, Bool, true, false, cond, Option, None, Some, List, ◌∷◌, map, find, length, drop, get_or, refl, sym, ◌∙◌, ap}
use Rattle.std.specs.List.{list_all, list_any}
use Rattle.std.specs.Option.{option_and_then}
use Rattle.std.proofs.lemmas.List.{drop_more}
use Rattle.batch_ids.specs.Metrics.{sum_of_metrics}
use Rattle.batch_ids.specs.Statuses.{is_unfinished, status_name}
use Rattle.batch_ids.specs.declared.metrics.Metrics.{Metrics}
use Rattle.batch_ids.specs.declared.status.BatchStatus.{BatchStatus}
use Rattle.batch_ids.specs.declared.status.BatchStatus.TheVariants.{Started, Stopped, Failed, Completed}
use Rattle.batch_history.specs.Replies.{row_status}
use Rattle.batch_history.specs.StepExecutions.{end_of_partitions, ended_by, is_busy, is_failed, is_stopped, last_ended, once_over, shown_partitions, status_of_partitions}
use Rattle.batch_history.specs.declared.query.StepExecution.{StepExecution}
use Rattle.batch_history.specs.declared.rows.ExecutionRow.{ExecutionRow}
use Rattle.batch_history.specs.declared.rows.WorkRow.{WorkRow}

-- whether none of these work items ended by a later operation
abbrev is-last : List WorkRow → WorkRow → Bool
is-last all row = list_all (λ other. ended_by other.ended row.ended) all

ahead-at : {A : Type 0} (f : A → WorkRow) (items : List A) (i : ℕ) (row : A) → i < length items → row ≡ get_or items i row
    → find (is-last (map f items)) (map f (drop i items))
    ≡ cond (is-last (map f items) (f row)) (Some (f row)) (find (is-last (map f items)) (map f (drop (i + 1) items)))
ahead-at f items i row lt is =
    ap (λ l. find (is-last (map f items)) (map f l)) (drop_more items i row lt ∙ ap (λ r. r ∷ drop (i + 1) items) (sym is))

-- the work item here ended last
pub last_here : {A : Type 0} (f : A → WorkRow) (items : List A) (i : ℕ) (row : A) → i < length items → row ≡ get_or items i row
    → list_all (λ other. ended_by other.ended (f row).ended) (map f items) ≡ true
    → find (λ row. list_all (λ other. ended_by other.ended row.ended) (map f items)) (map f (drop i items)) ≡ last_ended (map f items)
    → Some (f row) ≡ last_ended (map f items)
last_here f items i row lt is last so_far =
    sym (ahead-at f items i row lt is ∙ ap (λ b. cond b (Some (f row)) (find (is-last (map f items)) (map f (drop (i + 1) items)))) last) ∙ so_far

-- and where it did not, one behind it did
pub last_behind : {A : Type 0} (f : A → WorkRow) (items : List A) (i : ℕ) (row : A) → i < length items → row ≡ get_or items i row
    → list_all (λ other. ended_by other.ended (f row).ended) (map f items) ≡ false
    → find (λ row. list_all (λ other. ended_by other.ended row.ended) (map f items)) (map f (drop i items)) ≡ last_ended (map f items)
    → find (λ row. list_all (λ other. ended_by other.ended row.ended) (map f items)) (map f (drop (i + 1) items)) ≡ last_ended (map f items)
last_behind f items i row lt is last so_far =
    sym (ahead-at f items i row lt is ∙ ap (λ b. cond b (Some (f row)) (find (is-last (map f items)) (map f (drop (i + 1) items)))) last) ∙ so_far

-- whether a partition is busy, or one is left and the job execution is unfinished
abbrev goes_on : Bool → Bool → List WorkRow → Bool
goes_on unfinished left items = list_any (λ row. is_busy row.state) items || (left && unfinished)

-- the status of partitions that do not go on
abbrev status_over : Bool → List WorkRow → BatchStatus
status_over left items =
    if list_any (λ row. is_failed row.state) items then Failed
    else (if left || list_any (λ row. is_stopped row.state) items then Stopped else Completed)

same_step : (first : WorkRow) (step : List ℕ) (status now : BatchStatus) (end end_now : Option ℕ) (exit exit_now : Option (List ℕ)) (metrics : Metrics) (items : List WorkRow)
    → step ≡ first.element → status ≡ now → end ≡ end_now → exit ≡ exit_now → metrics ≡ sum_of_metrics (map (λ row. row.metrics) items)
    → ◌≡◌ {A = StepExecution}
    record { work = first.work; execution = first.execution; step = step; status = status; start = first.start; end = end; exit = exit; metrics = metrics }
    record { work = first.work; execution = first.execution; step = first.element; status = now; start = first.start; end = end_now; exit = exit_now; metrics = sum_of_metrics (map (λ row. row.metrics) items) }
same_step first step status now end end_now exit exit_now metrics items is_step is_status is_end is_exit is_metrics =
    rw is_step (rw is_status (rw is_end (rw is_exit (rw is_metrics refl))))

-- partitions that go on
pub shown_going : (owner : ExecutionRow) (left unfinished : Bool) (items : List WorkRow) (first : WorkRow) (step : List ℕ) (metrics : Metrics)
    → unfinished ≡ is_unfinished (row_status owner) → goes_on unfinished left items ≡ true → step ≡ first.element → metrics ≡ sum_of_metrics (map (λ row. row.metrics) items)
    → ◌≡◌ {A = StepExecution}
    record { work = first.work; execution = first.execution; step = step; status = Started; start = first.start; end = None; exit = None; metrics = metrics }
    (shown_partitions owner left items first)
shown_going owner left unfinished items first step metrics begun on is_step is_metrics =
    let running : Bool = is_unfinished (row_status owner) in
    let status : Started ≡ status_of_partitions running left items =
    sym (ap (λ u. status_of_partitions u left items) (sym begun) ∙ ap (λ b. cond b Started (status_over left items)) on) in
    same_step first step Started (status_of_partitions running left items) None (once_over (status_of_partitions running left items) (end_of_partitions left items owner.end))
    None (once_over (status_of_partitions running left items) (Some (status_name (status_of_partitions running left items)))) metrics items is_step status
    (ap (λ s. once_over s (end_of_partitions left items owner.end)) status) (ap (λ s. once_over s (Some (status_name s))) status) is_metrics

over-shown : {X : Type 0} (left : Bool) (items : List WorkRow) (shown : Option X) → once_over (status_over left items) shown ≡ shown
over-shown left items shown =
    elim (list_any (λ (row : WorkRow). is_failed row.state) items) as (λ b. once_over (cond b Failed (cond (left || list_any (λ (row : WorkRow). is_stopped row.state) items) Stopped Completed)) shown ≡ shown) [
      | true ↦ refl
      | false ↦ elim (left || list_any (λ (row : WorkRow). is_stopped row.state) items) as (λ b. once_over (cond b Stopped Completed) shown ≡ shown) [
        | true ↦ refl
        | false ↦ refl
      ]
    ]

-- partitions that do not
pub shown_over : (owner : ExecutionRow) (left unfinished : Bool) (items : List WorkRow) (first : WorkRow) (step exit : List ℕ) (metrics : Metrics) (status : BatchStatus) (end : Option ℕ)
    → unfinished ≡ is_unfinished (row_status owner) → goes_on unfinished left items ≡ false → step ≡ first.element → metrics ≡ sum_of_metrics (map (λ row. row.metrics) items)
    → status ≡ status_over left items → exit ≡ status_name status → end ≡ cond left owner.end (option_and_then (λ row. row.end) (last_ended items))
    → ◌≡◌ {A = StepExecution}
    record { work = first.work; execution = first.execution; step = step; status = status; start = first.start; end = end; exit = Some exit; metrics = metrics }
    (shown_partitions owner left items first)
shown_over owner left unfinished items first step exit metrics status end begun off is_step is_metrics is_status is_exit is_end =
    let running : Bool = is_unfinished (row_status owner) in
    let now : status_over left items ≡ status_of_partitions running left items =
    sym (ap (λ u. status_of_partitions u left items) (sym begun) ∙ ap (λ b. cond b Started (status_over left items)) off) in
    same_step first step status (status_of_partitions running left items) end (once_over (status_of_partitions running left items) (end_of_partitions left items owner.end))
    (Some exit) (once_over (status_of_partitions running left items) (Some (status_name (status_of_partitions running left items)))) metrics items is_step (is_status ∙ now)
    (is_end ∙ (sym (over-shown left items (end_of_partitions left items owner.end)) ∙ ap (λ s. once_over s (end_of_partitions left items owner.end)) now))
    (ap (λ t. Some t) (is_exit ∙ ap status_name is_status) ∙ (sym (over-shown left items (Some (status_name (status_over left items)))) ∙ ap (λ s. once_over s (Some (status_name s))) now)) is_metrics

-- the end is the job execution's where one is left, and else that of the one that ended last
pub end_left : (left : Bool) (end owner other : Option ℕ) → true ≡ left → end ≡ owner → end ≡ cond left owner other
end_left left end owner other is same = same ∙ ap (λ b. cond b owner other) is

pub end_over : (left : Bool) (end owner other : Option ℕ) → false ≡ left → end ≡ other → end ≡ cond left owner other
end_over left end owner other is same = same ∙ ap (λ b. cond b owner other) is
