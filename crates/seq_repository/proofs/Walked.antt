-- A job execution after an operation on it, by the walk that its cursor follows.
use Rattle.std.proofs.Common.{◌≡◌, ℕ, Bool, true, Option, None, Some, IfSome, Bor, is_some, option_copied, List, [], ◌∷◌, ◌++◌, find, refl, sym, ◌∙◌, ap, subst}
use Rattle.std.specs.Option.{option_map}
use Rattle.batch_ids.specs.declared.metric_step.MetricStep.{MetricStep}
use Rattle.batch_ids.specs.declared.status.BatchStatus.{BatchStatus}
use Rattle.batch_ids.specs.declared.status.WorkOutcome.{WorkOutcome}
use Rattle.batch_history.specs.NextRows.{over_as, refreshed}
use Rattle.batch_history.specs.Lists.{change_first}
use Rattle.batch_history.specs.Works.{busy_work, is_work, item_key, work_key, AllApart}
use Rattle.batch_history.specs.declared.call.WorkItem.{WorkItem}
use Rattle.batch_history.specs.Replies.{first_ready, has_something_by, row_status}
use Rattle.batch_history.specs.Rows.{is_execution}
use Rattle.batch_history.specs.Walks.{walk_value}
use Rattle.batch_history.specs.declared.rows.ExecutionRow.{ExecutionRow}
use Rattle.batch_history.specs.declared.rows.WorkRow.{WorkRow}
use Rattle.job_plans.specs.Cursors.{CursorState, value_in, with_fact}
use Rattle.walk_rules.specs.Shown.{busy_of, ready_of}
use Rattle.walk_rules.specs.Keys.{has_key}
use Rattle.walk_rules.specs.declared.facts.Fact.TheVariants.{Busy, Over}
use Rattle.walk_rules.specs.declared.facts.Value.{Value}
use Rattle.walk_rules.specs.declared.work_key.WorkKey.{WorkKey}
use Rattle.jsl_model.specs.Jobs.{JobTree}
use Rattle.seq_repository.proofs.Entries.{change-found, copied-some, found-execution}
use Rattle.restart_rules.specs.Placed.{is_placed, ArePlaced}
use Rattle.restart_rules.proofs.Placing.{placed_at}
use Rattle.seq_repository.proofs.Followed.{first_among, follows_reported, follows_taken, follows_value}
use Rattle.seq_repository.specs.Changes.{effect_of, row_after}
use Rattle.seq_repository.specs.Following.{AreFollowed, Follows, IsFirst, IsFollowed, Walks}
use Rattle.seq_repository.specs.Searches.{has_ready}
use Rattle.seq_repository.specs.declared.rows.Change.{Change}

follows-found : (catalogue : List JobTree) (works : List WorkRow) (owner : Option ExecutionRow) (row : ExecutionRow) (cursor : CursorState) → owner ≡ Some row
    → Walks catalogue works owner (Some cursor) → Follows catalogue works row cursor
follows-found catalogue works owner row cursor found walks = subst (λ (o : Option ExecutionRow). Walks catalogue works o (Some cursor)) found walks

-- its new row
pub row_walked : (change : Change) (catalogue : List JobTree) (works : List WorkRow) (at : ℕ) (owner : Option ExecutionRow) (row new : ExecutionRow) (cursor : CursorState) (value : Value)
    → owner ≡ Some row → Walks catalogue works owner (Some cursor) → value ≡ value_in cursor
    → new ≡ refreshed (effect_of change) value at row → Some new ≡ option_map (row_after change catalogue works at) owner
row_walked change catalogue works at owner row new cursor value found walks is made =
    let walked : value ≡ walk_value catalogue works row.execution row.job row.plan =
    is ∙ follows_value catalogue works row cursor (follows-found catalogue works owner row cursor found walks) in
    ap Some (made ∙ ap (λ v. refreshed (effect_of change) v at row) walked)
    ∙ ap (option_map (row_after change catalogue works at)) (sym found)

-- whether there is something to do for it
pub ready_walked : (change : Change) (catalogue : List JobTree) (works : List WorkRow) (at : ℕ) (owner : Option ExecutionRow) (row new : ExecutionRow) (cursor : CursorState) (value : Value)
    (key : Option (Bor WorkKey)) (shown ready : Bool) (status : BatchStatus)
    → owner ≡ Some row → Walks catalogue works owner (Some cursor) → value ≡ value_in cursor
    → new ≡ refreshed (effect_of change) value at row
    → option_copied key ≡ first_ready value → shown ≡ is_some key → status ≡ row_status new
    → ((v : Value) → shown ≡ is_some (first_ready v) → ready ≡ has_something_by status v)
    → ready ≡ has_ready catalogue works new
ready_walked change catalogue works at owner row new cursor value key shown ready status found walks is made first is_shown is_status has =
    let walked : value ≡ walk_value catalogue works row.execution row.job row.plan =
    is ∙ follows_value catalogue works row cursor (follows-found catalogue works owner row cursor found walks) in
    let same : walk_value catalogue works row.execution row.job row.plan ≡ walk_value catalogue works new.execution new.job new.plan =
    ap (λ (r : ExecutionRow). walk_value catalogue works r.execution r.job r.plan) (sym made) in
    has value (is_shown ∙ (sym (copied-some key) ∙ ap is_some first))
    ∙ (ap (λ s. has_something_by s value) is_status ∙ ap (has_something_by (row_status new)) (walked ∙ same))

-- A cursor once its job execution is claimed, or a work item of it is over

-- the stored cursor of a job execution has its walk
pub taken_walks : (catalogue : List JobTree) (works : List WorkRow) (rows : List ExecutionRow) (kept : ℕ → Option CursorState) (x : ℕ) (owner : Option ExecutionRow) (cursor : Option CursorState)
    → AreFollowed catalogue works rows kept → owner ≡ find (is_execution x) rows → cursor ≡ kept x → IfSome cursor (λ c. Walks catalogue works owner (Some c))
taken_walks catalogue works rows kept x owner cursor followed found is =
    subst (λ o. IfSome o (λ c. Walks catalogue works owner (Some c))) (sym is)
    ((elim (kept x) as (λ o. IfSome o (IsFollowed catalogue works rows x) → IfSome o (λ c. Walks catalogue works owner (Some c))) [
      | None ↦ λ h. tt
      | Some c ↦ λ h. subst (λ o. Walks catalogue works o (Some c)) (sym (found ∙ h.found)) h.follows
    ]) (followed x))

-- the row of a job execution that was found has its number, and its job is in the catalogue
pub owned : (x : ℕ) (rows : List ExecutionRow) (owner : Option ExecutionRow) → owner ≡ find (is_execution x) rows → IfSome owner (λ row. row.execution ≡ x)
owned x rows owner is =
    subst (λ o. IfSome o (λ (row : ExecutionRow). row.execution ≡ x)) (sym is)
    ((elim (find (is_execution x) rows) as (λ o. find (is_execution x) rows ≡ o → IfSome o (λ (row : ExecutionRow). row.execution ≡ x)) [
      | None ↦ λ e. tt
      | Some row ↦ λ e. found-execution x rows row e
    ]) refl)

pub placed_owner : (catalogue : List JobTree) (x : ℕ) (rows : List ExecutionRow) (owner : Option ExecutionRow) → ArePlaced catalogue rows → owner ≡ find (is_execution x) rows
    → IfSome owner (λ row. is_placed catalogue row ≡ true)
placed_owner catalogue x rows owner placed is = subst (λ o. IfSome o (λ (row : ExecutionRow). is_placed catalogue row ≡ true)) (sym is) (placed_at catalogue rows x placed)

-- a claimed work key is one of those that its cursor has ready
pub claimed_ready : (catalogue : List JobTree) (works : List WorkRow) (row : ExecutionRow) (cursor : CursorState) (item : WorkItem) (key : WorkKey)
    → IsFirst catalogue works (Some row) item → key ≡ item_key item → Follows catalogue works row cursor → has_key (ready_of (value_in cursor)) key ≡ true
claimed_ready catalogue works row cursor item key first is follows = first_among catalogue works row cursor key follows (first ∙ ap Some (sym is))

-- it goes on with the work item that is handed out
pub claimed_walks : (catalogue : List JobTree) (works : List WorkRow) (row : ExecutionRow) (cursor after : CursorState) (item : WorkItem) (key : WorkKey) (who at : ℕ)
    → row.execution ≡ item.execution → IsFirst catalogue works (Some row) item → key ≡ item_key item → Follows catalogue works row cursor
    → after ≡ with_fact cursor key Busy → Follows catalogue (works ++ busy_work who at item ∷ []) row after
claimed_walks catalogue works row cursor after item key who at of first is follows is_after =
    let handed : WorkRow = busy_work who at item in
    let goes : Follows catalogue (works ++ handed ∷ []) row (with_fact cursor (work_key handed) Busy) =
    follows_taken catalogue works row cursor handed follows first (sym of) refl in
    subst (Follows catalogue (works ++ handed ∷ []) row) (sym (is_after ∙ ap (λ k. with_fact cursor k Busy) is)) goes

-- and with the work item that is over
pub reported_follows : (catalogue : List JobTree) (works : List WorkRow) (row : ExecutionRow) (cursor after : CursorState) (w : ℕ) (work : WorkRow) (outcome : WorkOutcome) (exit : List ℕ) (key : WorkKey)
    (step : MetricStep) (at number : ℕ) → Follows catalogue works row cursor → AllApart works → has_key (busy_of (value_in cursor)) key ≡ true → find (is_work w) works ≡ Some work
    → work.execution ≡ row.execution → key ≡ work_key work → after ≡ with_fact cursor key (Over outcome exit)
    → Follows catalogue (change_first (is_work w) (over_as outcome exit step at number) works) row after
reported_follows catalogue works row cursor after w work outcome exit key step at number follows apart busy found own is is_after =
    let new : WorkRow = over_as outcome exit step at number work in
    let goes : Follows catalogue (change_first (is_work w) (λ gone. new) works) row (with_fact cursor (work_key work) (Over outcome exit)) =
    follows_reported catalogue works row cursor (is_work w) work new outcome exit follows apart (ap (has_key (busy_of (value_in cursor))) (sym is) ∙ busy) found own refl refl refl in
    subst (λ (l : List WorkRow). Follows catalogue l row after) (change-found (is_work w) (over_as outcome exit step at number) works work found)
    (subst (Follows catalogue (change_first (is_work w) (λ gone. new) works) row) (sym (is_after ∙ ap (λ k. with_fact cursor k (Over outcome exit)) is)) goes)
