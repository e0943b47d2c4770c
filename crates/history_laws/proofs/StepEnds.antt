-- The end of a partitioned step in a job execution: the moment of the first operation after which it does not go on.
use Rattle.std.proofs.Common.{◌≡◌, ◌⊎◌, inl, inr, ℕ, ◌+◌, ◌==◌, ◌≤◌, ◌&&◌, ◌||◌, Bool, true, false, cond, Option, None, Some, is_some, List, [], ◌∷◌, ◌++◌, length, find, filter, refl, sym, ◌∙◌, ap, subst, arith}
use Rattle.std.specs.List.{list_any, list_all}
use Rattle.std.specs.Option.{option_and_then}
use Rattle.std.proofs.lemmas.Bool.{and_parts, or_parts, le-leb, leb-true, eqb-true}
use Rattle.batch_ids.specs.Statuses.{is_unfinished}
use Rattle.batch_ids.specs.declared.metric_step.MetricStep.{MetricStep}
use Rattle.batch_ids.specs.declared.status.BatchStatus.{BatchStatus}
use Rattle.batch_ids.specs.declared.status.BatchStatus.TheVariants.{Starting, Started, Stopping, Stopped, Failed, Completed, Abandoned}
use Rattle.batch_ids.specs.declared.status.WorkOutcome.{WorkOutcome}
use Rattle.jsl_model.specs.Jobs.{JobTree}
use Rattle.jsl_model.specs.declared.element.Task.{Task}
use Rattle.job_plans.specs.declared.plan.Plan.{Plan}
use Rattle.batch_history.specs.Executions.{Made}
use Rattle.batch_history.specs.Lists.{change_first, Each}
use Rattle.batch_history.specs.Moments.{first_moment}
use Rattle.batch_history.specs.Rows.{IsAsBefore}
use Rattle.batch_history.specs.Statuses.{is_finished}
use Rattle.batch_history.specs.StepExecutions.{is_busy, any_left, ended_by, last_ended, end_of_partitions}
use Rattle.batch_history.specs.Walks.{job_named}
use Rattle.batch_history.specs.Works.{is_work}
use Rattle.batch_history.specs.declared.call.Entry.{Entry}
use Rattle.batch_history.specs.declared.rows.ExecutionRow.{ExecutionRow}
use Rattle.batch_history.specs.declared.rows.WorkRow.{WorkRow}
use Rattle.batch_history.specs.declared.rows.WorkState.{WorkState}
use Rattle.batch_history.specs.declared.rows.WorkState.TheVariants.{Busy}
use Rattle.batch_history.proofs.Finding.{found-passes}
use Rattle.batch_history.proofs.Finished.{on-it, finished-step, made-after}
use Rattle.batch_history.proofs.Folds.{made, makes, is_made, works_of, start_of, abandoned_of, end_of, bare_of, plan_kept, execution_row}
use Rattle.batch_history.proofs.Kept.{IsHeld, kept}
use Rattle.batch_history.proofs.Stepping.{planned-by, ended-by}
use Rattle.batch_history.proofs.Told.{AllDue, made-before, made-more, made-once}
use Rattle.batch_history.specs.NextRows.{over, reported}
use Rattle.batch_history.proofs.WorkLists.{each-map, each-found}
use Rattle.history_laws.proofs.EachWork.{IsEndedBy, each-ended}
use Rattle.history_laws.proofs.Laws.{no-end}
use Rattle.history_laws.proofs.Moments.{abandoned-finished, not-running}
use Rattle.history_laws.proofs.Rising.{each-filter}
use Rattle.history_laws.proofs.StepItems.{is_item, items, leaves_some, is_running, goes_on, is_going, Change, none, handed, counted, ended, step-change, any-found, found-changed}
use Rattle.history_laws.proofs.StepLeaves.{IsPartitionedOf, find-some, some-of}

-- the end of partitions, once they do not go on
abbrev pub end_by : Bool → Bool → List WorkRow → Option ℕ → Option ℕ
end_by unfinished left rows end = cond (goes_on unfinished left rows) None (end_of_partitions left rows end)

-- the end of the step
abbrev pub step_end : List JobTree → List Entry → Made → List ℕ → ℕ → Option ℕ
step_end catalogue past m step n =
    end_by (is_running catalogue past m) (leaves_some catalogue past m.execution step n) (items past m.execution step) (end_of catalogue past m)

abbrev any_busy : List WorkRow → Bool
any_busy rows = list_any (λ row. is_busy row.state) rows

-- ---- Going on

not-both : (b : Bool) → b ≡ true → b ≡ false → ⊥
not-both b holds fails = let bad : true ≡ false = sym holds ∙ fails in cc

busy-goes : (unfinished left : Bool) (rows : List WorkRow) → any_busy rows ≡ true → goes_on unfinished left rows ≡ true
busy-goes unfinished left rows busy = ap (λ b. b || (left && unfinished)) busy

busy-state : (state : WorkState) → state ≡ Busy → is_busy state ≡ true
busy-state state is = ap is_busy is

over-goes : (unfinished left : Bool) (rows : List WorkRow) → any_busy rows ≡ false → (left && unfinished) ≡ false → goes_on unfinished left rows ≡ false
over-goes unfinished left rows idle rest = ap (λ b. b || (left && unfinished)) idle ∙ rest

left-waits : (left unfinished : Bool) → left ≡ true → (left && unfinished) ≡ false → unfinished ≡ false
left-waits true unfinished is h = h
left-waits false unfinished is h = cc

end-over : (unfinished left : Bool) (rows : List WorkRow) (end : Option ℕ) → goes_on unfinished left rows ≡ false
    → end_by unfinished left rows end ≡ cond left end (option_and_then (λ (row : WorkRow). row.end) (last_ended rows))
end-over unfinished left rows end off = ap (λ b. cond b None (cond left end (option_and_then (λ (row : WorkRow). row.end) (last_ended rows)))) off

-- ---- The job execution

finished-closed : (abandoned : Bool) (bare : BatchStatus) → is_finished bare ≡ true → is_unfinished (cond abandoned Abandoned bare) ≡ false
finished-closed true bare h = refl
finished-closed false Starting h = cc
finished-closed false Started h = cc
finished-closed false Stopping h = cc
finished-closed false Stopped h = refl
finished-closed false Failed h = refl
finished-closed false Completed h = refl
finished-closed false Abandoned h = refl

running-unfinished : (abandoned : Bool) (bare : BatchStatus) → is_unfinished (cond abandoned Abandoned bare) ≡ true → is_finished bare ≡ false
running-unfinished true bare h = cc
running-unfinished false Starting h = refl
running-unfinished false Started h = refl
running-unfinished false Stopping h = refl
running-unfinished false Stopped h = cc
running-unfinished false Failed h = cc
running-unfinished false Completed h = cc
running-unfinished false Abandoned h = cc

over-then : (limit : ℕ) (catalogue : List JobTree) (past : List Entry) (m : Made) → AllDue limit catalogue past → find (is_made m.execution) (made past) ≡ Some m
    → is_running catalogue past m ≡ false → is_finished (bare_of catalogue past m) ≡ true
over-then limit catalogue past m due found off =
    not-running (abandoned_of past m.execution) (bare_of catalogue past m) (abandoned-finished limit catalogue past m due found) off

none-of : (o : Option ℕ) → is_some o ≡ false → o ≡ None
none-of None h = refl
none-of (Some t) h = cc

-- a job execution that was unfinished, and is not running now, has its end now
owner-end : (limit : ℕ) (catalogue : List JobTree) (older : List Entry) (e : Entry) (m : Made) → AllDue limit catalogue (e ∷ older)
    → find (is_made m.execution) (made older) ≡ Some m → is_finished (bare_of catalogue older m) ≡ false → is_running catalogue (e ∷ older) m ≡ false
    → end_of catalogue (e ∷ older) m ≡ Some e.at
owner-end limit catalogue older e m due found unfinished off =
    let before : end_of catalogue older m ≡ None = none-of (end_of catalogue older m) (no-end limit catalogue older m due.1 found unfinished) in
    let over_now : is_finished (bare_of catalogue (e ∷ older) m) ≡ true = over-then limit catalogue (e ∷ older) m due (made-more older e m.execution m found) off in
    ended-by catalogue older e m (made-once older m.execution m e.call found)
    ∙ (ap (λ o. first_moment o (is_finished (bare_of catalogue (e ∷ older) m)) e.at) before
    ∙ ap (λ b. first_moment None b e.at) over_now)

-- ---- Once it does not go on

-- what does not go on stays as it is
pub record Stays (catalogue : List JobTree) (older : List Entry) (e : Entry) (m : Made) (step : List ℕ) (n : ℕ) : Type 0 where
  pub same : items (e ∷ older) m.execution step ≡ items older m.execution step
  pub over_still : is_going catalogue (e ∷ older) m step n ≡ false
  pub end : step_end catalogue (e ∷ older) m step n ≡ step_end catalogue older m step n

left-same : (catalogue : List JobTree) (older : List Entry) (e : Entry) (m : Made) (step : List ℕ) (n : ℕ) → find (is_made m.execution) (made older) ≡ Some m
    → items (e ∷ older) m.execution step ≡ items older m.execution step → leaves_some catalogue (e ∷ older) m.execution step n ≡ leaves_some catalogue older m.execution step n
left-same catalogue older e m step n found is =
    ap (λ (p : Plan). any_left p step (items (e ∷ older) m.execution step) (Some n)) (planned-by catalogue older e m.execution (made-once older m.execution m e.call found))
    ∙ ap (λ rows. any_left (plan_kept catalogue older m.execution) step rows (Some n)) is

unchanged-stays : (limit : ℕ) (catalogue : List JobTree) (older : List Entry) (e : Entry) (m : Made) (step : List ℕ) (n : ℕ) → AllDue limit catalogue (e ∷ older)
    → find (is_made m.execution) (made older) ≡ Some m → items (e ∷ older) m.execution step ≡ items older m.execution step
    → is_going catalogue older m step n ≡ false → Stays catalogue older e m step n
unchanged-stays limit catalogue older e m step n due found is off =
    let rows : List WorkRow = items older m.execution step in
    let left : Bool = leaves_some catalogue older m.execution step n in
    let both = or_parts (any_busy rows) (left && is_running catalogue older m) off in
    let alike : leaves_some catalogue (e ∷ older) m.execution step n ≡ left = left-same catalogue older e m step n found is in
    let idle : any_busy (items (e ∷ older) m.execution step) ≡ false = ap any_busy is ∙ both.0 in
    on-it left
    (λ on.
    let closed : is_finished (bare_of catalogue older m) ≡ true = over-then limit catalogue older m due.1 found (left-waits left (is_running catalogue older m) on both.1) in
    let before : IsAsBefore (execution_row catalogue older m) (execution_row catalogue (e ∷ older) m) = finished-step limit catalogue older e m due found closed in
    let closed_still : is_finished (bare_of catalogue (e ∷ older) m) ≡ true = ap (λ (row : ExecutionRow). is_finished row.bare) before ∙ closed in
    let stopped : is_running catalogue (e ∷ older) m ≡ false = finished-closed (abandoned_of (e ∷ older) m.execution) (bare_of catalogue (e ∷ older) m) closed_still in
    let end_same : end_of catalogue (e ∷ older) m ≡ end_of catalogue older m = ap (λ (row : ExecutionRow). row.end) before in
    let still : is_going catalogue (e ∷ older) m step n ≡ false =
    over-goes (is_running catalogue (e ∷ older) m) (leaves_some catalogue (e ∷ older) m.execution step n) (items (e ∷ older) m.execution step) idle
    (ap (λ b. b && is_running catalogue (e ∷ older) m) (alike ∙ on) ∙ stopped) in
    record {
      same = is;
      over_still = still;
      end = end-over (is_running catalogue (e ∷ older) m) (leaves_some catalogue (e ∷ older) m.execution step n) (items (e ∷ older) m.execution step) (end_of catalogue (e ∷ older) m) still
          ∙ (ap (λ b. cond b (end_of catalogue (e ∷ older) m) (option_and_then (λ (row : WorkRow). row.end) (last_ended (items (e ∷ older) m.execution step)))) (alike ∙ on)
          ∙ (end_same
          ∙ sym (end-over (is_running catalogue older m) left rows (end_of catalogue older m) off
          ∙ ap (λ b. cond b (end_of catalogue older m) (option_and_then (λ (row : WorkRow). row.end) (last_ended rows))) on)));
    })
    (λ none_left.
    let still : is_going catalogue (e ∷ older) m step n ≡ false =
    over-goes (is_running catalogue (e ∷ older) m) (leaves_some catalogue (e ∷ older) m.execution step n) (items (e ∷ older) m.execution step) idle
    (ap (λ b. b && is_running catalogue (e ∷ older) m) (alike ∙ none_left)) in
    record {
      same = is;
      over_still = still;
      end = end-over (is_running catalogue (e ∷ older) m) (leaves_some catalogue (e ∷ older) m.execution step n) (items (e ∷ older) m.execution step) (end_of catalogue (e ∷ older) m) still
          ∙ (ap (λ b. cond b (end_of catalogue (e ∷ older) m) (option_and_then (λ (row : WorkRow). row.end) (last_ended (items (e ∷ older) m.execution step)))) (alike ∙ none_left)
          ∙ (ap (λ l. option_and_then (λ (row : WorkRow). row.end) (last_ended l)) is
          ∙ sym (end-over (is_running catalogue older m) left rows (end_of catalogue older m) off
          ∙ ap (λ b. cond b (end_of catalogue older m) (option_and_then (λ (row : WorkRow). row.end) (last_ended rows))) none_left)));
    })

found-busy : (rows : List WorkRow) (w : ℕ) (c : WorkRow) → find (is_work w) rows ≡ Some c → c.state ≡ Busy → any_busy rows ≡ true
found-busy rows w c found busy = any-found (λ row. is_busy row.state) (is_work w) rows c found (busy-state c.state busy)

stays-by : (limit : ℕ) (catalogue : List JobTree) (older : List Entry) (e : Entry) (m : Made) (step : List ℕ) (n : ℕ) → AllDue limit catalogue (e ∷ older)
    → find (is_made m.execution) (made older) ≡ Some m → is_going catalogue older m step n ≡ false → Change catalogue older e m step n → Stays catalogue older e m step n
stays-by limit catalogue older e m step n due found off (none is) = unchanged-stays limit catalogue older e m step n due found is off
stays-by limit catalogue older e m step n due found off (handed new is busy going) = absurd (not-both (is_going catalogue older m step n) going off)
stays-by limit catalogue older e m step n due found off (counted w c s there busy is) =
    absurd (not-both (is_going catalogue older m step n)
    (busy-goes (is_running catalogue older m) (leaves_some catalogue older m.execution step n) (items older m.execution step) (found-busy (items older m.execution step) w c there busy)) off)
stays-by limit catalogue older e m step n due found off (ended w c o t s there busy unfinished is) =
    absurd (not-both (is_going catalogue older m step n)
    (busy-goes (is_running catalogue older m) (leaves_some catalogue older m.execution step n) (items older m.execution step) (found-busy (items older m.execution step) w c there busy)) off)

pub step-stays : (limit : ℕ) (catalogue : List JobTree) (older : List Entry) (e : Entry) (m : Made) (step : List ℕ) (n : ℕ) (task : Task) → AllDue limit catalogue (e ∷ older)
    → find (is_made m.execution) (made older) ≡ Some m → IsPartitionedOf (job_named catalogue m.job) step n task → is_going catalogue older m step n ≡ false
    → Stays catalogue older e m step n
step-stays limit catalogue older e m step n task due found part off =
    stays-by limit catalogue older e m step n due found off (step-change limit catalogue older e m step n task due found part)

-- and after any operations more
pub over-stays : (limit : ℕ) (catalogue : List JobTree) (more past : List Entry) (m : Made) (step : List ℕ) (n : ℕ) (task : Task) → AllDue limit catalogue (more ++ past)
    → find (is_made m.execution) (made past) ≡ Some m → IsPartitionedOf (job_named catalogue m.job) step n task → is_going catalogue past m step n ≡ false
    → is_going catalogue (more ++ past) m step n ≡ false
over-stays limit catalogue [] past m step n task due found part off = off
over-stays limit catalogue (e ∷ more) past m step n task due found part off =
    (step-stays limit catalogue (more ++ past) e m step n task due (made-after more past m.execution m found) part
    (over-stays limit catalogue more past m step n task due.1 found part off)).over_still

-- ---- The operation after which it does not go on

each-changed : (P Q : WorkRow → Type 0) (q : WorkRow → Bool) (f : WorkRow → WorkRow) (rows : List WorkRow) → ((row : WorkRow) → P row → Q row)
    → ((row : WorkRow) → P row → Q (f row)) → Each P rows → Each Q (change_first q f rows)
each-changed P Q q f [] same new h = tt
each-changed P Q q f (r ∷ rs) same new h =
    elim (q r) as (λ b. Each Q (cond b (f r ∷ rs) (r ∷ change_first q f rs))) [
      | true ↦ (new r h.0, each-map P Q rs same h.1)
      | false ↦ (same r h.0, each-changed P Q q f rs same new h.1)
    ]

each-all : (p : WorkRow → Bool) (rows : List WorkRow) → Each (λ row. p row ≡ true) rows → list_all p rows ≡ true
each-all p [] h = refl
each-all p (r ∷ rs) h = ap (λ b. b && list_all p rs) h.0 ∙ each-all p rs h.1

all-found : (p q : WorkRow → Bool) (rows : List WorkRow) (c : WorkRow) → list_all p rows ≡ true → find q rows ≡ Some c → p c ≡ true
all-found p q [] c h e = cc
all-found p q (r ∷ rs) c h e =
    let both = and_parts (p r) (list_all p rs) h in
    (elim (q r) as (λ b. cond b (Some r) (find q rs) ≡ Some c → p c ≡ true) [
      | true ↦ λ s. let is : r ≡ c = cc in ap p (sym is) ∙ both.0
      | false ↦ λ s. all-found p q rs c both.1 s
    ]) e

up-to : (k : ℕ) (o : Option ℕ) → ((j : ℕ) → o ≡ Some j → j ≤ k) → ended_by o (Some k) ≡ true
up-to k None h = refl
up-to k (Some j) h = le-leb j k (h j refl)

from-on : (k : ℕ) (o : Option ℕ) → ended_by (Some k) o ≡ true → (j : ℕ) × (o ≡ Some j) × (k ≤ j)
from-on k None h = cc
from-on k (Some j) h = (j, refl, leb-true k j h)

-- the one that ended last ended by the last operation, if one did
last-end : (older : List Entry) (at w : ℕ) (o : WorkOutcome) (t : Option (List ℕ)) (s : MetricStep) (rows : List WorkRow) (c : WorkRow) → Each (IsEndedBy older) rows
    → find (is_work w) rows ≡ Some c
    → option_and_then (λ (row : WorkRow). row.end) (last_ended (change_first (is_work w) (over o t s at (length older + 1)) rows)) ≡ Some at
last-end older at w o t s rows c early found =
    let k : ℕ = length older + 1 in
    let f : WorkRow → WorkRow = over o t s at k in
    let new : List WorkRow = change_first (is_work w) f rows in
    let test : WorkRow → Bool = λ row. list_all (λ other. ended_by other.ended row.ended) new in
    let there : find (is_work w) new ≡ Some (f c) = found-changed (is_work w) f rows c found (found-passes (is_work w) rows c found) in
    let bounded : Each (λ row. ended_by row.ended (Some k) ≡ true) new =
    each-changed (IsEndedBy older) (λ row. ended_by row.ended (Some k) ≡ true) (is_work w) f rows
    (λ row h. up-to k row.ended (λ j is. let le = h j is in omega (arith, le))) (λ row h. le-leb k k (omega arith)) early in
    let late : Each (λ row. IsEndedBy older row ⊎ (row.end ≡ Some at)) new =
    each-changed (IsEndedBy older) (λ row. IsEndedBy older row ⊎ (row.end ≡ Some at)) (is_work w) f rows (λ row h. inl h) (λ row h. inr refl) early in
    let passes : test (f c) ≡ true = each-all (λ other. ended_by other.ended (Some k)) new bounded in
    let last = some-of (find test new) (find-some (is_work w) test new (f c) there passes) in
    let row : WorkRow = last.0 in
    let after = from-on k row.ended (all-found (λ other. ended_by other.ended row.ended) (is_work w) new (f c) (found-passes test new row last.1) there) in
    let end : row.end ≡ Some at =
    elim (each-found (λ row. IsEndedBy older row ⊎ (row.end ≡ Some at)) test new row late last.1) [
      | inl before ↦ absurd (let le = before after.0 after.1 in omega (arith, le, after.2))
      | inr is ↦ is
    ] in
    ap (option_and_then (λ (row : WorkRow). row.end)) last.1 ∙ end

left-end : (limit : ℕ) (catalogue : List JobTree) (older : List Entry) (e : Entry) (m : Made) (step : List ℕ) (n : ℕ) → AllDue limit catalogue (e ∷ older)
    → find (is_made m.execution) (made older) ≡ Some m → is_finished (bare_of catalogue older m) ≡ false → is_going catalogue (e ∷ older) m step n ≡ false
    → leaves_some catalogue (e ∷ older) m.execution step n ≡ true → step_end catalogue (e ∷ older) m step n ≡ Some e.at
left-end limit catalogue older e m step n due found unfinished off on =
    let rows : List WorkRow = items (e ∷ older) m.execution step in
    let left : Bool = leaves_some catalogue (e ∷ older) m.execution step n in
    let running : Bool = is_running catalogue (e ∷ older) m in
    let both = or_parts (any_busy rows) (left && running) off in
    end-over running left rows (end_of catalogue (e ∷ older) m) off
    ∙ (ap (λ b. cond b (end_of catalogue (e ∷ older) m) (option_and_then (λ (row : WorkRow). row.end) (last_ended rows))) on
    ∙ owner-end limit catalogue older e m due found unfinished (left-waits left running on both.1))

or-second : (a b : Bool) → (a || b) ≡ true → a ≡ false → b ≡ true
or-second true b h off = cc
or-second false b h off = h

any-append : (p : WorkRow → Bool) (rows : List WorkRow) (new : WorkRow) → p new ≡ true → list_any p (rows ++ new ∷ []) ≡ true
any-append p [] new on = ap (λ b. b || false) on
any-append p (r ∷ rs) new on =
    elim (p r) as (λ b. (b || list_any p (rs ++ new ∷ [])) ≡ true) [
      | true ↦ refl
      | false ↦ any-append p rs new on
    ]

ends-by : (limit : ℕ) (catalogue : List JobTree) (older : List Entry) (e : Entry) (m : Made) (step : List ℕ) (n : ℕ) → AllDue limit catalogue (e ∷ older)
    → find (is_made m.execution) (made older) ≡ Some m → is_going catalogue older m step n ≡ true → is_going catalogue (e ∷ older) m step n ≡ false
    → Change catalogue older e m step n → step_end catalogue (e ∷ older) m step n ≡ Some e.at
ends-by limit catalogue older e m step n due found on off (none is) =
    let left : Bool = leaves_some catalogue older m.execution step n in
    let running : Bool = is_running catalogue older m in
    let idle : any_busy (items older m.execution step) ≡ false =
    ap any_busy (sym is) ∙ (or_parts (any_busy (items (e ∷ older) m.execution step)) (leaves_some catalogue (e ∷ older) m.execution step n && is_running catalogue (e ∷ older) m) off).0 in
    let both = and_parts left running (or-second (any_busy (items older m.execution step)) (left && running) on idle) in
    left-end limit catalogue older e m step n due found (running-unfinished (abandoned_of older m.execution) (bare_of catalogue older m) both.1) off
    (left-same catalogue older e m step n found is ∙ both.0)
ends-by limit catalogue older e m step n due found on off (handed new is busy going) =
    absurd (not-both (is_going catalogue (e ∷ older) m step n)
    (busy-goes (is_running catalogue (e ∷ older) m) (leaves_some catalogue (e ∷ older) m.execution step n) (items (e ∷ older) m.execution step)
    (ap any_busy is ∙ any-append (λ row. is_busy row.state) (items older m.execution step) new (busy-state new.state busy))) off)
ends-by limit catalogue older e m step n due found on off (counted w c s there busy is) =
    absurd (not-both (is_going catalogue (e ∷ older) m step n)
    (busy-goes (is_running catalogue (e ∷ older) m) (leaves_some catalogue (e ∷ older) m.execution step n) (items (e ∷ older) m.execution step)
    (ap any_busy is ∙ found-busy (change_first (is_work w) (reported s) (items older m.execution step)) w (reported s c)
    (found-changed (is_work w) (reported s) (items older m.execution step) c there (found-passes (is_work w) (items older m.execution step) c there)) busy)) off)
ends-by limit catalogue older e m step n due found on off (ended w c o t s there busy unfinished is) =
    on-it (leaves_some catalogue (e ∷ older) m.execution step n)
    (λ left. left-end limit catalogue older e m step n due found unfinished off left)
    (λ none_left.
    let early : Each (IsEndedBy older) (items older m.execution step) =
    each-filter (IsEndedBy older) (IsEndedBy older) (is_item m.execution step) (works_of older) (λ row _ h. h) (each-ended limit catalogue older due.1) in
    end-over (is_running catalogue (e ∷ older) m) (leaves_some catalogue (e ∷ older) m.execution step n) (items (e ∷ older) m.execution step) (end_of catalogue (e ∷ older) m) off
    ∙ (ap (λ b. cond b (end_of catalogue (e ∷ older) m) (option_and_then (λ (row : WorkRow). row.end) (last_ended (items (e ∷ older) m.execution step)))) none_left
    ∙ (ap (λ l. option_and_then (λ (row : WorkRow). row.end) (last_ended l)) is
    ∙ last-end older e.at w o t s (items older m.execution step) c early there)))

-- ---- Every past whose replies were due

-- where a past is cut at the operation that brought the end of the step
pub record StepEndedPast (catalogue : List JobTree) (past : List Entry) (m : Made) (step : List ℕ) (n : ℕ) : Type 0 where
  pub later : List Entry
  pub entry : Entry
  pub older : List Entry
  pub cut : past ≡ later ++ entry ∷ older
  pub moment : step_end catalogue past m step n ≡ Some entry.at
  pub same : items past m.execution step ≡ items (entry ∷ older) m.execution step
  pub found : find (is_made m.execution) (made older) ≡ Some m
  pub stopped : is_going catalogue (entry ∷ older) m step n ≡ false
  pub until : (more rest : List Entry) → older ≡ more ++ rest → find (is_made m.execution) (made rest) ≡ Some m → is_going catalogue rest m step n ≡ true

abbrev pub has_some : List WorkRow → Bool
has_some [] = false
has_some (r ∷ rs) = true

-- a job execution that is just made has no work item
first-item : (catalogue : List JobTree) (past : List Entry) (x : ℕ) (step : List ℕ) (rows : List WorkRow) → Each (λ row. row.execution ≡ x → is_some (start_of past x) ≡ true) rows
    → ((row : WorkRow) → is_item x step row ≡ true → row.execution ≡ x) → has_some (filter (is_item x step) rows) ≡ true → is_some (start_of past x) ≡ true
first-item catalogue past x step [] h number some = cc
first-item catalogue past x step (r ∷ rs) h number some =
    on-it (is_item x step r)
    (λ on. h.0 (number r on))
    (λ off. first-item catalogue past x step rs h.1 number (sym (ap (λ b. has_some (cond b (r ∷ filter (is_item x step) rs) (filter (is_item x step) rs))) off) ∙ some))

pub made-earlier : (limit : ℕ) (catalogue : List JobTree) (older : List Entry) (e : Entry) (m : Made) (step : List ℕ) → AllDue limit catalogue (e ∷ older)
    → find (is_made m.execution) (made (e ∷ older)) ≡ Some m → has_some (items (e ∷ older) m.execution step) ≡ true → find (is_made m.execution) (made older) ≡ Some m
made-earlier limit catalogue older e m step due found some =
    on-it (makes (length (made older)) m.execution e.call)
    (λ now.
    let begun : is_some (start_of (e ∷ older) m.execution) ≡ true =
    first-item catalogue (e ∷ older) m.execution step (works_of (e ∷ older))
    (each-map (IsHeld catalogue (e ∷ older)) (λ row. row.execution ≡ m.execution → is_some (start_of (e ∷ older) m.execution) ≡ true) (works_of (e ∷ older))
    (λ row held same. subst (λ x. is_some (start_of (e ∷ older) x) ≡ true) same held.begun) (kept limit catalogue (e ∷ older) due).held)
    (λ row on. eqb-true row.execution m.execution (and_parts (row.execution == m.execution) _ on).0) some in
    let no : is_some (start_of (e ∷ older) m.execution) ≡ false = rw now refl in
    absurd (not-both (is_some (start_of (e ∷ older) m.execution)) begun no))
    (λ before. made-before older e m.execution m before found)

pub step-ended : (limit : ℕ) (catalogue : List JobTree) (past : List Entry) (m : Made) (step : List ℕ) (n : ℕ) (task : Task) → AllDue limit catalogue past
    → find (is_made m.execution) (made past) ≡ Some m → IsPartitionedOf (job_named catalogue m.job) step n task → has_some (items past m.execution step) ≡ true
    → is_going catalogue past m step n ≡ false → StepEndedPast catalogue past m step n
step-ended limit catalogue [] m step n task due found part some off = cc
step-ended limit catalogue (e ∷ older) m step n task due found part some off =
    let earlier : find (is_made m.execution) (made older) ≡ Some m = made-earlier limit catalogue older e m step due found some in
    on-it (is_going catalogue older m step n)
    (λ on.
    record {
      later = [];
      entry = e;
      older = older;
      cut = refl;
      moment = ends-by limit catalogue older e m step n due earlier on off (step-change limit catalogue older e m step n task due earlier part);
      same = refl;
      found = earlier;
      stopped = off;
      until = λ more rest is there. on-it (is_going catalogue rest m step n) (λ going. going)
          (λ over_then. absurd (not-both (is_going catalogue older m step n) on
          (ap (λ l. is_going catalogue l m step n) is
          ∙ over-stays limit catalogue more rest m step n task (subst (AllDue limit catalogue) is due.1) there part over_then)));
    })
    (λ over_before.
    let stay : Stays catalogue older e m step n = step-stays limit catalogue older e m step n task due earlier part over_before in
    let rest : StepEndedPast catalogue older m step n =
    step-ended limit catalogue older m step n task due.1 earlier part (ap has_some (sym stay.same) ∙ some) over_before in
    record {
      later = e ∷ rest.later;
      entry = rest.entry;
      older = rest.older;
      cut = ap (λ l. e ∷ l) rest.cut;
      moment = stay.end ∙ rest.moment;
      same = stay.same ∙ rest.same;
      found = rest.found;
      stopped = rest.stopped;
      until = rest.until;
    })
