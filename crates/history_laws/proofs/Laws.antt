-- The laws over whole histories.
use Rattle.std.proofs.Common.{◌≡◌, ◌≢◌, ℕ, ◌==◌, Bool, true, false, cond, None, Some, is_some, List, [], ◌∷◌, ◌++◌, find, reverse, refl, sym, ◌∙◌, ap, subst}
use Rattle.std.proofs.lemmas.List.{append_assoc, reverse-append, reverse-reverse}
use Rattle.std.proofs.lemmas.Bool.{eqb-true}
use Rattle.batch_ids.specs.Statuses.{is_unfinished}
use Rattle.batch_ids.specs.declared.status.BatchStatus.{BatchStatus}
use Rattle.batch_ids.specs.declared.status.BatchStatus.TheVariants.{Starting, Started, Stopping, Stopped, Failed, Completed, Abandoned}
use Rattle.jsl_model.specs.Jobs.{JobTree}
use Rattle.batch_history.specs.declared.call.Entry.{Entry}
use Rattle.batch_history.proofs.Folds.{made, is_made, works_of, stop_of, start_of, abandoned_of, end_of, bare_of, value_after, folded_rows, execution_row}
use Rattle.batch_history.specs.Executions.{Made}
use Rattle.batch_history.specs.Legal.{IsLegal}
use Rattle.batch_history.specs.Replies.{row_status, is_execution, runnable_of_job, partitions_of_job, partition_named}
use Rattle.batch_history.specs.Rows.{History, IsAsBefore}
use Rattle.batch_history.specs.Statuses.{is_finished}
use Rattle.batch_history.specs.Walks.{job_named}
use Rattle.batch_history.specs.Works.{is_work, work_key, Apart, AllApart}
use Rattle.batch_history.specs.declared.rows.ExecutionRow.{ExecutionRow}
use Rattle.batch_history.specs.declared.rows.WorkRow.{WorkRow}
use Rattle.batch_history.specs.declared.rows.JobInstance.{JobInstance}
use Rattle.history_laws.specs.Laws.{beginning, row_in, work_in, StaysFinished, EndedAt, BelongsTo, HasInstance}
use Rattle.batch_history.proofs.Legal.{legal-beginning}
use Rattle.batch_history.proofs.Legality.{past-due, past-due-there}
use Rattle.batch_history.proofs.Purged.{purged-over}
use Rattle.batch_history.specs.Purges.{is_purged}
use Rattle.batch_history.proofs.Origins.{instances-law}
use Rattle.batch_history.proofs.WorkLists.{each-found}
use Rattle.batch_history.proofs.Told.{AllDue, made-number, made-more}
use Rattle.batch_history.proofs.Kept.{IsHeld, IsKept, kept}
use Rattle.batch_history.proofs.Finished.{on-it, busy-unfinished, finished-status, finished-stays, made-after}
use Rattle.history_laws.proofs.Moments.{abandoned-finished, EndedPast, ended-past, over-ended}
use Rattle.batch_history.proofs.Owners.{InstanceOf, instances-kept, jobs-kept}
use Rattle.history_laws.proofs.Claims.{IsPlaced, all-placed}
use Rattle.history_laws.proofs.Beginnings.{row-folded, work-folded, row-there, IsRowAt, row-at, due-older}

-- ---- What is over

open-status : (abandoned : Bool) (bare : BatchStatus) → (abandoned ≡ true → is_finished bare ≡ true) → is_finished (cond abandoned Abandoned bare) ≡ true → is_finished bare ≡ true
open-status true bare before h = before refl
open-status false bare before h = h

-- over by its status, so over by its walk or its stop
over-bare : (limit : ℕ) (catalogue : List JobTree) (past : List Entry) (m : Made) → AllDue limit catalogue past → find (is_made m.execution) (made past) ≡ Some m
    → is_finished (row_status (execution_row catalogue past m)) ≡ true → is_finished (bare_of catalogue past m) ≡ true
over-bare limit catalogue past m due found over =
    open-status (abandoned_of past m.execution) (bare_of catalogue past m) (abandoned-finished limit catalogue past m due found) over

stays-past : (limit : ℕ) (catalogue : List JobTree) (more past whole : List Entry) (x : ℕ) (row : ExecutionRow) → whole ≡ more ++ past → AllDue limit catalogue whole
    → find (is_execution x) (folded_rows catalogue past).executions ≡ Some row → is_finished (row_status row) ≡ true → AllDue limit catalogue past
    → (after : ExecutionRow) × (find (is_execution x) (folded_rows catalogue whole).executions ≡ Some after) × (is_finished (row_status after) ≡ true) × IsAsBefore row after
stays-past limit catalogue more past whole x row is due found over due_past =
    let from : IsRowAt catalogue past x row = row-at catalogue past x row found in
    let m : Made = from.one in
    let over_row : is_finished (row_status (execution_row catalogue past m)) ≡ true = sym (ap (λ (r : ExecutionRow). is_finished (row_status r)) from.is_row) ∙ over in
    let bare : is_finished (bare_of catalogue past m) ≡ true = over-bare limit catalogue past m due_past from.found over_row in
    let due_more : AllDue limit catalogue (more ++ past) = subst (AllDue limit catalogue) is due in
    let same : IsAsBefore (execution_row catalogue past m) (execution_row catalogue (more ++ past) m) = finished-stays limit catalogue more past m due_more from.found bare in
    let there : find (is_execution m.execution) (folded_rows catalogue (more ++ past)).executions ≡ Some (execution_row catalogue (more ++ past) m) =
    row-there catalogue (more ++ past) m.execution m (made-after more past m.execution m from.found) in
    let still : is_finished (bare_of catalogue (more ++ past) m) ≡ true = ap (λ (r : ExecutionRow). is_finished r.bare) same ∙ bare in
    let after : ExecutionRow = execution_row catalogue (more ++ past) m in (
      after,
      subst (λ l. find (is_execution x) (folded_rows catalogue l).executions ≡ Some after) (sym is) (subst (λ n. find (is_execution n) (folded_rows catalogue (more ++ past)).executions ≡ Some after) from.number there),
      finished-status (abandoned_of (more ++ past) m.execution) (bare_of catalogue (more ++ past) m) still,
      subst (λ r. IsAsBefore r after) (sym from.is_row) same,
    )

pub finished_stays : (limit : ℕ) (h : History) → IsLegal limit h → (before after : List Entry) → h.log ≡ before ++ after → (x : ℕ) (row : ExecutionRow)
    → row_in (beginning h before) x ≡ Some row → is_finished (row_status row) ≡ true → StaysFinished h x row
finished_stays limit h legal before after cut x row found over =
    let is : reverse h.log ≡ reverse after ++ reverse before = ap reverse cut ∙ reverse-append before after in
    let due : AllDue limit h.catalogue (reverse h.log) = past-due limit h legal in
    let due_past : AllDue limit h.catalogue (reverse before) = due-older limit h.catalogue (reverse after) (reverse before) (subst (AllDue limit h.catalogue) is due) in
    let begun : IsLegal limit (beginning h before) = legal-beginning limit h legal before after cut in
    let stays = stays-past limit h.catalogue (reverse after) (reverse before) (reverse h.log) x row is due (sym (row-folded limit (beginning h before) begun x) ∙ found) over due_past in
    record { after = stays.0; found = row-folded limit h legal x ∙ stays.1; finished = stays.2; same = stays.3 }

-- ---- The end

-- what is not over has no end
pub no-end : (limit : ℕ) (catalogue : List JobTree) (past : List Entry) (m : Made) → AllDue limit catalogue past → find (is_made m.execution) (made past) ≡ Some m
    → is_finished (bare_of catalogue past m) ≡ false → is_some (end_of catalogue past m) ≡ false
no-end limit catalogue past m due found unfinished =
    (elim (end_of catalogue past m) as (λ o. end_of catalogue past m ≡ o → is_some o ≡ false) [
      | None ↦ λ e. refl
      | Some t ↦ λ e.
          let cut : EndedPast catalogue past m t = ended-past catalogue past m t found e in
          let due_cut : AllDue limit catalogue (cut.later ++ cut.entry ∷ cut.older) = subst (AllDue limit catalogue) cut.cut due in
          let same = finished-stays limit catalogue cut.later (cut.entry ∷ cut.older) m due_cut cut.found cut.over in
          let over : is_finished (bare_of catalogue (cut.later ++ cut.entry ∷ cut.older) m) ≡ true = ap (λ (r : ExecutionRow). is_finished r.bare) same ∙ cut.over in
          let over_here : is_finished (bare_of catalogue past m) ≡ true = ap (λ l. is_finished (bare_of catalogue l m)) cut.cut ∙ over in
          let bad : true ≡ false = sym over_here ∙ unfinished in cc
    ]) refl

-- before the operation that brings the end it is not over
earlier-open : (catalogue : List JobTree) (older : List Entry) (e : Entry) (x : ℕ) (m : Made) → m.execution ≡ x → find (is_made m.execution) (made (e ∷ older)) ≡ Some m
    → is_finished (bare_of catalogue older m) ≡ false → (row : ExecutionRow) → find (is_execution x) (folded_rows catalogue older).executions ≡ Some row → is_finished row.bare ≡ false
earlier-open catalogue older e x m number found unfinished row is =
    let from : IsRowAt catalogue older x row = row-at catalogue older x row is in
    let n : Made = from.one in
    let later : find (is_made n.execution) (made (e ∷ older)) ≡ Some n = made-more older e n.execution n from.found in
    let same : n.execution ≡ m.execution = from.number ∙ sym number in
    let one : n ≡ m = let both : Some n ≡ Some m = sym later ∙ (ap (λ y. find (is_made y) (made (e ∷ older))) same ∙ found) in cc in
    ap (λ (r : ExecutionRow). is_finished r.bare) from.is_row ∙ (ap (λ k. is_finished (bare_of catalogue older k)) one ∙ unfinished)

-- an end is there exactly where it is over
pub has_end_where_over : (limit : ℕ) (h : History) → IsLegal limit h → (x : ℕ) (row : ExecutionRow) → row_in h x ≡ Some row → is_some row.end ≡ is_finished row.bare
has_end_where_over limit h legal x row found =
    let past : List Entry = reverse h.log in
    let from : IsRowAt h.catalogue past x row = row-at h.catalogue past x row (sym (row-folded limit h legal x) ∙ found) in
    let m : Made = from.one in
    let due : AllDue limit h.catalogue past = past-due limit h legal in
    subst (λ (r : ExecutionRow). is_some r.end ≡ is_finished r.bare) (sym from.is_row)
    (on-it (is_finished (bare_of h.catalogue past m))
    (λ over. over-ended h.catalogue past m over ∙ sym over)
    (λ unfinished. no-end limit h.catalogue past m due from.found unfinished ∙ sym unfinished))

-- an end is the moment of the operation that brought it
pub ended_at : (limit : ℕ) (h : History) → IsLegal limit h → (x t : ℕ) (row : ExecutionRow) → row_in h x ≡ Some row → row.end ≡ Some t → EndedAt h x t
ended_at limit h legal x t row found ended =
    let past : List Entry = reverse h.log in
    let catalogue : List JobTree = h.catalogue in
    let from : IsRowAt catalogue past x row = row-at catalogue past x row (sym (row-folded limit h legal x) ∙ found) in
    let m : Made = from.one in
    let end : end_of catalogue past m ≡ Some t = sym (ap (λ (r : ExecutionRow). r.end) from.is_row) ∙ ended in
    let cut : EndedPast catalogue past m t = ended-past catalogue past m t from.found end in
    let whole : h.log ≡ reverse cut.older ++ cut.entry ∷ reverse cut.later =
    sym (reverse-reverse h.log) ∙ (ap reverse cut.cut ∙ (reverse-append cut.later (cut.entry ∷ cut.older)
    ∙ (ap (λ l. l ++ reverse cut.later) (reverse-append (cut.entry ∷ []) cut.older) ∙ append_assoc (reverse cut.older) (cut.entry ∷ []) (reverse cut.later)))) in
    let then_past : reverse (reverse cut.older ++ cut.entry ∷ []) ≡ cut.entry ∷ cut.older =
    reverse-append (reverse cut.older) (cut.entry ∷ []) ∙ ap (λ l. cut.entry ∷ l) (reverse-reverse cut.older) in
    let there : find (is_execution x) (folded_rows catalogue (cut.entry ∷ cut.older)).executions ≡ Some (execution_row catalogue (cut.entry ∷ cut.older) m) =
    subst (λ n. find (is_execution n) (folded_rows catalogue (cut.entry ∷ cut.older)).executions ≡ Some (execution_row catalogue (cut.entry ∷ cut.older) m)) from.number
    (row-there catalogue (cut.entry ∷ cut.older) m.execution m cut.found) in
    let one_more : h.log ≡ (reverse cut.older ++ cut.entry ∷ []) ++ reverse cut.later =
    whole ∙ sym (append_assoc (reverse cut.older) (cut.entry ∷ []) (reverse cut.later)) in
    let legal_then = legal-beginning limit h legal (reverse cut.older ++ cut.entry ∷ []) (reverse cut.later) one_more in
    let legal_before = legal-beginning limit h legal (reverse cut.older) (cut.entry ∷ reverse cut.later) whole in
    record {
      before = reverse cut.older;
      entry = cut.entry;
      after = reverse cut.later;
      cut = whole;
      moment = cut.moment;
      row = execution_row catalogue (cut.entry ∷ cut.older) m;
      found = row-folded limit (beginning h (reverse cut.older ++ cut.entry ∷ [])) legal_then x
          ∙ subst (λ l. find (is_execution x) (folded_rows catalogue l).executions ≡ Some (execution_row catalogue (cut.entry ∷ cut.older) m)) (sym then_past) there;
      finished = cut.over;
      until = λ earlier is. earlier-open catalogue cut.older (cut.entry) x m from.number cut.found cut.open_before earlier
          (subst (λ l. find (is_execution x) (folded_rows catalogue l).executions ≡ Some earlier) (reverse-reverse cut.older)
          (sym (row-folded limit (beginning h (reverse cut.older)) legal_before x) ∙ is));
    }

-- ---- Work

unfinished-status : (bare : BatchStatus) → is_finished bare ≡ false → is_unfinished bare ≡ true
unfinished-status Starting h = refl
unfinished-status Started h = refl
unfinished-status Stopping h = refl
unfinished-status Stopped h = cc
unfinished-status Failed h = cc
unfinished-status Completed h = cc
unfinished-status Abandoned h = cc

shown-unfinished : (abandoned : Bool) (bare : BatchStatus) → (abandoned ≡ true → is_finished bare ≡ true) → is_finished bare ≡ false → is_unfinished (cond abandoned Abandoned bare) ≡ true
shown-unfinished true bare before h = let over : is_finished bare ≡ true = before refl in let bad : true ≡ false = sym over ∙ h in cc
shown-unfinished false bare before h = unfinished-status bare h

pub belongs : (limit : ℕ) (h : History) → IsLegal limit h → (w : ℕ) (work : WorkRow) → work_in h w ≡ Some work → BelongsTo h work
belongs limit h legal w work found =
    let past : List Entry = reverse h.log in
    let due : AllDue limit h.catalogue past = past-due limit h legal in
    let k : IsKept h.catalogue past = kept limit h.catalogue past due in
    let placed : IsPlaced h.catalogue past work = each-found (IsPlaced h.catalogue past) (is_work w) (works_of past) work (all-placed limit h.catalogue past due) (sym (work-folded limit h legal w) ∙ found) in
    let held : IsHeld h.catalogue past work = each-found (IsHeld h.catalogue past) (is_work w) (works_of past) work k.held (sym (work-folded limit h legal w) ∙ found) in
    let m : Made = held.one in
    let same : placed.one ≡ m = let both : Some placed.one ≡ Some m = sym placed.found ∙ held.found in cc in
    let number : m.execution ≡ work.execution = made-number work.execution past m held.found in
    let made_so : find (is_made m.execution) (made past) ≡ Some m = ap (λ n. find (is_made n) (made past)) number ∙ held.found in
    let begun : is_some (start_of past m.execution) ≡ true = ap (λ n. is_some (start_of past n)) number ∙ held.begun in
    record {
      owner = execution_row h.catalogue past m;
      found = row-folded limit h legal work.execution ∙ row-there h.catalogue past work.execution m held.found;
      begun = begun;
      unfinished = λ busy. shown-unfinished (abandoned_of past m.execution) (bare_of h.catalogue past m) (abandoned-finished limit h.catalogue past m due made_so)
          (busy-unfinished (work_key work) (stop_of past m.execution) (start_of past m.execution) (value_after h.catalogue past m) (held.under_way busy) begun);
      runs = subst (λ (n : Made). is_some (runnable_of_job (job_named h.catalogue n.job) (work_key work)) ≡ true) same placed.runs;
      partition = subst (λ (n : Made). work.partition ≡ partition_named (work_key work).partition (partitions_of_job (job_named h.catalogue n.job) (work_key work))) same placed.partition;
    }

apart-found : (rows : List WorkRow) (v w : ℕ) (one other : WorkRow) → AllApart rows → find (is_work v) rows ≡ Some one → find (is_work w) rows ≡ Some other → v ≢ w
    → one.execution ≡ other.execution → work_key one ≢ work_key other
apart-found [] v w one other apart e1 e2 differ same el = cc
apart-found (r ∷ rs) v w one other apart e1 e2 differ same el =
    on-it (r.work == v)
    (λ first. on-it (r.work == w)
    (λ second. differ (sym (eqb-true r.work v first) ∙ eqb-true r.work w second))
    (λ off.
    let is : r ≡ one = let s : Some r ≡ Some one = sym (ap (λ b. cond b (Some r) (find (is_work v) rs)) first) ∙ e1 in cc in
    let later : find (is_work w) rs ≡ Some other = sym (ap (λ b. cond b (Some r) (find (is_work w) rs)) off) ∙ e2 in
    each-found (Apart r) (is_work w) rs other apart.0 later (sym same ∙ ap (λ (z : WorkRow). z.execution) (sym is)) (sym el ∙ ap work_key (sym is))))
    (λ off.
    let here : find (is_work v) rs ≡ Some one = sym (ap (λ b. cond b (Some r) (find (is_work v) rs)) off) ∙ e1 in
    on-it (r.work == w)
    (λ second.
    let is : r ≡ other = let s : Some r ≡ Some other = sym (ap (λ b. cond b (Some r) (find (is_work w) rs)) second) ∙ e2 in cc in
    each-found (Apart r) (is_work v) rs one apart.0 here (same ∙ ap (λ (z : WorkRow). z.execution) (sym is)) (el ∙ ap work_key (sym is)))
    (λ off2. apart-found rs v w one other apart.1 here (sym (ap (λ b. cond b (Some r) (find (is_work w) rs)) off2) ∙ e2) differ same el))

-- no work key of a job execution has two work items
pub once_each : (limit : ℕ) (h : History) → IsLegal limit h → (v w : ℕ) (one other : WorkRow) → work_in h v ≡ Some one
    → work_in h w ≡ Some other → v ≢ w → one.execution ≡ other.execution → work_key one ≢ work_key other
once_each limit h legal v w one other e1 e2 differ same =
    apart-found (works_of (reverse h.log)) v w one other (kept limit h.catalogue (reverse h.log) (past-due limit h legal)).apart
    (sym (work-folded limit h legal v) ∙ e1) (sym (work-folded limit h legal w) ∙ e2) differ same

-- ---- Job instances

pub has_instance : (limit : ℕ) (h : History) → IsLegal limit h → (x : ℕ) (row : ExecutionRow) → row_in h x ≡ Some row → HasInstance h row
has_instance limit h legal x row found =
    let past : List Entry = reverse h.log in
    let from : IsRowAt h.catalogue past x row = row-at h.catalogue past x row (sym (row-folded limit h legal x) ∙ found) in
    let m : Made = from.one in
    let i : InstanceOf past m = each-found (InstanceOf past) (is_made m.execution) (made past) m (instances-kept limit h.catalogue past (past-due limit h legal)) from.found in
    subst (HasInstance h) (sym from.is_row) (record {
      instance = i.instance;
      found = ap (find (λ (j : JobInstance). j.instance == m.instance)) (instances-law past) ∙ i.found;
      job = i.job;
    })

-- ---- Jobs

pub has_job : (limit : ℕ) (h : History) → IsLegal limit h → (x : ℕ) (row : ExecutionRow) → row_in h x ≡ Some row → is_some (job_named h.catalogue row.job) ≡ true
has_job limit h legal x row found =
    let past : List Entry = reverse h.log in
    let from : IsRowAt h.catalogue past x row = row-at h.catalogue past x row (sym (row-folded limit h legal x) ∙ found) in
    let m : Made = from.one in
    ap (λ (r : ExecutionRow). is_some (job_named h.catalogue r.job)) from.is_row
    ∙ each-found (λ (n : Made). is_some (job_named h.catalogue n.job) ≡ true) (is_made m.execution) (made past) m (jobs-kept limit h.catalogue past (past-due limit h legal)) from.found

-- ---- Purges

-- a job execution of a job instance that was purged is over
pub purged_finished : (limit : ℕ) (h : History) → IsLegal limit h → (x : ℕ) (row : ExecutionRow) → row_in h x ≡ Some row
    → is_purged (reverse h.log) row.instance ≡ true → is_finished (row_status row) ≡ true
purged_finished limit h legal x row found gone =
    let past : List Entry = reverse h.log in
    let from : IsRowAt h.catalogue past x row = row-at h.catalogue past x row (sym (row-folded limit h legal x) ∙ found) in
    ap (λ (r : ExecutionRow). is_finished (row_status r)) from.is_row
    ∙ purged-over limit h.catalogue past (past-due limit h legal) (past-due-there limit h legal) from.one from.found
    (sym (ap (λ (r : ExecutionRow). is_purged past r.instance) from.is_row) ∙ gone)
