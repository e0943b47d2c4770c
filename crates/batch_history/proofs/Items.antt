-- Work items: the w-th reply of work, with the progress that the entries which name it give it, is the one that the rows
-- have.
use Rattle.std.proofs.Common.{subst, ◌≡◌, ℕ, suc, ◌+◌, ◌==◌, ◌<◌, ◌≤◌, Bool, true, false, cond, Option, None, Some, is_some, List, [], ◌∷◌, ◌++◌, length, map, find, refl, sym, ◌∙◌, ap, arith}
use Rattle.std.proofs.lemmas.List.{length-append, length-map, map-append, append-nil}
use Rattle.std.proofs.lemmas.Bool.{eqb-true, eqb-false, eq-eqb, ne_eqb}
use Rattle.batch_ids.specs.Metrics.{zero_metrics, zero_step}
use Rattle.batch_ids.specs.declared.metric_step.MetricStep.{MetricStep}
use Rattle.batch_ids.specs.declared.status.WorkOutcome.{WorkOutcome}
use Rattle.batch_ids.specs.declared.status.WorkOutcome.TheVariants.{Failed}
use Rattle.job_plans.proofs.Following.{find-map}
use Rattle.batch_history.specs.NextRows.{works_after, reported, over}
use Rattle.batch_history.specs.declared.call.Call.{Call}
use Rattle.batch_history.specs.declared.call.Call.TheVariants.{Start, Restart, Stop, Abandon, Claim, Checkpoint, Finish, Lose, Purge}
use Rattle.batch_history.specs.declared.call.Reply.{Reply}
use Rattle.batch_history.specs.declared.call.Reply.TheVariants.{Execution as IsExecution, Work, Closed, Nothing, Done, Go, StopAsked}
use Rattle.batch_history.specs.declared.call.Entry.{Entry}
use Rattle.batch_history.specs.declared.rows.WorkRow.{WorkRow}
use Rattle.batch_history.proofs.Folds.{made, works_of}
use Rattle.batch_history.specs.Lists.{change_first}
use Rattle.batch_history.specs.Operations.{taken_up_by, hands_out_work}
use Rattle.batch_history.specs.Works.{is_work, busy_work, work_item_count, item_handed_out, items_handed_out, ending_entry, ending_operation, with_counts, metrics_of, Progress, progress_by, progress_of, with_progress_of, work_items}
use Rattle.batch_history.proofs.Adding.{counted, one-more, some-map}
use Rattle.batch_history.proofs.Pasts.{Fits, FitsClaim, AllFit}

-- Work items as they were handed out are numbered from one on

abbrev pub AreRows : ℕ → List WorkRow → Type 0
AreRows k [] = Unit {0}
AreRows k (row ∷ rows) = (row.work ≡ k) × AreRows (k + 1) rows

rows-append : (k : ℕ) (rows : List WorkRow) (row : WorkRow) → AreRows k rows → row.work ≡ length rows + k → AreRows k (rows ++ row ∷ [])
rows-append k [] row h e = (omega (arith, e), tt)
rows-append k (r ∷ rows) row h e = (h.0, rows-append (k + 1) rows row h.1 (omega (arith, e)))

length-step : (older : List Entry) (who at : ℕ) (call : Call) (reply : Reply) → length (items_handed_out older) ≡ work_item_count older
    → length (items_handed_out (record { who = who; call = call; at = at; reply = reply } ∷ older)) ≡ work_item_count (record { who = who; call = call; at = at; reply = reply } ∷ older)
length-step older who at call (Work item) h =
    one-more (items_handed_out older) (record (busy_work who at item) { work = work_item_count older + 1 })
    ∙ (ap suc h ∙ sym (counted (λ (e : Entry). hands_out_work e.reply) (record { who = who; call = call; at = at; reply = Work item }) older refl))
length-step older who at call (IsExecution x) h = ap length (append-nil (items_handed_out older)) ∙ h
length-step older who at call (Closed x) h = ap length (append-nil (items_handed_out older)) ∙ h
length-step older who at call Nothing h = ap length (append-nil (items_handed_out older)) ∙ h
length-step older who at call Done h = ap length (append-nil (items_handed_out older)) ∙ h
length-step older who at call Go h = ap length (append-nil (items_handed_out older)) ∙ h
length-step older who at call StopAsked h = ap length (append-nil (items_handed_out older)) ∙ h

-- there are as many as replies of work
pub handed-length : (past : List Entry) → length (items_handed_out past) ≡ work_item_count past
handed-length [] = refl
handed-length (e ∷ older) = length-step older e.who e.at e.call e.reply (handed-length older)

-- the work items are as many as were counted
pub works-counted : (past : List Entry) → length (work_items past) ≡ work_item_count past
works-counted past = length-map (items_handed_out past) (with_progress_of (progress_of past)) ∙ handed-length past

rows-step : (w who at : ℕ) (reply : Reply) (rows : List WorkRow) → AreRows 1 rows → w ≡ length rows + 1 → AreRows 1 (rows ++ item_handed_out w who at reply)
rows-step w who at (Work item) rows h e = rows-append 1 rows (record (busy_work who at item) { work = w }) h e
rows-step w who at (IsExecution x) rows h e = subst (AreRows 1) (sym (append-nil rows)) h
rows-step w who at (Closed x) rows h e = subst (AreRows 1) (sym (append-nil rows)) h
rows-step w who at Nothing rows h e = subst (AreRows 1) (sym (append-nil rows)) h
rows-step w who at Done rows h e = subst (AreRows 1) (sym (append-nil rows)) h
rows-step w who at Go rows h e = subst (AreRows 1) (sym (append-nil rows)) h
rows-step w who at StopAsked rows h e = subst (AreRows 1) (sym (append-nil rows)) h

pub handed-numbered : (past : List Entry) → AreRows 1 (items_handed_out past)
handed-numbered [] = tt
handed-numbered (e ∷ older) =
    rows-step (work_item_count older + 1) e.who e.at e.reply (items_handed_out older) (handed-numbered older) (ap (λ n. n + 1) (sym (handed-length older)))

rows-within : (v k : ℕ) (rows : List WorkRow) → AreRows k rows → is_some (find (is_work v) rows) ≡ true → v < length rows + k
rows-within v k [] h e = cc
rows-within v k (row ∷ rows) h e =
    (elim (row.work == v) as (λ b. (row.work == v) ≡ b → is_some (cond b (Some row) (find (is_work v) rows)) ≡ true → v < length (row ∷ rows) + k) [
      | true ↦ λ is s. let here : row.work ≡ v = eqb-true row.work v is in omega (arith, h.0, here)
      | false ↦ λ is s. omega (arith, rows-within v (k + 1) rows h.1 s)
    ]) refl e

-- who takes nobody up hands nothing out
handed-none : (w who at : ℕ) (reply : Reply) → taken_up_by reply ≡ None → item_handed_out w who at reply ≡ []
handed-none w who at (Work item) none = cc
handed-none w who at (IsExecution x) none = refl
handed-none w who at (Closed x) none = refl
handed-none w who at Nothing none = refl
handed-none w who at Done none = refl
handed-none w who at Go none = refl
handed-none w who at StopAsked none = refl

-- The progress of one is changed

-- a work item with this progress
abbrev with_progress : WorkRow → Progress → WorkRow
with_progress row p = record row { state = p.state; end = p.end; ended = p.ended; metrics = p.metrics }

progress-above : (s t : ℕ → Progress) (v k : ℕ) (rows : List WorkRow) → AreRows k rows → v < k
    → ((w : ℕ) → (v == w) ≡ false → s w ≡ t w) → map (with_progress_of s) rows ≡ map (with_progress_of t) rows
progress-above s t v k [] h lt same = refl
progress-above s t v k (row ∷ rows) h lt same =
    let off : (v == row.work) ≡ false = ne_eqb v row.work (λ e. omega (arith, h.0, e)) in
    ap (λ p. with_progress row p ∷ map (with_progress_of s) rows) (same row.work off)
    ∙ ap (λ ys. with_progress_of t row ∷ ys) (progress-above s t v (k + 1) rows h.1 (omega arith) same)

progress-change : (s t : ℕ → Progress) (v : ℕ) (f : WorkRow → WorkRow) (k : ℕ) (rows : List WorkRow) → AreRows k rows
    → ((w : ℕ) → (v == w) ≡ false → s w ≡ t w)
    → ((row : WorkRow) → (v == row.work) ≡ true → with_progress_of s row ≡ f (with_progress_of t row))
    → map (with_progress_of s) rows ≡ change_first (is_work v) f (map (with_progress_of t) rows)
progress-change s t v f k [] h same here = refl
progress-change s t v f k (row ∷ rows) h same here =
    (elim (row.work == v) as (λ b. (row.work == v) ≡ b → with_progress_of s row ∷ map (with_progress_of s) rows
    ≡ cond b (f (with_progress_of t row) ∷ map (with_progress_of t) rows) (with_progress_of t row ∷ change_first (is_work v) f (map (with_progress_of t) rows))) [
      | true ↦ λ e. let is : row.work ≡ v = eqb-true row.work v e in
          ap (λ y. y ∷ map (with_progress_of s) rows) (here row (eq-eqb v row.work (sym is)))
          ∙ ap (λ ys. f (with_progress_of t row) ∷ ys) (progress-above s t v (k + 1) rows h.1 (omega (arith, h.0, is)) same)
      | false ↦ λ e. let off : (v == row.work) ≡ false = ne_eqb v row.work (λ i. eqb-false row.work v e (sym i)) in
          ap (λ p. with_progress row p ∷ map (with_progress_of s) rows) (same row.work off)
          ∙ ap (λ ys. with_progress_of t row ∷ ys) (progress-change s t v f (k + 1) rows h.1 same here)
    ]) refl

-- What is found

-- the progress of a work item that was just handed out
abbrev fresh : Progress
fresh = progress_by None None zero_metrics

-- a past whose work items are those of the rows, and in which no entry names one that was not handed out
record WorksAgree (past : List Entry) : Type 0 where
  same : work_items past ≡ works_of past
  later : (w : ℕ) → work_item_count past < w → progress_of past w ≡ fresh

-- who is there was handed out
within : (older : List Entry) (v : ℕ) → work_items older ≡ works_of older → is_some (find (is_work v) (works_of older)) ≡ true → v ≤ work_item_count older
within older v same some =
    let handed : List WorkRow = items_handed_out older in
    let there : is_some (find (is_work v) handed) ≡ true =
    sym (ap is_some (find-map (with_progress_of (progress_of older)) (is_work v) (is_work v) (λ row. refl) handed)
    ∙ some-map (with_progress_of (progress_of older)) (find (is_work v) handed))
    ∙ (ap (λ rows. is_some (find (is_work v) rows)) same ∙ some) in
    omega (arith, rows-within v 1 handed (handed-numbered older) there, handed-length older)

-- an entry that hands out nothing
same-handed : (older : List Entry) (e : Entry) → taken_up_by e.reply ≡ None
    → work_items (e ∷ older) ≡ map (with_progress_of (progress_of (e ∷ older))) (items_handed_out older)
same-handed older e none =
    ap (λ rows. map (with_progress_of (progress_of (e ∷ older))) (items_handed_out older ++ rows)) (handed-none (work_item_count older + 1) e.who e.at e.reply none)
    ∙ ap (map (with_progress_of (progress_of (e ∷ older)))) (append-nil (items_handed_out older))

claim-works : (older : List Entry) (who at : ℕ) (reply : Reply) → FitsClaim (length (works_of older)) (length (made older)) reply → WorksAgree older
    → work_items (record { who = who; call = Claim; at = at; reply = reply } ∷ older) ≡ works_after (length older + 1) who at Claim reply (works_of older)
claim-works older who at (Work item) fits before =
    let count : length (works_of older) ≡ work_item_count older =
    ap length (sym before.same) ∙ (length-map (items_handed_out older) (with_progress_of (progress_of older)) ∙ handed-length older) in
    let n : ℕ = work_item_count older + 1 in
    let number : n ≡ item.work = ap (λ k. k + 1) (sym count) ∙ sym fits.0 in
    let row : ℕ → Progress → WorkRow = λ w p. with_progress (record (busy_work who at item) { work = w }) p in
    map-append (with_progress_of (progress_of older)) (items_handed_out older) (row n fresh ∷ [])
    ∙ (ap (λ rows. rows ++ row n (progress_of older n) ∷ []) before.same
    ∙ (ap (λ p. works_of older ++ row n p ∷ []) (before.later n (omega arith))
    ∙ ap (λ w. works_of older ++ row w fresh ∷ []) number))
claim-works older who at (Closed x) fits before = ap (map (with_progress_of (progress_of older))) (append-nil (items_handed_out older)) ∙ before.same
claim-works older who at Nothing fits before = ap (map (with_progress_of (progress_of older))) (append-nil (items_handed_out older)) ∙ before.same
claim-works older who at (IsExecution x) fits before = absurd fits
claim-works older who at Done fits before = absurd fits
claim-works older who at Go fits before = absurd fits
claim-works older who at StopAsked fits before = absurd fits

-- the counts of a call that names a work item
abbrev counts_of : MetricStep → Bool → Option MetricStep
counts_of step b = cond b (Some step) None

checkpoint-works : (older : List Entry) (who at v : ℕ) (mark : List ℕ) (step : MetricStep) (reply : Reply) → taken_up_by reply ≡ None → WorksAgree older
    → work_items (record { who = who; call = Checkpoint v mark step; at = at; reply = reply } ∷ older) ≡ change_first (is_work v) (reported step) (works_of older)
checkpoint-works older who at v mark step reply none before =
    let e : Entry = record { who = who; call = Checkpoint v mark step; at = at; reply = reply } in
    let p : ℕ → Bool → Progress = λ w b. progress_by (ending_entry older w) (ending_operation older w) (with_counts (counts_of step b) (metrics_of older w)) in
    same-handed older e none
    ∙ (progress-change (progress_of (e ∷ older)) (progress_of older) v (reported step) 1 (items_handed_out older) (handed-numbered older)
    (λ w off. ap (p w) off) (λ row on. ap (λ b. with_progress row (p row.work b)) on)
    ∙ ap (change_first (is_work v) (reported step)) before.same)

finish-works : (older : List Entry) (who at v : ℕ) (o : WorkOutcome) (exit : Option (List ℕ)) (step : MetricStep) (reply : Reply) → taken_up_by reply ≡ None → WorksAgree older
    → work_items (record { who = who; call = Finish v o exit step; at = at; reply = reply } ∷ older) ≡ change_first (is_work v) (over o exit step at (length older + 1)) (works_of older)
finish-works older who at v o exit step reply none before =
    let e : Entry = record { who = who; call = Finish v o exit step; at = at; reply = reply } in
    let p : ℕ → Bool → Progress = λ w b. progress_by (cond b (Some e) (ending_entry older w)) (cond b (Some (length older + 1)) (ending_operation older w)) (with_counts (counts_of step b) (metrics_of older w)) in
    same-handed older e none
    ∙ (progress-change (progress_of (e ∷ older)) (progress_of older) v (over o exit step at (length older + 1)) 1 (items_handed_out older) (handed-numbered older)
    (λ w off. ap (p w) off) (λ row on. ap (λ b. with_progress row (p row.work b)) on)
    ∙ ap (change_first (is_work v) (over o exit step at (length older + 1))) before.same)

loss-works : (older : List Entry) (who at v : ℕ) (reply : Reply) → taken_up_by reply ≡ None → WorksAgree older
    → work_items (record { who = who; call = Lose v; at = at; reply = reply } ∷ older) ≡ change_first (is_work v) (over Failed None zero_step at (length older + 1)) (works_of older)
loss-works older who at v reply none before =
    let e : Entry = record { who = who; call = Lose v; at = at; reply = reply } in
    let p : ℕ → Bool → Progress = λ w b. progress_by (cond b (Some e) (ending_entry older w)) (cond b (Some (length older + 1)) (ending_operation older w)) (with_counts (counts_of zero_step b) (metrics_of older w)) in
    same-handed older e none
    ∙ (progress-change (progress_of (e ∷ older)) (progress_of older) v (over Failed None zero_step at (length older + 1)) 1 (items_handed_out older) (handed-numbered older)
    (λ w off. ap (p w) off) (λ row on. ap (λ b. with_progress row (p row.work b)) on)
    ∙ ap (change_first (is_work v) (over Failed None zero_step at (length older + 1))) before.same)

works-step : (older : List Entry) (who at : ℕ) (call : Call) (reply : Reply) → Fits older call reply → WorksAgree older
    → work_items (record { who = who; call = call; at = at; reply = reply } ∷ older) ≡ works_after (length older + 1) who at call reply (works_of older)
works-step older who at (Start job parameters) reply fits before =
    same-handed older (record { who = who; call = Start job parameters; at = at; reply = reply }) fits ∙ before.same
works-step older who at (Restart y parameters) reply fits before =
    same-handed older (record { who = who; call = Restart y parameters; at = at; reply = reply }) fits.0 ∙ before.same
works-step older who at (Stop y) reply fits before =
    same-handed older (record { who = who; call = Stop y; at = at; reply = reply }) fits.0 ∙ before.same
works-step older who at (Abandon y) reply fits before =
    same-handed older (record { who = who; call = Abandon y; at = at; reply = reply }) fits.0 ∙ before.same
works-step older who at Claim reply fits before = claim-works older who at reply fits before
works-step older who at (Checkpoint v mark step) reply fits before = checkpoint-works older who at v mark step reply fits.0 before
works-step older who at (Finish v o exit step) reply fits before = finish-works older who at v o exit step reply fits.0 before
works-step older who at (Lose v) reply fits before = loss-works older who at v reply fits.0 before
works-step older who at (Purge i) reply fits before =
    same-handed older (record { who = who; call = Purge i; at = at; reply = reply }) fits ∙ before.same

more-works : (older : List Entry) (e : Entry) → work_item_count older ≤ work_item_count (e ∷ older)
more-works older e =
    omega (arith, sym (handed-length older), sym (handed-length (e ∷ older)), length-append (items_handed_out older) (item_handed_out (work_item_count older + 1) e.who e.at e.reply))

later-step : (older : List Entry) (who at : ℕ) (call : Call) (reply : Reply) → Fits older call reply → WorksAgree older → (w : ℕ) → work_item_count older < w
    → progress_of (record { who = who; call = call; at = at; reply = reply } ∷ older) w ≡ fresh
later-step older who at (Start job parameters) reply fits before w lt = before.later w lt
later-step older who at (Restart y parameters) reply fits before w lt = before.later w lt
later-step older who at (Stop y) reply fits before w lt = before.later w lt
later-step older who at (Abandon y) reply fits before w lt = before.later w lt
later-step older who at Claim reply fits before w lt = before.later w lt
later-step older who at (Checkpoint v mark step) reply fits before w lt =
    let there : v ≤ work_item_count older = within older v before.same fits.1 in
    ap (λ b. progress_by (ending_entry older w) (ending_operation older w) (with_counts (counts_of step b) (metrics_of older w))) (ne_eqb v w (λ is. omega arith))
    ∙ before.later w lt
later-step older who at (Finish v o exit step) reply fits before w lt =
    let e : Entry = record { who = who; call = Finish v o exit step; at = at; reply = reply } in
    let there : v ≤ work_item_count older = within older v before.same fits.1 in
    ap (λ b. progress_by (cond b (Some e) (ending_entry older w)) (cond b (Some (length older + 1)) (ending_operation older w)) (with_counts (counts_of step b) (metrics_of older w))) (ne_eqb v w (λ is. omega arith))
    ∙ before.later w lt
later-step older who at (Lose v) reply fits before w lt =
    let e : Entry = record { who = who; call = Lose v; at = at; reply = reply } in
    let there : v ≤ work_item_count older = within older v before.same fits.1 in
    ap (λ b. progress_by (cond b (Some e) (ending_entry older w)) (cond b (Some (length older + 1)) (ending_operation older w)) (with_counts (counts_of zero_step b) (metrics_of older w))) (ne_eqb v w (λ is. omega arith))
    ∙ before.later w lt
later-step older who at (Purge i) reply fits before w lt = before.later w lt

works-agree : (past : List Entry) → AllFit past → WorksAgree past
works-agree [] fits = record { same = refl; later = λ w lt. refl }
works-agree (e ∷ older) fits =
    let before : WorksAgree older = works-agree older fits.1 in
    record {
      same = works-step older e.who e.at e.call e.reply fits.0 before;
      later = λ w lt. later-step older e.who e.at e.call e.reply fits.0 before w (omega (arith, lt, more-works older e));
    }

-- the work items are those that the rows have
pub works-law : (past : List Entry) → AllFit past → work_items past ≡ works_of past
works-law past fits = (works-agree past fits).same
