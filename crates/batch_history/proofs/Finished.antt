-- A job execution that is over: no operation changes it, but for its abandonment.
use mathlib.Core.Bool.{or-false}
use Rattle.std.proofs.Common.{◌≡◌, ◌≢◌, ℕ, ◌+◌, ◌==◌, ◌||◌, Bool, true, false, cond, Option, None, Some, is_some, List, [], ◌∷◌, ◌++◌, length, find, refl, sym, ◌∙◌, ap, subst}
use Rattle.std.specs.Option.{option_map}
use Rattle.std.proofs.lemmas.Bool.{eqb-true}
use Rattle.batch_ids.specs.declared.status.BatchStatus.{BatchStatus}
use Rattle.batch_ids.specs.declared.status.BatchStatus.TheVariants.{Starting, Started, Stopping, Stopped, Failed, Completed, Abandoned}
use Rattle.jsl_model.specs.Jobs.{JobTree}
use Rattle.walk_rules.specs.declared.facts.Value.{Value}
use Rattle.walk_rules.specs.declared.facts.Value.TheVariants.{Open, Done as IsDone, Ended}
use Rattle.batch_history.specs.declared.call.Call.{Call}
use Rattle.batch_history.specs.declared.call.Call.TheVariants.{Start, Restart, Stop, Abandon, Claim, Checkpoint, Finish, Lose, Purge}
use Rattle.batch_history.specs.declared.call.Reply.{Reply}
use Rattle.batch_history.specs.declared.call.Entry.{Entry}
use Rattle.batch_history.specs.declared.rows.ExecutionRow.{ExecutionRow}
use Rattle.batch_history.specs.declared.rows.WorkRow.{WorkRow}
use Rattle.batch_history.proofs.Folds.{made, makes, is_made, works_of, start_of, stop_of, abandoned_of, updated_of, end_of, value_after, plan_kept, bare_of, folded_rows, execution_row}
use Rattle.batch_history.specs.Executions.{Made}
use Rattle.batch_history.specs.Lists.{is_at}
use Rattle.batch_history.specs.Moments.{first_moment}
use Rattle.batch_history.specs.Operations.{taken_up, taken_up_by, stop_request}
use Rattle.batch_history.specs.Replies.{row_status, first_ready, walk_in_rows, has_something_by, has_something, claim_reply}
use Rattle.batch_history.specs.Rows.{Rows, IsAsBefore}
use Rattle.batch_history.specs.Statuses.{batch_status, is_finished}
use Rattle.batch_history.specs.Walks.{facts_by_work, job_named, walk_of, known_elements}
use Rattle.batch_history.proofs.Knowing.{facts-same}
use Rattle.walk_rules.specs.declared.work_key.WorkKey.{WorkKey}
use Rattle.batch_history.specs.Works.{work_key, is_work, execution_of_operation, execution_of_work}
use Rattle.batch_history.proofs.Stepping.{known-same, begun-by, named-by, ended-by, same_row, same_status, settled, earliest-false, taken-touched, asked-touched, planned-by}
use Rattle.batch_history.proofs.Sights.{busy_sight, seen}
use Rattle.batch_history.proofs.Finding.{found-passes}
use Rattle.batch_history.proofs.WorkLists.{each-found}
use Rattle.batch_history.proofs.Told.{Due, AllDue, IsRowOf, row-of, row-made, made-once, made-more, ToldClaim, claim-told, ToldReport, checkpoint-told, finish-told, loss-told, ToldStop, stop-told}
use Rattle.batch_history.proofs.Kept.{IsHeld, IsKept, kept}

-- ---- An operation that asks it for nothing

-- the row as it was, where the operation neither asks it to stop, nor takes it up, nor is known by its walk
row-kept : (catalogue : List JobTree) (past : List Entry) (e : Entry) (m : Made) → makes (length (made past)) m.execution e.call ≡ false
    → is_at m.execution (stop_request e.call) ≡ false → is_at m.execution (taken_up e.call e.reply) ≡ false
    → known_elements m.execution (works_of (e ∷ past)) ≡ known_elements m.execution (works_of past)
    → IsAsBefore (execution_row catalogue past m) (execution_row catalogue (e ∷ past) m)
row-kept catalogue past e m made_no not_asked not_taken known =
    let x : ℕ = m.execution in
    let p : stop_of (e ∷ past) x ≡ stop_of past x =
    named-by stop_request past e x made_no ∙ (ap (λ b. stop_of past x || b) not_asked ∙ or-false (stop_of past x)) in
    let s : start_of (e ∷ past) x ≡ start_of past x =
    begun-by past e x made_no ∙ (ap (λ b. first_moment (start_of past x) b e.at) not_taken ∙ earliest-false (start_of past x) e.at) in
    let k : plan_kept catalogue (e ∷ past) x ≡ plan_kept catalogue past x = planned-by catalogue past e x made_no in
    let v : value_after catalogue (e ∷ past) m ≡ value_after catalogue past m =
    ap (λ p. walk_of p (facts_by_work x (works_of (e ∷ past))) (job_named catalogue m.job)) k
    ∙ ap (λ f. walk_of (plan_kept catalogue past x) f (job_named catalogue m.job)) (facts-same x _ _ known) in
    let n : end_of catalogue (e ∷ past) m ≡ end_of catalogue past m =
    ended-by catalogue past e m made_no
    ∙ (ap (λ b. first_moment (end_of catalogue past m) (is_finished b) e.at) (same_status _ _ _ _ _ _ p s v) ∙ settled catalogue past m e.at) in
    same_row m _ _ _ _ (abandoned_of (e ∷ past) x) _ _ _ _ _ _ _ (updated_of (e ∷ past) x) _ k p refl s v n refl

-- ---- An operation that is on it

-- a walk that shows something busy, of a job execution that was taken up, is not over
pub busy-unfinished : (key : WorkKey) (stop : Bool) (start : Option ℕ) (v : Value) → seen busy_sight key v ≡ true → is_some start ≡ true → is_finished (batch_status stop start v) ≡ false
busy-unfinished key stop None v shown begun = cc
busy-unfinished key false (Some t) (Open ready busy) shown begun = refl
busy-unfinished key true (Some t) (Open ready []) shown begun = cc
busy-unfinished key true (Some t) (Open ready (b ∷ bs)) shown begun = refl
busy-unfinished key stop (Some t) (IsDone exit) shown begun = cc
busy-unfinished key stop (Some t) (Ended status exit point) shown begun = cc

-- the job execution of a busy work item is not over
pub owner-unfinished : (catalogue : List JobTree) (past : List Entry) (w : ℕ) (m : Made) → IsKept catalogue past → ToldReport (works_of past) w
    → find (is_made m.execution) (made past) ≡ Some m → is_at m.execution (execution_of_work (works_of past) w) ≡ true → is_finished (bare_of catalogue past m) ≡ false
owner-unfinished catalogue past w m k told found on =
    let c : WorkRow = told.row in
    let held : IsHeld catalogue past c = each-found (IsHeld catalogue past) (is_work w) (works_of past) c k.held told.found in
    let here : (c.execution == m.execution) ≡ true = sym (ap (λ (o : Option WorkRow). is_at m.execution (option_map (λ (row : WorkRow). row.execution) o)) told.found) ∙ on in
    let same : c.execution ≡ m.execution = eqb-true c.execution m.execution here in
    let one : held.one ≡ m = let both : Some held.one ≡ Some m = sym held.found ∙ (ap (λ x. find (is_made x) (made past)) same ∙ found) in cc in
    let shown : seen busy_sight (work_key c) (value_after catalogue past m) ≡ true = subst (λ n. seen busy_sight (work_key c) (value_after catalogue past n) ≡ true) one (held.under_way told.busy) in
    let begun : is_some (start_of past m.execution) ≡ true = subst (λ x. is_some (start_of past x) ≡ true) same held.begun in
    busy-unfinished (work_key c) (stop_of past m.execution) (start_of past m.execution) (value_after catalogue past m) shown begun

-- a job execution with something to do is not over
has-unfinished : (abandoned : Bool) (bare : BatchStatus) (v : Value) → has_something_by (cond abandoned Abandoned bare) v ≡ true → is_finished bare ≡ false
has-unfinished true bare v h = cc
has-unfinished false Starting v h = refl
has-unfinished false Started v h = refl
has-unfinished false Stopping v h = cc
has-unfinished false Stopped v h = cc
has-unfinished false Failed v h = cc
has-unfinished false Completed v h = cc
has-unfinished false Abandoned v h = cc

pub claimed-execution : (r : Rows) (row : ExecutionRow) (ready : Option WorkKey) → taken_up_by (claim_reply r row ready) ≡ Some row.execution
claimed-execution r row None = refl
claimed-execution r row (Some key) = refl

-- the job execution of a claim is not over
pub claim-unfinished : (catalogue : List JobTree) (past : List Entry) (m : Made) (reply : Reply) → ToldClaim (folded_rows catalogue past) reply
    → find (is_made m.execution) (made past) ≡ Some m → is_at m.execution (taken_up_by reply) ≡ true → is_finished (bare_of catalogue past m) ≡ false
claim-unfinished catalogue past m reply told found on =
    let r : Rows = folded_rows catalogue past in
    let from : IsRowOf catalogue past told.row = row-of catalogue past (has_something r) told.row told.found in
    let n : Made = from.one in
    let whom : taken_up_by reply ≡ Some n.execution =
    ap taken_up_by told.answered ∙ (claimed-execution r told.row (first_ready (walk_in_rows r told.row)) ∙ ap (λ (row : ExecutionRow). Some row.execution) from.is_row) in
    let here : (n.execution == m.execution) ≡ true = sym (ap (is_at m.execution) whom) ∙ on in
    let same : n.execution ≡ m.execution = eqb-true n.execution m.execution here in
    let one : n ≡ m = let both : Some n ≡ Some m = sym from.found ∙ (ap (λ x. find (is_made x) (made past)) same ∙ found) in cc in
    let has : has_something r (execution_row catalogue past n) ≡ true = subst (λ row. has_something r row ≡ true) from.is_row (found-passes (has_something r) r.executions told.row told.found) in
    subst (λ k. is_finished (bare_of catalogue past k) ≡ false) one
    (has-unfinished (abandoned_of past n.execution) (bare_of catalogue past n) (value_after catalogue past n) has)

pub finished-status : (abandoned : Bool) (bare : BatchStatus) → is_finished bare ≡ true → is_finished (cond abandoned Abandoned bare) ≡ true
finished-status true bare h = refl
finished-status false bare h = h

-- a job execution that is stopped is not over
stop-unfinished : (catalogue : List JobTree) (past : List Entry) (m : Made) (y : ℕ) → ToldStop (folded_rows catalogue past) y
    → find (is_made m.execution) (made past) ≡ Some m → (y == m.execution) ≡ true → is_finished (bare_of catalogue past m) ≢ true
stop-unfinished catalogue past m y told found on over =
    let is : told.row ≡ execution_row catalogue past m = row-made catalogue past m y told.row told.found found on in
    let unfinished : is_finished (row_status (execution_row catalogue past m)) ≡ false = subst (λ row. is_finished (row_status row) ≡ false) is told.unfinished in
    let closed : is_finished (row_status (execution_row catalogue past m)) ≡ true = finished-status (abandoned_of past m.execution) (bare_of catalogue past m) over in
    let no : true ≡ false = sym closed ∙ unfinished in cc

-- ---- Every operation leaves it as it was

-- an operation that is not on it
away : (catalogue : List JobTree) (past : List Entry) (e : Entry) (m : Made) → makes (length (made past)) m.execution e.call ≡ false
    → is_at m.execution (execution_of_operation (works_of past) e.call e.reply) ≡ false → IsAsBefore (execution_row catalogue past m) (execution_row catalogue (e ∷ past) m)
away catalogue past e m made_no off =
    row-kept catalogue past e m made_no (asked-touched m.execution e.call e.reply (works_of past) off) (taken-touched m.execution e.call e.reply (works_of past) off)
    (known-same m.execution (length past + 1) e.who e.at e.call e.reply (works_of past) off)

abbrev entry : ℕ → ℕ → Call → Reply → Entry
entry who at call reply = record { who = who; call = call; at = at; reply = reply }

-- nobody is over and not over
not-both : (status : BatchStatus) → is_finished status ≡ true → is_finished status ≡ false → ⊥
not-both status over unfinished = let bad : true ≡ false = sym over ∙ unfinished in cc

is-other : (x y : ℕ) → (y == x) ≡ false → is_at x (Some y) ≡ false
is-other x y off = off

-- an operation that is on it or not
pub on-it : {P : Type 0} (b : Bool) → (b ≡ true → P) → (b ≡ false → P) → P
on-it true on off = on refl
on-it false on off = off refl

finished-call : (limit : ℕ) (catalogue : List JobTree) (past : List Entry) (who at : ℕ) (call : Call) (reply : Reply) (m : Made)
    → Due limit catalogue past (entry who at call reply) → IsKept catalogue past
    → find (is_made m.execution) (made past) ≡ Some m → is_finished (bare_of catalogue past m) ≡ true
    → IsAsBefore (execution_row catalogue past m) (execution_row catalogue ((entry who at call reply) ∷ past) m)
finished-call limit catalogue past who at (Start job parameters) reply m due k found over =
    away catalogue past (entry who at (Start job parameters) reply) m (made-once past m.execution m (Start job parameters) found) refl
finished-call limit catalogue past who at (Restart y parameters) reply m due k found over =
    away catalogue past (entry who at (Restart y parameters) reply) m (made-once past m.execution m (Restart y parameters) found) refl
finished-call limit catalogue past who at (Stop y) reply m due k found over =
    on-it (y == m.execution)
    (λ on. absurd (stop-unfinished catalogue past m y (stop-told limit (folded_rows catalogue past) y reply due.0) found on over))
    (λ off. away catalogue past (entry who at (Stop y) reply) m refl (is-other m.execution y off))
finished-call limit catalogue past who at (Abandon y) reply m due k found over = row-kept catalogue past (entry who at (Abandon y) reply) m refl refl refl refl
finished-call limit catalogue past who at Claim reply m due k found over =
    on-it (is_at m.execution (taken_up_by reply))
    (λ on. absurd (not-both (bare_of catalogue past m) over (claim-unfinished catalogue past m reply (claim-told limit (folded_rows catalogue past) reply due.0 due.1) found on)))
    (λ off. away catalogue past (entry who at Claim reply) m refl off)
finished-call limit catalogue past who at (Checkpoint w mark step) reply m due k found over =
    on-it (is_at m.execution (execution_of_work (works_of past) w))
    (λ on. absurd (not-both (bare_of catalogue past m) over (owner-unfinished catalogue past w m k (checkpoint-told limit (folded_rows catalogue past) who w reply due.0) found on)))
    (λ off. away catalogue past (entry who at (Checkpoint w mark step) reply) m refl off)
finished-call limit catalogue past who at (Finish w o t step) reply m due k found over =
    on-it (is_at m.execution (execution_of_work (works_of past) w))
    (λ on. absurd (not-both (bare_of catalogue past m) over (owner-unfinished catalogue past w m k (finish-told limit (folded_rows catalogue past) who w o reply due.0) found on)))
    (λ off. away catalogue past (entry who at (Finish w o t step) reply) m refl off)
finished-call limit catalogue past who at (Lose w) reply m due k found over =
    on-it (is_at m.execution (execution_of_work (works_of past) w))
    (λ on. absurd (not-both (bare_of catalogue past m) over (owner-unfinished catalogue past w m k (loss-told limit (length past) (works_of past) w reply due.0) found on)))
    (λ off. away catalogue past (entry who at (Lose w) reply) m refl off)
finished-call limit catalogue past who at (Purge i) reply m due k found over = row-kept catalogue past (entry who at (Purge i) reply) m refl refl refl refl

-- after one operation more
pub finished-step : (limit : ℕ) (catalogue : List JobTree) (past : List Entry) (e : Entry) (m : Made) → AllDue limit catalogue (e ∷ past)
    → find (is_made m.execution) (made past) ≡ Some m → is_finished (bare_of catalogue past m) ≡ true
    → IsAsBefore (execution_row catalogue past m) (execution_row catalogue (e ∷ past) m)
finished-step limit catalogue past e m due found over =
    finished-call limit catalogue past e.who e.at e.call e.reply m due.0 (kept limit catalogue past due.1) found over

as-twice : (one two three : ExecutionRow) → IsAsBefore one two → IsAsBefore two three → IsAsBefore one three
as-twice one two three first second = second ∙ ap (λ (row : ExecutionRow). record row { abandoned = three.abandoned; updated = three.updated }) first

pub made-after : (more past : List Entry) (x : ℕ) (m : Made) → find (is_made x) (made past) ≡ Some m → find (is_made x) (made (more ++ past)) ≡ Some m
made-after [] past x m found = found
made-after (e ∷ more) past x m found = made-more (more ++ past) e x m (made-after more past x m found)

-- and after any operations more
pub finished-stays : (limit : ℕ) (catalogue : List JobTree) (more past : List Entry) (m : Made) → AllDue limit catalogue (more ++ past)
    → find (is_made m.execution) (made past) ≡ Some m → is_finished (bare_of catalogue past m) ≡ true
    → IsAsBefore (execution_row catalogue past m) (execution_row catalogue (more ++ past) m)
finished-stays limit catalogue [] past m due found over = refl
finished-stays limit catalogue (e ∷ more) past m due found over =
    let before = finished-stays limit catalogue more past m due.1 found over in
    let still : is_finished (bare_of catalogue (more ++ past) m) ≡ true = ap (λ (row : ExecutionRow). is_finished row.bare) before ∙ over in
    as-twice (execution_row catalogue past m) (execution_row catalogue (more ++ past) m) (execution_row catalogue (e ∷ (more ++ past)) m) before (finished-step limit catalogue (more ++ past) e m due (made-after more past m.execution m found) still)
