-- Purges in every legal history: a job instance that is purged was begun, and each of its job executions is over, also those
-- that could come later, since there are none.
use Rattle.std.proofs.Common.{◌≡◌, ℕ, ◌+◌, ◌==◌, ◌&&◌, ◌||◌, ◌<◌, ◌≤◌, Bool, true, false, cond, not, Option, None, Some, is_some, Result, Ok, Err, List, [], ◌∷◌, ◌++◌, length, map, find, refl, sym, ◌∙◌, ap, subst, arith}
use Rattle.std.specs.List.{list_any}
use Rattle.std.specs.Option.{option_map}
use Rattle.std.proofs.lemmas.Bool.{eqb-true, eq-eqb}
use Rattle.std.proofs.lemmas.List.{length-append}
use Rattle.batch_ids.specs.Statuses.{is_unfinished}
use Rattle.batch_ids.specs.declared.status.BatchStatus.{BatchStatus}
use Rattle.batch_ids.specs.declared.status.BatchStatus.TheVariants.{Abandoned}
use Rattle.job_plans.proofs.Following.{find-map}
use Rattle.jsl_model.specs.Jobs.{JobTree}
use Rattle.batch_history.specs.NextRows.{instances_after}
use Rattle.batch_history.specs.declared.call.Call.{Call}
use Rattle.batch_history.specs.declared.call.Call.TheVariants.{Start, Restart, Stop, Abandon, Claim, Checkpoint, Finish, Lose, Purge}
use Rattle.batch_history.specs.declared.call.Entry.{Entry}
use Rattle.batch_history.specs.declared.call.Reply.{Reply}
use Rattle.batch_history.specs.declared.rows.ExecutionRow.{ExecutionRow}
use Rattle.batch_history.specs.declared.rows.JobInstance.{JobInstance}
use Rattle.batch_history.specs.declared.rows.WorkRow.{WorkRow}
use Rattle.batch_history.proofs.Bridge.{purge-there, purge-idle}
use Rattle.batch_history.proofs.Existing.{AreWhole, IsLeft, is_left, not-true, execution-left}
use Rattle.batch_history.proofs.Finding.{any-none}
use Rattle.batch_history.proofs.Finished.{finished-step, finished-status}
use Rattle.batch_history.proofs.Folds.{made, makes, is_made, remade, instances_of, works_of, abandoned_of, bare_of, folded_rows, execution_row}
use Rattle.batch_history.proofs.Items.{AreRows, handed-numbered, works-law}
use Rattle.batch_history.proofs.Kept.{IsHeld, kept}
use Rattle.batch_history.proofs.Leaving.{on-or-off, never, AreKeyed, found-itself}
use Rattle.batch_history.proofs.Owners.{AreBegun, begun}
use Rattle.batch_history.proofs.Plans.{due-all-fit}
use Rattle.batch_history.proofs.Singles.{Restarted, restarted-one, found-last, makes-number}
use Rattle.batch_history.proofs.Stepping.{AreNumbered, numbered, named-by}
use Rattle.batch_history.proofs.Told.{AllDue, AllDueThere, Due, DueThere, ToldRestart, restart-told, made-once, made-before}
use Rattle.batch_history.proofs.WorkLists.{each-map}
use Rattle.batch_history.specs.Executions.{Made}
use Rattle.batch_history.specs.Lists.{is_at, Each}
use Rattle.batch_history.specs.Operations.{abandonment, purged_by}
use Rattle.batch_history.specs.Purges.{is_purged}
use Rattle.batch_history.specs.Replies.{row_status, is_execution, is_instance_there, is_running_in}
use Rattle.batch_history.specs.Rows.{Rows, IsAsBefore, existing, executions_there}
use Rattle.batch_history.specs.Statuses.{is_finished}
use Rattle.batch_history.specs.Works.{Progress, with_progress_of, progress_of, items_handed_out, work_items}

-- ---- Job instances that are purged were begun

among-begun : (n k : ℕ) (is : List JobInstance) → AreBegun k is → list_any (λ (row : JobInstance). row.instance == n) is ≡ true → n < length is + k
among-begun n k [] h e = cc
among-begun n k (i ∷ is) h e =
    on-or-off (i.instance == n)
    (λ here. let same : i.instance ≡ n = eqb-true i.instance n here in omega (arith, h.0, same))
    (λ away. omega (arith, among-begun n (k + 1) is h.1 (sym (ap (λ b. b || list_any (λ (row : JobInstance). row.instance == n) is) away) ∙ e)))

more-instances : (n : ℕ) (call : Call) (is : List JobInstance) → length is ≤ length (instances_after n call is)
more-instances n (Start job parameters) is = omega (arith, length-append is (record { instance = n; job = job } ∷ []))
more-instances n (Restart y parameters) is = omega arith
more-instances n (Stop y) is = omega arith
more-instances n (Abandon y) is = omega arith
more-instances n Claim is = omega arith
more-instances n (Checkpoint w mark step) is = omega arith
more-instances n (Finish w o t step) is = omega arith
more-instances n (Lose w) is = omega arith
more-instances n (Purge i) is = omega arith

purge-begun : (limit : ℕ) (catalogue : List JobTree) (older : List Entry) (who at : ℕ) (call : Call) (reply : Reply) (i : ℕ)
    → Due limit catalogue older record { who = who; call = call; at = at; reply = reply } → is_at i (purged_by call) ≡ true → i ≤ length (instances_of older)
purge-begun limit catalogue older who at (Purge j) reply i due on =
    let there : is_instance_there j (folded_rows catalogue older) ≡ true =
    purge-there limit (length older) _ (list_any (is_running_in j) (folded_rows catalogue older).executions) reply due.0 in
    let same : j ≡ i = eqb-true j i on in
    omega (arith, among-begun j 1 (instances_of older) (begun older) there, same)
purge-begun limit catalogue older who at (Start job parameters) reply i due on = cc
purge-begun limit catalogue older who at (Restart y parameters) reply i due on = cc
purge-begun limit catalogue older who at (Stop y) reply i due on = cc
purge-begun limit catalogue older who at (Abandon y) reply i due on = cc
purge-begun limit catalogue older who at Claim reply i due on = cc
purge-begun limit catalogue older who at (Checkpoint w mark step) reply i due on = cc
purge-begun limit catalogue older who at (Finish w o t step) reply i due on = cc
purge-begun limit catalogue older who at (Lose w) reply i due on = cc

-- whether it was purged before
purged-before : (i : ℕ) (e : Entry) (older : List Entry) → is_at i (purged_by e.call) ≡ false → is_purged (e ∷ older) i ≡ true → is_purged older i ≡ true
purged-before i e older off h = sym (ap (λ b. b || is_purged older i) off) ∙ h

pub purged-begun : (limit : ℕ) (catalogue : List JobTree) (past : List Entry) (i : ℕ) → AllDue limit catalogue past → is_purged past i ≡ true
    → i ≤ length (instances_of past)
purged-begun limit catalogue [] i due h = cc
purged-begun limit catalogue (e ∷ older) i due h =
    let more : length (instances_of older) ≤ length (instances_of (e ∷ older)) = more-instances _ e.call (instances_of older) in
    on-or-off (is_at i (purged_by e.call))
    (λ on. omega (arith, more, purge-begun limit catalogue older e.who e.at e.call e.reply i due.0 on))
    (λ off. omega (arith, more, purged-begun limit catalogue older i due.1 (purged-before i e older off h)))

-- the next job instance is not purged
next-unpurged : (limit : ℕ) (catalogue : List JobTree) (past : List Entry) → AllDue limit catalogue past → is_purged past (length (instances_of past) + 1) ≡ false
next-unpurged limit catalogue past due =
    on-or-off (is_purged past (length (instances_of past) + 1))
    (λ on. absurd (omega (arith, purged-begun limit catalogue past (length (instances_of past) + 1) due on)))
    (λ off. off)

-- ---- Job executions of job instances that are purged are over

-- whether each of them is
abbrev pub PurgedOver : List JobTree → List Entry → Type 0
PurgedOver catalogue past = (m : Made) → find (is_made m.execution) (made past) ≡ Some m → is_purged past m.instance ≡ true
    → is_finished (row_status (execution_row catalogue past m)) ≡ true

-- who is over stays so
status-stays : (limit : ℕ) (catalogue : List JobTree) (past : List Entry) (e : Entry) (m : Made) → AllDue limit catalogue (e ∷ past)
    → find (is_made m.execution) (made past) ≡ Some m → is_finished (row_status (execution_row catalogue past m)) ≡ true
    → is_finished (row_status (execution_row catalogue (e ∷ past) m)) ≡ true
status-stays limit catalogue past e m due found over =
    let x : ℕ = m.execution in
    on-or-off (abandoned_of past x)
    (λ on.
    let still : abandoned_of (e ∷ past) x ≡ true =
    named-by abandonment past e x (made-once past x m e.call found) ∙ ap (λ b. b || is_at x (abandonment e.call)) on in
    ap (λ b. is_finished (cond b Abandoned (bare_of catalogue (e ∷ past) m))) still)
    (λ off.
    let bare : is_finished (bare_of catalogue past m) ≡ true = sym (ap (λ b. is_finished (cond b Abandoned (bare_of catalogue past m))) off) ∙ over in
    let same : IsAsBefore (execution_row catalogue past m) (execution_row catalogue (e ∷ past) m) = finished-step limit catalogue past e m due found bare in
    finished-status (abandoned_of (e ∷ past) x) (bare_of catalogue (e ∷ past) m) (ap (λ (row : ExecutionRow). is_finished row.bare) same ∙ bare))

-- a purge that is accepted finds them over
idle-over : (status : BatchStatus) → is_unfinished status ≡ false → is_finished status ≡ true
idle-over status h = ap (λ b. cond b false true) h

purged-idle : (limit : ℕ) (catalogue : List JobTree) (older : List Entry) (who at : ℕ) (call : Call) (reply : Reply) (m : Made)
    → Due limit catalogue older record { who = who; call = call; at = at; reply = reply } → find (is_made m.execution) (made older) ≡ Some m
    → is_at m.instance (purged_by call) ≡ true → is_finished (row_status (execution_row catalogue older m)) ≡ true
purged-idle limit catalogue older who at (Purge i) reply m due found on =
    let r : Rows = folded_rows catalogue older in
    let row : ExecutionRow = execution_row catalogue older m in
    let idle : list_any (is_running_in i) r.executions ≡ false = purge-idle limit (length older) (is_instance_there i r) (list_any (is_running_in i) r.executions) reply due.0 in
    let shown : find (is_execution m.execution) r.executions ≡ Some row =
    find-map (execution_row catalogue older) (is_execution m.execution) (is_made m.execution) (λ k. refl) (made older)
    ∙ ap (λ (o : Option Made). option_map (execution_row catalogue older) o) found in
    let none : is_running_in i row ≡ false = any-none (is_running_in i) (is_execution m.execution) r.executions row idle shown in
    let here : (m.instance == i) ≡ true = eq-eqb m.instance i (sym (eqb-true i m.instance on)) in
    idle-over (row_status row) (sym (ap (λ b. b && is_unfinished (row_status row)) here) ∙ none)
purged-idle limit catalogue older who at (Start job parameters) reply m due found on = cc
purged-idle limit catalogue older who at (Restart y parameters) reply m due found on = cc
purged-idle limit catalogue older who at (Stop y) reply m due found on = cc
purged-idle limit catalogue older who at (Abandon y) reply m due found on = cc
purged-idle limit catalogue older who at Claim reply m due found on = cc
purged-idle limit catalogue older who at (Checkpoint w mark step) reply m due found on = cc
purged-idle limit catalogue older who at (Finish w o t step) reply m due found on = cc
purged-idle limit catalogue older who at (Lose w) reply m due found on = cc

-- ---- The rows of all that was made

keyed-made : (f : Made → ExecutionRow) (k : ℕ) (ms : List Made) → ((m : Made) → (f m).execution ≡ m.execution) → AreNumbered k ms
    → AreKeyed (λ (row : ExecutionRow). row.execution) k (map f ms)
keyed-made f k [] named h = tt
keyed-made f k (m ∷ ms) named h = (named m ∙ h.0, keyed-made f (k + 1) ms named h.1)

keyed-numbers : (k : ℕ) (ms : List Made) → AreNumbered k ms → AreKeyed (λ (m : Made). m.execution) k ms
keyed-numbers k [] h = tt
keyed-numbers k (m ∷ ms) h = (h.0, keyed-numbers (k + 1) ms h.1)

keyed-works : (progress : ℕ → Progress) (k : ℕ) (rows : List WorkRow) → AreRows k rows → AreKeyed (λ (row : WorkRow). row.work) k (map (with_progress_of progress) rows)
keyed-works progress k [] h = tt
keyed-works progress k (row ∷ rows) h = (h.0, keyed-works progress (k + 1) rows h.1)

each-mapped : {X Y : Type 0} (P : X → Type 0) (Q : Y → Type 0) (f : X → Y) (xs : List X) → ((x : X) → P x → Q (f x)) → Each P xs → Each Q (map f xs)
each-mapped P Q f [] h all = tt
each-mapped P Q f (x ∷ xs) h all = (h x all.0, each-mapped P Q f xs h all.1)

whole-of : (limit : ℕ) (catalogue : List JobTree) (past : List Entry) → AllDue limit catalogue past → PurgedOver catalogue past
    → AreWhole (is_purged past) (folded_rows catalogue past)
whole-of limit catalogue past due over =
    record {
      executions = keyed-made (execution_row catalogue past) 1 (made past) (λ m. refl) (numbered past);
      works = subst (AreKeyed (λ (row : WorkRow). row.work) 1) (works-law past (due-all-fit limit catalogue past due))
          (keyed-works (progress_of past) 1 (items_handed_out past) (handed-numbered past));
      over = each-mapped (λ (m : Made). find (is_made m.execution) (made past) ≡ Some m)
          (λ (row : ExecutionRow). is_purged past row.instance ≡ true → is_finished (row_status row) ≡ true) (execution_row catalogue past) (made past)
          (λ m found gone. over m found gone) (found-itself (λ (m : Made). m.execution) 1 (made past) (keyed-numbers 1 (made past) (numbered past)));
      begun = next-unpurged limit catalogue past due;
      owned = each-map (IsHeld catalogue past) (λ (row : WorkRow). is_some (find (is_execution row.execution) (folded_rows catalogue past).executions) ≡ true) (works_of past)
          (λ row held.
          ap is_some (find-map (execution_row catalogue past) (is_execution row.execution) (is_made row.execution) (λ k. refl) (made past))
          ∙ ap (λ (o : Option Made). is_some (option_map (execution_row catalogue past) o)) held.found)
          (kept limit catalogue past due).held;
    }

-- ---- Every legal history

-- one that an operation makes is of a job instance that is not purged
new-unpurged : (limit : ℕ) (catalogue : List JobTree) (older : List Entry) (who at : ℕ) (call : Call) (reply : Reply) (m : Made)
    → AllDue limit catalogue (record { who = who; call = call; at = at; reply = reply } ∷ older)
    → DueThere limit catalogue older record { who = who; call = call; at = at; reply = reply }
    → PurgedOver catalogue older
    → find (is_made m.execution) (made (record { who = who; call = call; at = at; reply = reply } ∷ older)) ≡ Some m
    → makes (length (made older)) m.execution call ≡ true → is_purged (record { who = who; call = call; at = at; reply = reply } ∷ older) m.instance ≡ false
new-unpurged limit catalogue older who at (Start job parameters) reply m due there over found new =
    let number : length (made older) + 1 ≡ m.execution = eqb-true (length (made older) + 1) m.execution new in
    let is = found-last m.execution (made older) _ m (numbered older) (omega (arith, number)) found in
    let instance : length (instances_of older) + 1 ≡ m.instance = ap (λ (k : Made). k.instance) is in
    ap (is_purged older) (sym instance) ∙ next-unpurged limit catalogue older due.1
new-unpurged limit catalogue older who at (Restart y parameters) reply m due there over found new =
    let r : Rows = folded_rows catalogue older in
    let all : Restarted catalogue older y = restarted-one limit catalogue older y reply (restart-told limit r y reply due.0.0) in
    let number : length (made older) + 1 ≡ m.execution = eqb-true (length (made older) + 1) m.execution new in
    let is = found-last m.execution (made older) _ m (numbered older) (omega (arith, number)) found in
    let named : find (is_made y) (made older) ≡ Some all.one = subst (λ x. find (is_made x) (made older) ≡ Some all.one) all.number all.found in
    let instance : all.one.instance ≡ m.instance =
    sym (ap (λ (o : Option Made). (remade (length (made older) + 1) parameters at o).instance) named) ∙ ap (λ (k : Made). k.instance) is in
    let told : ToldRestart (existing (is_purged older) r) y = restart-told limit (existing (is_purged older) r) y reply there in
    let left : IsLeft (is_left (is_purged older)) (find (is_execution y) r.executions) told.row =
    execution-left (is_purged older) r y told.row (whole-of limit catalogue older due.1 over) told.found in
    let shown : find (is_execution y) r.executions ≡ Some (execution_row catalogue older all.one) =
    find-map (execution_row catalogue older) (is_execution y) (is_made y) (λ k. refl) (made older)
    ∙ ap (λ (o : Option Made). option_map (execution_row catalogue older) o) named in
    let row : told.row ≡ execution_row catalogue older all.one = let both : Some told.row ≡ Some (execution_row catalogue older all.one) = sym left.found ∙ shown in cc in
    ap (is_purged older) (sym instance) ∙ (sym (ap (λ (z : ExecutionRow). is_purged older z.instance) row) ∙ not-true _ left.left)
new-unpurged limit catalogue older who at (Stop y) reply m due there over found new = cc
new-unpurged limit catalogue older who at (Abandon y) reply m due there over found new = cc
new-unpurged limit catalogue older who at Claim reply m due there over found new = cc
new-unpurged limit catalogue older who at (Checkpoint w mark step) reply m due there over found new = cc
new-unpurged limit catalogue older who at (Finish w o t step) reply m due there over found new = cc
new-unpurged limit catalogue older who at (Lose w) reply m due there over found new = cc
new-unpurged limit catalogue older who at (Purge i) reply m due there over found new = cc

pub purged-over : (limit : ℕ) (catalogue : List JobTree) (past : List Entry) → AllDue limit catalogue past → AllDueThere limit catalogue past → PurgedOver catalogue past
purged-over limit catalogue [] due there m found gone = cc
purged-over limit catalogue (e ∷ older) due there m found gone =
    let before : PurgedOver catalogue older = purged-over limit catalogue older due.1 there.1 in
    on-or-off (makes (length (made older)) m.execution e.call)
    (λ new. never (is_purged (e ∷ older) m.instance) gone (new-unpurged limit catalogue older e.who e.at e.call e.reply m due there.0 before found new))
    (λ old.
    let was : find (is_made m.execution) (made older) ≡ Some m = made-before older e m.execution m old found in
    status-stays limit catalogue older e m due was
    (on-or-off (is_at m.instance (purged_by e.call))
    (λ on. purged-idle limit catalogue older e.who e.at e.call e.reply m due.0 was on)
    (λ off. before m was (purged-before m.instance e older off gone))))

-- the rows of all that was made, and what was purged
pub all-whole : (limit : ℕ) (catalogue : List JobTree) (past : List Entry) → AllDue limit catalogue past → AllDueThere limit catalogue past
    → AreWhole (is_purged past) (folded_rows catalogue past)
all-whole limit catalogue past due there = whole-of limit catalogue past due (purged-over limit catalogue past due there)
