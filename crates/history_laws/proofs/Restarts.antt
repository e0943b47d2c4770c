-- Restarts: each follows the most recent job execution of its job instance, and what it gives a job execution stays.
use mathlib.Core.Path.{fun_ext}
use Rattle.std.proofs.Common.{◌≡◌, ℕ, ◌+◌, ◌==◌, ◌&&◌, ◌<◌, ◌≤◌, nat_lt, Bool, true, false, cond, Option, None, Some, is_some, Ok, List, [], ◌∷◌, ◌++◌, length, filter, find, reverse, refl, sym, ◌∙◌, ap, subst, arith}
use Rattle.std.specs.Option.{option_map, option_or}
use Rattle.std.proofs.lemmas.List.{append_assoc, reverse-append}
use Rattle.std.proofs.lemmas.Bool.{eq-eqb, ltb-false}
use Rattle.batch_ids.specs.Statuses.{is_unfinished}
use Rattle.batch_ids.specs.declared.status.BatchStatus.{BatchStatus}
use Rattle.batch_ids.specs.declared.status.BatchStatus.TheVariants.{Starting, Started, Stopping, Stopped, Failed, Completed, Abandoned}
use Rattle.jsl_model.specs.Jobs.{JobTree}
use Rattle.job_plans.proofs.Following.{find-map}
use Rattle.batch_history.specs.declared.call.Call.TheVariants.{Restart}
use Rattle.batch_history.specs.declared.call.Entry.{Entry}
use Rattle.batch_history.proofs.Folds.{made, is_made, abandoned_of, bare_of, folded_rows, execution_row, plan_kept}
use Rattle.batch_history.specs.Executions.{Made, Origin, origin_of}
use Rattle.batch_history.specs.Legal.{grown, IsLegal}
use Rattle.batch_history.specs.Replies.{row_status, is_execution, reply, reply_by, is_later_than, accepted, unless, reply_to_restart, restart_refusal, restart_plan}
use Rattle.batch_history.specs.Rows.{History, Rows, row_of_origin}
use Rattle.batch_history.specs.Statuses.{is_finished}
use Rattle.batch_history.specs.Lists.{is_at}
use Rattle.batch_history.specs.Restarts.{plan_by, restart_point}
use Rattle.batch_history.specs.Walks.{job_named}
use Rattle.batch_history.specs.declared.rows.WorkRow.{WorkRow}
use Rattle.batch_history.specs.declared.rows.ExecutionRow.{ExecutionRow}
use Rattle.history_laws.specs.Laws.{beginning, row_in, works_in, walk_in, plan_again_in, MayGoOn, RestartsFollow, HasOneUnfinishedEach, FollowsFrom, KeepsPlan}
use Rattle.batch_history.proofs.Finding.{any-none}
use Rattle.batch_history.proofs.Legality.{past-due, all_rows_folded, all_rows_grown, execution_found, instance_found}
use Rattle.batch_history.proofs.Finished.{finished-status, made-after}
use Rattle.batch_ids.specs.Parameters.{Pair}
use Rattle.batch_history.proofs.Singles.{earlier-over}
use Rattle.batch_history.proofs.Stepping.{planned-by, numbered}
use Rattle.batch_history.proofs.Told.{made-once, ToldRestart, restart-told}
use Rattle.std.proofs.lemmas.List.Folds.{find-append}
use Rattle.batch_ids.specs.declared.refusal.Refusal.{Refusal}
use Rattle.batch_history.specs.declared.call.Reply.{Reply}
use Rattle.batch_history.specs.declared.call.Reply.TheVariants.{Execution as IsExecution}
use Rattle.batch_history.proofs.Legal.{entered-is, legal-beginning}
use Rattle.batch_history.proofs.Origins.{find-past}
use Rattle.batch_history.specs.NextRows.{works_after, fresh_row, again_row, executions_after}
use Rattle.history_laws.proofs.Beginnings.{all_of, answered-by-all, row-folded, row-there, IsRowAt, row-at}

-- ---- The job execution that a restart names

row-numbered : (catalogue : List JobTree) (past : List Entry) (x : ℕ) (row : ExecutionRow) (o : Option Origin)
    → option_map (row_of_origin catalogue past x) o ≡ Some row → row.execution ≡ x
row-numbered catalogue past x row None e = cc
row-numbered catalogue past x row (Some o) e =
    let is : row_of_origin catalogue past x o ≡ row = cc in
    sym (ap (λ (r : ExecutionRow). r.execution) is)

row-number : (h : History) (x : ℕ) (row : ExecutionRow) → row_in h x ≡ Some row → row.execution ≡ x
row-number h x row found = row-numbered h.catalogue (reverse h.log) x row (origin_of (reverse h.log) x) found

not-later : (a b : ℕ) (same : Bool) → same ≡ true → (same && nat_lt a b) ≡ false → b ≤ a
not-later a b true is h = ltb-false a b h
not-later a b false is h = cc

may-go-on : (limit : ℕ) (h : History) → IsLegal limit h → (y : ℕ) → ToldRestart (all_of h) y → MayGoOn h y
may-go-on limit h legal y told =
    let there : row_in h y ≡ Some told.row = sym (execution_found limit h legal y) ∙ told.found in
    record {
      row = told.row;
      found = there;
      latest = λ x other found same.
          let none : is_later_than told.row other ≡ false = any-none (is_later_than told.row) (is_execution x) (all_of h).executions other told.newest (execution_found limit h legal x ∙ found) in
          let le : other.execution ≤ told.row.execution = not-later told.row.execution other.execution (other.instance == told.row.instance) (eq-eqb other.instance told.row.instance same) none in
          omega (arith, le, row-number h x other found, row-number h y told.row there);
      over = told.over;
    }

pub restart_follows : (limit : ℕ) (h : History) → IsLegal limit h → RestartsFollow h
restart_follows limit h legal before e after cut y parameters is =
    let due = legal.due before e after cut in
    let there : reply limit (beginning h before) e.who (Restart y parameters) ≡ Ok e.reply = sym (ap (reply limit (beginning h before) e.who) is) ∙ due.0 in
    may-go-on limit (beginning h before) (legal-beginning limit h legal before (e ∷ after) cut) y (restart-told limit (all_of (beginning h before)) y e.reply
    (answered-by-all limit (beginning h before) (legal-beginning limit h legal before (e ∷ after) cut) e.who (Restart y parameters) e.reply there))

-- ---- Unfinished job executions

over-both : (status : BatchStatus) → is_finished status ≡ true → is_unfinished status ≡ true → ⊥
over-both Starting h k = cc
over-both Started h k = cc
over-both Stopping h k = cc
over-both Stopped h k = cc
over-both Failed h k = cc
over-both Completed h k = cc
over-both Abandoned h k = cc

-- an earlier job execution of a job instance is not unfinished
not-earlier : (limit : ℕ) (h : History) → IsLegal limit h → (x y : ℕ) (one other : ExecutionRow) → row_in h x ≡ Some one → row_in h y ≡ Some other
    → one.instance ≡ other.instance → is_unfinished (row_status one) ≡ true → x < y → ⊥
not-earlier limit h legal x y one other found_one found_other same unfinished lt =
    let past : List Entry = reverse h.log in
    let first : IsRowAt h.catalogue past x one = row-at h.catalogue past x one (sym (row-folded limit h legal x) ∙ found_one) in
    let second : IsRowAt h.catalogue past y other = row-at h.catalogue past y other (sym (row-folded limit h legal y) ∙ found_other) in
    let instance : first.one.instance ≡ second.one.instance =
    sym (ap (λ (r : ExecutionRow). r.instance) first.is_row) ∙ (same ∙ ap (λ (r : ExecutionRow). r.instance) second.is_row) in
    let over : is_finished (bare_of h.catalogue past first.one) ≡ true =
    earlier-over limit h.catalogue past (past-due limit h legal) first.one second.one first.found second.found instance
    (omega (arith, lt, first.number, second.number)) in
    let shown : is_finished (row_status one) ≡ true =
    ap (λ (r : ExecutionRow). is_finished (row_status r)) first.is_row
    ∙ finished-status (abandoned_of past first.one.execution) (bare_of h.catalogue past first.one) over in
    over-both (row_status one) shown unfinished

pub one_unfinished : (limit : ℕ) (h : History) → IsLegal limit h → HasOneUnfinishedEach h
one_unfinished limit h legal before after cut x y one other found_one found_other same unfinished_one unfinished_other =
    let begun : IsLegal limit (beginning h before) = legal-beginning limit h legal before after cut in
    let not_below : x < y → ⊥ = not-earlier limit (beginning h before) begun x y one other found_one found_other same unfinished_one in
    let not_above : y < x → ⊥ = not-earlier limit (beginning h before) begun y x other one found_other found_one (sym same) unfinished_other in
    omega (arith, not_below, not_above)

-- ---- What a restart makes

-- the plan by the rows is the one by the log
plan-searched : (limit : ℕ) (h : History) → IsLegal limit h → (row : ExecutionRow) → restart_plan (all_of h) row ≡ plan_again_in h row
plan-searched limit h legal row =
    ap (λ (instance : ℕ → Option ℕ). plan_by (restart_point (is_some row.start) (walk_in h row) row.plan.from)
    (filter (λ (work : WorkRow). is_at row.instance (instance work.execution)) (works_in h)) (job_named h.catalogue row.job))
    (fun_ext (instance_found limit h legal))

-- the row with the next number
new-found : (catalogue : List JobTree) (past : List Entry) (new : ExecutionRow) → new.execution ≡ (folded_rows catalogue past).last.execution + 1
    → find (is_execution ((folded_rows catalogue past).last.execution + 1)) ((folded_rows catalogue past).executions ++ new ∷ []) ≡ Some new
new-found catalogue past new number =
    let executions : List ExecutionRow = (folded_rows catalogue past).executions in
    let x : ℕ = length (made past) + 1 in
    let none : find (is_execution x) executions ≡ None =
    find-map (execution_row catalogue past) (is_execution x) (is_made x) (λ n. refl) (made past)
    ∙ ap (option_map (execution_row catalogue past)) (find-past x 1 (made past) (numbered past) (omega arith)) in
    find-append (is_execution x) executions (new ∷ [])
    ∙ (ap (λ o. option_or o (cond (new.execution == x) (Some new) None)) none
    ∙ ap (λ b. cond b (Some new) None) (eq-eqb new.execution x number))

unless-is : (limit count : ℕ) (refusal : Option Refusal) (reply given : Reply) → unless refusal (accepted limit count reply) ≡ Ok given → given ≡ reply
unless-is limit count None reply given h = entered-is limit count reply given h
unless-is limit count (Some refusal) reply given h = cc

-- a restart makes the job execution with the next number
restart-number : (limit : ℕ) (r : Rows) (found : Option ExecutionRow) (x : ℕ) → reply_to_restart limit r found ≡ Ok (IsExecution x) → x ≡ r.last.execution + 1
restart-number limit r None x h = cc
restart-number limit r (Some row) x h =
    let is : IsExecution x ≡ IsExecution (r.last.execution + 1) =
    unless-is limit r.count (restart_refusal r row) (IsExecution (r.last.execution + 1)) (IsExecution x) h in cc

pub restart_gives : (limit : ℕ) (h : History) → IsLegal limit h → (before : List Entry) (e : Entry) (after : List Entry) → h.log ≡ before ++ e ∷ after
    → (y x : ℕ) (parameters : List Pair) → e.call ≡ Restart y parameters → e.reply ≡ IsExecution x → FollowsFrom (beginning h before) e y x
restart_gives limit h legal before e after cut y x parameters call is =
    let then : History = beginning h before in
    let begun : IsLegal limit then = legal-beginning limit h legal before (e ∷ after) cut in
    let with_it : IsLegal limit (grown then e) = legal-beginning limit h legal (before ++ e ∷ []) after (cut ∙ sym (append_assoc before (e ∷ []) after)) in
    let due = legal.due before e after cut in
    let r : Rows = all_of then in
    let there : reply_by limit r e.who (Restart y parameters) ≡ Ok (IsExecution x) =
    answered-by-all limit then begun e.who (Restart y parameters) (IsExecution x) (sym (ap (reply limit then e.who) call) ∙ (due.0 ∙ ap Ok is)) in
    let told : ToldRestart r y = restart-told limit r y (IsExecution x) there in
    let number : x ≡ r.last.execution + 1 = restart-number limit r (find (is_execution y) r.executions) x there in
    let new : ExecutionRow = fresh_row (r.last.execution + 1) told.row.instance e.at told.row.job parameters (restart_plan r told.row) in
    let more : (all_of (grown then e)).executions ≡ r.executions ++ new ∷ [] =
    ap (λ (z : Rows). z.executions) (all_rows_grown limit then e with_it)
    ∙ (ap (λ c. executions_after r (works_after (r.count + 1) e.who e.at c e.reply r.works) e.at c e.reply) call
    ∙ ap (λ o. r.executions ++ again_row r (r.last.execution + 1) e.at parameters o ∷ []) told.found) in
    let last : (row : ExecutionRow) → row.execution ≡ r.last.execution + 1 → find (is_execution (r.last.execution + 1)) (r.executions ++ row ∷ []) ≡ Some row =
    subst (λ (z : Rows). (row : ExecutionRow) → row.execution ≡ z.last.execution + 1 → find (is_execution (z.last.execution + 1)) (z.executions ++ row ∷ []) ≡ Some row)
    (sym (all_rows_folded limit then begun)) (new-found h.catalogue (reverse before)) in
    record {
      named = told.row;
      found = sym (execution_found limit then begun y) ∙ told.found;
      row = new;
      made = sym (execution_found limit (grown then e) with_it x)
          ∙ (ap (find (is_execution x)) more ∙ (ap (λ n. find (is_execution n) (r.executions ++ new ∷ [])) number ∙ last new refl));
      instance = refl;
      job = refl;
      plan = plan-searched limit then begun told.row;
    }

-- ---- Plans

plan-later : (catalogue : List JobTree) (more past : List Entry) (m : Made) → find (is_made m.execution) (made past) ≡ Some m
    → plan_kept catalogue (more ++ past) m.execution ≡ plan_kept catalogue past m.execution
plan-later catalogue [] past m found = refl
plan-later catalogue (e ∷ more) past m found =
    planned-by catalogue (more ++ past) e m.execution (made-once (more ++ past) m.execution m e.call (made-after more past m.execution m found))
    ∙ plan-later catalogue more past m found

pub plan_stays : (limit : ℕ) (h : History) → IsLegal limit h → (before after : List Entry) → h.log ≡ before ++ after → (x : ℕ) (row : ExecutionRow)
    → row_in (beginning h before) x ≡ Some row → KeepsPlan h x row
plan_stays limit h legal before after cut x row found =
    let catalogue : List JobTree = h.catalogue in
    let past : List Entry = reverse before in
    let whole : reverse h.log ≡ reverse after ++ past = ap reverse cut ∙ reverse-append before after in
    let begun : IsLegal limit (beginning h before) = legal-beginning limit h legal before after cut in
    let from : IsRowAt catalogue past x row = row-at catalogue past x row (sym (row-folded limit (beginning h before) begun x) ∙ found) in
    let m : Made = from.one in
    let later : find (is_made x) (made (reverse h.log)) ≡ Some m =
    subst (λ (p : List Entry). find (is_made x) (made p) ≡ Some m) (sym whole)
    (subst (λ n. find (is_made n) (made (reverse after ++ past)) ≡ Some m) from.number (made-after (reverse after) past m.execution m from.found)) in
    record {
      after = execution_row catalogue (reverse h.log) m;
      found = row-folded limit h legal x ∙ row-there catalogue (reverse h.log) x m later;
      plan = ap (λ (p : List Entry). plan_kept catalogue p m.execution) whole
          ∙ (plan-later catalogue (reverse after) past m from.found ∙ sym (ap (λ (r : ExecutionRow). r.plan) from.is_row));
    }
