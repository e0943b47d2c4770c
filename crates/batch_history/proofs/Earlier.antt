-- What the earlier job executions of a job instance left does not change: no work item is handed out for one that is over,
-- and none is reported of.
use Rattle.std.proofs.Common.{◌≡◌, ℕ, ◌+◌, ◌==◌, ◌&&◌, ◌<◌, Bool, true, false, cond, nat_lt, Option, None, Some, List, [], ◌∷◌, ◌++◌, length, find, filter, refl, sym, ◌∙◌, ap, subst}
use Rattle.std.specs.Option.{option_map}
use Rattle.std.proofs.lemmas.Bool.{eqb-true, eq-eqb, ltb-true}
use Rattle.batch_ids.specs.Metrics.{zero_step}
use Rattle.batch_ids.specs.declared.status.WorkOutcome.TheVariants.{Failed}
use Rattle.jsl_model.specs.Jobs.{JobTree}
use Rattle.batch_history.specs.Walks.{known_elements}
use Rattle.batch_history.specs.declared.call.Call.{Call}
use Rattle.batch_history.specs.declared.call.Call.TheVariants.{Start, Restart, Stop, Abandon, Claim, Checkpoint, Finish, Lose, Purge}
use Rattle.batch_history.specs.declared.call.Reply.{Reply}
use Rattle.batch_history.specs.declared.call.Reply.TheVariants.{Execution as IsExecution, Work, Closed, Nothing, Done, Go, StopAsked}
use Rattle.batch_history.specs.declared.call.Entry.{Entry}
use Rattle.batch_history.specs.declared.rows.ExecutionRow.{ExecutionRow}
use Rattle.batch_history.specs.declared.rows.WorkRow.{WorkRow}
use Rattle.batch_history.specs.Executions.{Made}
use Rattle.batch_history.specs.Lists.{change_first, is_at, Each}
use Rattle.batch_history.specs.Operations.{taken_up_by}
use Rattle.batch_history.specs.Replies.{first_ready, walk_in_rows, has_something}
use Rattle.batch_history.specs.Restarts.{is_same_number, is_earlier_work}
use Rattle.batch_history.specs.Rows.{Rows, IsAsBefore}
use Rattle.batch_history.specs.Statuses.{is_finished}
use Rattle.batch_history.specs.Works.{is_work, busy_work, execution_of_work}
use Rattle.batch_history.proofs.Finished.{owner-unfinished, claim-unfinished, claimed-execution, on-it, finished-step, made-after}
use Rattle.batch_history.proofs.Folds.{made, is_made, works_of, bare_of, folded_rows, execution_row, instance_made}
use Rattle.batch_history.proofs.Kept.{IsHeld, IsKept, kept}
use Rattle.batch_history.specs.NextRows.{reported, over}
use Rattle.batch_history.proofs.Singles.{earlier-over}
use Rattle.batch_history.proofs.Stepping.{known-same, known-reported}
use Rattle.batch_history.proofs.Told.{AllDue, IsRowOf, row-of, made-more, made-number, ToldClaim, claim-told, ToldReport, checkpoint-told, finish-told, loss-told}
use Rattle.batch_history.proofs.WorkLists.{each-map, each-found}

-- ---- Filters

pub filter-same : (p q : WorkRow → Bool) (rows : List WorkRow) → Each (λ r. p r ≡ q r) rows → filter p rows ≡ filter q rows
filter-same p q [] h = refl
filter-same p q (r ∷ rs) h =
    ap (λ b. cond b (r ∷ filter p rs) (filter p rs)) h.0 ∙ ap (λ xs. cond (q r) (r ∷ xs) xs) (filter-same p q rs h.1)

pub filter-none : (p : WorkRow → Bool) (rows : List WorkRow) → Each (λ r. p r ≡ false) rows → filter p rows ≡ []
filter-none p [] h = refl
filter-none p (r ∷ rs) h = ap (λ b. cond b (r ∷ filter p rs) (filter p rs)) h.0 ∙ filter-none p rs h.1

filter-append : (p : WorkRow → Bool) (rows : List WorkRow) (new : WorkRow) → p new ≡ false → filter p (rows ++ new ∷ []) ≡ filter p rows
filter-append p [] new off = ap (λ b. cond b (new ∷ []) []) off
filter-append p (r ∷ rs) new off = ap (λ xs. cond (p r) (r ∷ xs) xs) (filter-append p rs new off)

filter-change : (p q : WorkRow → Bool) (f : WorkRow → WorkRow) (rows : List WorkRow) (c : WorkRow) → find q rows ≡ Some c → p c ≡ false → p (f c) ≡ false
    → filter p (change_first q f rows) ≡ filter p rows
filter-change p q f [] c e off after = cc
filter-change p q f (r ∷ rs) c e off after =
    (elim (q r) as (λ b. cond b (Some r) (find q rs) ≡ Some c → filter p (cond b (f r ∷ rs) (r ∷ change_first q f rs)) ≡ filter p (r ∷ rs)) [
      | true ↦ λ s.
          let same : r ≡ c = cc in
          let one : p (f r) ≡ false = subst (λ z. p (f z) ≡ false) (sym same) after in
          let two : p r ≡ false = subst (λ z. p z ≡ false) (sym same) off in
          ap (λ b. cond b (f r ∷ filter p rs) (filter p rs)) one ∙ sym (ap (λ b. cond b (r ∷ filter p rs) (filter p rs)) two)
      | false ↦ λ s. ap (λ xs. cond (p r) (r ∷ xs) xs) (filter-change p q f rs c s off after)
    ]) e

-- ---- Work of earlier job executions

-- the work items of the earlier job executions of the job instance of job execution x
abbrev pub earlier_kept : List Entry → ℕ → List WorkRow
earlier_kept past x = filter (is_earlier_work (instance_made (made past)) x) (works_of past)

pub instance-found : (past : List Entry) (x : ℕ) (m : Made) → find (is_made x) (made past) ≡ Some m → instance_made (made past) x ≡ Some m.instance
instance-found past x m found = ap (λ (o : Option Made). option_map (λ (m : Made). m.instance) o) found

-- whether a number is below another, of the same job instance
abbrev is_before : ℕ → ℕ → Option ℕ → Option ℕ → Bool
is_before y x other own = nat_lt y x && is_same_number own other

not-before : (y x i j : ℕ) → (y < x → j ≡ i → ⊥) → is_before y x (Some j) (Some i) ≡ false
not-before y x i j never =
    (elim (nat_lt y x) as (λ b. nat_lt y x ≡ b → (b && (j == i)) ≡ false) [
      | true ↦ λ lt. (elim (j == i) as (λ c. (j == i) ≡ c → c ≡ false) [
        | true ↦ λ is. absurd (never (ltb-true y x lt) (eqb-true j i is))
        | false ↦ λ is. refl
      ]) refl
      | false ↦ λ lt. refl
    ]) refl

-- an unfinished job execution is no earlier one
unfinished-late : (limit : ℕ) (catalogue : List JobTree) (past : List Entry) (m n : Made) → AllDue limit catalogue past
    → find (is_made m.execution) (made past) ≡ Some m → find (is_made n.execution) (made past) ≡ Some n → is_finished (bare_of catalogue past n) ≡ false
    → (row : WorkRow) → row.execution ≡ n.execution → is_earlier_work (instance_made (made past)) m.execution row ≡ false
unfinished-late limit catalogue past m n due m_there n_there unfinished row is =
    rw is (rw (instance-found past m.execution m m_there) (rw (instance-found past n.execution n n_there)
    (not-before n.execution m.execution m.instance n.instance
    (λ lt same. let over : is_finished (bare_of catalogue past n) ≡ true = earlier-over limit catalogue past due n m n_there m_there same lt in
    let bad : true ≡ false = sym over ∙ unfinished in cc))))

abbrev entry : ℕ → ℕ → Call → Reply → Entry
entry who at call reply = record { who = who; call = call; at = at; reply = reply }

-- a report is of a work item of no earlier job execution
report-late : (limit : ℕ) (catalogue : List JobTree) (past : List Entry) (w : ℕ) (m : Made) (f : WorkRow → WorkRow) → AllDue limit catalogue past
    → find (is_made m.execution) (made past) ≡ Some m → ToldReport (works_of past) w → ((r : WorkRow) → (f r).execution ≡ r.execution)
    → filter (is_earlier_work (instance_made (made past)) m.execution) (change_first (is_work w) f (works_of past)) ≡ earlier_kept past m.execution
report-late limit catalogue past w m f due there told same =
    let k : IsKept catalogue past = kept limit catalogue past due in
    let c : WorkRow = told.row in
    let held : IsHeld catalogue past c = each-found (IsHeld catalogue past) (is_work w) (works_of past) c k.held told.found in
    let number : held.one.execution ≡ c.execution = made-number c.execution past held.one held.found in
    let found : find (is_made held.one.execution) (made past) ≡ Some held.one = subst (λ y. find (is_made y) (made past) ≡ Some held.one) (sym number) held.found in
    let on : is_at held.one.execution (execution_of_work (works_of past) w) ≡ true =
    ap (λ (o : Option WorkRow). is_at held.one.execution (option_map (λ (row : WorkRow). row.execution) o)) told.found ∙ eq-eqb c.execution held.one.execution (sym number) in
    let unfinished : is_finished (bare_of catalogue past held.one) ≡ false = owner-unfinished catalogue past w held.one k told found on in
    filter-change (is_earlier_work (instance_made (made past)) m.execution) (is_work w) f (works_of past) c told.found
    (unfinished-late limit catalogue past m held.one due there found unfinished c (sym number))
    (unfinished-late limit catalogue past m held.one due there found unfinished (f c) (same c ∙ sym number))

-- a claim hands out work of no earlier job execution
claim-late : (limit : ℕ) (catalogue : List JobTree) (past : List Entry) (m : Made) (reply : Reply) → AllDue limit catalogue past
    → find (is_made m.execution) (made past) ≡ Some m → ToldClaim (folded_rows catalogue past) reply
    → (row : WorkRow) → taken_up_by reply ≡ Some row.execution → is_earlier_work (instance_made (made past)) m.execution row ≡ false
claim-late limit catalogue past m reply due there told row taken =
    let r : Rows = folded_rows catalogue past in
    let from : IsRowOf catalogue past told.row = row-of catalogue past (has_something r) told.row told.found in
    let whom : taken_up_by reply ≡ Some from.one.execution =
    ap taken_up_by told.answered ∙ (claimed-execution r told.row (first_ready (walk_in_rows r told.row)) ∙ ap (λ (z : ExecutionRow). Some z.execution) from.is_row) in
    let same : row.execution ≡ from.one.execution = let both : Some row.execution ≡ Some from.one.execution = sym taken ∙ whom in cc in
    let on : is_at from.one.execution (taken_up_by reply) ≡ true = ap (is_at from.one.execution) whom ∙ eq-eqb from.one.execution from.one.execution refl in
    unfinished-late limit catalogue past m from.one due there from.found (claim-unfinished catalogue past from.one reply told from.found on) row same

claimed-late : (limit : ℕ) (catalogue : List JobTree) (past : List Entry) (who at : ℕ) (m : Made) (reply : Reply) → AllDue limit catalogue past
    → find (is_made m.execution) (made past) ≡ Some m → ToldClaim (folded_rows catalogue past) reply
    → earlier_kept (entry who at Claim reply ∷ past) m.execution ≡ earlier_kept past m.execution
claimed-late limit catalogue past who at m (Work item) due there told =
    let new : WorkRow = busy_work who at item in
    filter-append (is_earlier_work (instance_made (made past)) m.execution) (works_of past) new (claim-late limit catalogue past m (Work item) due there told new refl)
claimed-late limit catalogue past who at m (IsExecution y) due there told = refl
claimed-late limit catalogue past who at m (Closed y) due there told = refl
claimed-late limit catalogue past who at m Nothing due there told = refl
claimed-late limit catalogue past who at m Done due there told = refl
claimed-late limit catalogue past who at m Go due there told = refl
claimed-late limit catalogue past who at m StopAsked due there told = refl

-- a job execution more changes nothing for those that were there
still-earlier : (limit : ℕ) (catalogue : List JobTree) (past : List Entry) (e : Entry) (m : Made) → AllDue limit catalogue past
    → find (is_made m.execution) (made past) ≡ Some m
    → Each (λ (r : WorkRow). is_earlier_work (instance_made (made (e ∷ past))) m.execution r ≡ is_earlier_work (instance_made (made past)) m.execution r) (works_of past)
still-earlier limit catalogue past e m due there =
    each-map (IsHeld catalogue past) (λ (r : WorkRow). is_earlier_work (instance_made (made (e ∷ past))) m.execution r ≡ is_earlier_work (instance_made (made past)) m.execution r)
    (works_of past)
    (λ r h.
    ap (λ o. is_before r.execution m.execution o (instance_made (made (e ∷ past)) m.execution))
    (instance-found (e ∷ past) r.execution h.one (made-more past e r.execution h.one h.found) ∙ sym (instance-found past r.execution h.one h.found))
    ∙ ap (λ o. is_before r.execution m.execution (instance_made (made past) r.execution) o)
    (instance-found (e ∷ past) m.execution m (made-more past e m.execution m there) ∙ sym (instance-found past m.execution m there)))
    (kept limit catalogue past due).held

earlier-call : (limit : ℕ) (catalogue : List JobTree) (past : List Entry) (who at : ℕ) (call : Call) (reply : Reply) (m : Made)
    → AllDue limit catalogue (entry who at call reply ∷ past) → find (is_made m.execution) (made past) ≡ Some m
    → earlier_kept (entry who at call reply ∷ past) m.execution ≡ earlier_kept past m.execution
earlier-call limit catalogue past who at (Start job parameters) reply m due there =
    filter-same _ _ (works_of past) (still-earlier limit catalogue past (entry who at (Start job parameters) reply) m due.1 there)
earlier-call limit catalogue past who at (Restart y parameters) reply m due there =
    filter-same _ _ (works_of past) (still-earlier limit catalogue past (entry who at (Restart y parameters) reply) m due.1 there)
earlier-call limit catalogue past who at (Stop y) reply m due there = refl
earlier-call limit catalogue past who at (Abandon y) reply m due there = refl
earlier-call limit catalogue past who at Claim reply m due there =
    claimed-late limit catalogue past who at m reply due.1 there (claim-told limit (folded_rows catalogue past) reply due.0.0 due.0.1)
earlier-call limit catalogue past who at (Checkpoint w mark step) reply m due there =
    report-late limit catalogue past w m (reported step) due.1 there (checkpoint-told limit (folded_rows catalogue past) who w reply due.0.0) (λ r. refl)
earlier-call limit catalogue past who at (Finish w o t step) reply m due there =
    report-late limit catalogue past w m (over o t step at (length past + 1)) due.1 there (finish-told limit (folded_rows catalogue past) who w o reply due.0.0) (λ r. refl)
earlier-call limit catalogue past who at (Lose w) reply m due there =
    report-late limit catalogue past w m (over Failed None zero_step at (length past + 1)) due.1 there (loss-told limit (length past) (works_of past) w reply due.0.0) (λ r. refl)
earlier-call limit catalogue past who at (Purge i) reply m due there = refl

-- and after any operations more
pub earlier-stays : (limit : ℕ) (catalogue : List JobTree) (more past : List Entry) (m : Made) → AllDue limit catalogue (more ++ past)
    → find (is_made m.execution) (made past) ≡ Some m → earlier_kept (more ++ past) m.execution ≡ earlier_kept past m.execution
earlier-stays limit catalogue [] past m due there = refl
earlier-stays limit catalogue (e ∷ more) past m due there =
    earlier-call limit catalogue (more ++ past) e.who e.at e.call e.reply m due (made-after more past m.execution m there)
    ∙ earlier-stays limit catalogue more past m due.1 there

-- ---- What is known of the elements of a job execution that is over

not-both : (b : Bool) → b ≡ true → b ≡ false → ⊥
not-both b holds fails = let bad : true ≡ false = sym holds ∙ fails in cc

known-call : (limit : ℕ) (catalogue : List JobTree) (past : List Entry) (who at : ℕ) (call : Call) (reply : Reply) (m : Made)
    → AllDue limit catalogue (entry who at call reply ∷ past) → find (is_made m.execution) (made past) ≡ Some m → is_finished (bare_of catalogue past m) ≡ true
    → known_elements m.execution (works_of (entry who at call reply ∷ past)) ≡ known_elements m.execution (works_of past)
known-call limit catalogue past who at (Start job parameters) reply m due found over = refl
known-call limit catalogue past who at (Restart y parameters) reply m due found over = refl
known-call limit catalogue past who at (Stop y) reply m due found over = refl
known-call limit catalogue past who at (Abandon y) reply m due found over = refl
known-call limit catalogue past who at Claim reply m due found over =
    on-it (is_at m.execution (taken_up_by reply))
    (λ on. absurd (not-both _ over (claim-unfinished catalogue past m reply (claim-told limit (folded_rows catalogue past) reply due.0.0 due.0.1) found on)))
    (λ off. known-same m.execution (length past + 1) who at Claim reply (works_of past) off)
known-call limit catalogue past who at (Checkpoint w mark step) reply m due found over = known-reported m.execution (is_work w) step (works_of past)
known-call limit catalogue past who at (Finish w o t step) reply m due found over =
    on-it (is_at m.execution (execution_of_work (works_of past) w))
    (λ on. absurd (not-both _ over (owner-unfinished catalogue past w m (kept limit catalogue past due.1) (finish-told limit (folded_rows catalogue past) who w o reply due.0.0) found on)))
    (λ off. known-same m.execution (length past + 1) who at (Finish w o t step) reply (works_of past) off)
known-call limit catalogue past who at (Lose w) reply m due found over =
    on-it (is_at m.execution (execution_of_work (works_of past) w))
    (λ on. absurd (not-both _ over (owner-unfinished catalogue past w m (kept limit catalogue past due.1) (loss-told limit (length past) (works_of past) w reply due.0.0) found on)))
    (λ off. known-same m.execution (length past + 1) who at (Lose w) reply (works_of past) off)
known-call limit catalogue past who at (Purge i) reply m due found over = refl

pub over-stays : (limit : ℕ) (catalogue : List JobTree) (more past : List Entry) (m : Made) → AllDue limit catalogue (more ++ past)
    → find (is_made m.execution) (made past) ≡ Some m → is_finished (bare_of catalogue past m) ≡ true → is_finished (bare_of catalogue (more ++ past) m) ≡ true
over-stays limit catalogue [] past m due found over = over
over-stays limit catalogue (e ∷ more) past m due found over =
    let still : is_finished (bare_of catalogue (more ++ past) m) ≡ true = over-stays limit catalogue more past m due.1 found over in
    let same : IsAsBefore (execution_row catalogue (more ++ past) m) (execution_row catalogue (e ∷ (more ++ past)) m) =
    finished-step limit catalogue (more ++ past) e m due (made-after more past m.execution m found) still in
    ap (λ (row : ExecutionRow). is_finished row.bare) same ∙ still

pub known-stays : (limit : ℕ) (catalogue : List JobTree) (more past : List Entry) (m : Made) → AllDue limit catalogue (more ++ past)
    → find (is_made m.execution) (made past) ≡ Some m → is_finished (bare_of catalogue past m) ≡ true
    → known_elements m.execution (works_of (more ++ past)) ≡ known_elements m.execution (works_of past)
known-stays limit catalogue [] past m due found over = refl
known-stays limit catalogue (e ∷ more) past m due found over =
    known-call limit catalogue (more ++ past) e.who e.at e.call e.reply m due (made-after more past m.execution m found) (over-stays limit catalogue more past m due.1 found over)
    ∙ known-stays limit catalogue more past m due.1 found over
