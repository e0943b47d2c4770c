-- The work items of a job instance stand in order of their job executions: once a job instance has a later job execution, none is
-- handed out for an earlier one.
use Rattle.std.proofs.Common.{◌≡◌, ℕ, ◌+◌, ◌<◌, ◌≤◌, Bool, true, false, cond, nat_lt, None, Some, List, [], ◌∷◌, ◌++◌, length, find, filter, refl, sym, ◌∙◌, ap, subst}
use Rattle.std.proofs.lemmas.Bool.{eqb-true, eq-eqb, ltb-false, ltb-true}
use Rattle.batch_ids.specs.Metrics.{zero_step}
use Rattle.batch_ids.specs.declared.status.WorkOutcome.TheVariants.{Failed}
use Rattle.jsl_model.specs.Jobs.{JobTree}
use Rattle.batch_history.specs.Executions.{Made}
use Rattle.batch_history.specs.Lists.{change_first, is_at, Each}
use Rattle.batch_history.specs.Operations.{taken_up_by}
use Rattle.batch_history.specs.Replies.{first_ready, walk_in_rows, has_something}
use Rattle.batch_history.specs.Rows.{Rows}
use Rattle.batch_history.specs.Statuses.{is_finished}
use Rattle.batch_history.specs.Works.{is_work, busy_work}
use Rattle.batch_history.specs.declared.call.Call.{Call}
use Rattle.batch_history.specs.declared.call.Call.TheVariants.{Start, Restart, Stop, Abandon, Claim, Checkpoint, Finish, Lose, Purge}
use Rattle.batch_history.specs.declared.call.Entry.{Entry}
use Rattle.batch_history.specs.declared.call.Reply.{Reply}
use Rattle.batch_history.specs.declared.call.Reply.TheVariants.{Execution, Work, Closed, Nothing, Done, Go, StopAsked}
use Rattle.batch_history.specs.declared.call.WorkItem.{WorkItem}
use Rattle.batch_history.specs.declared.rows.ExecutionRow.{ExecutionRow}
use Rattle.batch_history.specs.declared.rows.WorkRow.{WorkRow}
use Rattle.batch_history.proofs.Earlier.{instance-found}
use Rattle.batch_history.proofs.Finished.{claim-unfinished, claimed-execution, on-it}
use Rattle.batch_history.proofs.Folds.{made, is_made, works_of, bare_of, folded_rows, instance_made}
use Rattle.batch_history.proofs.Kept.{IsHeld, IsKept, kept}
use Rattle.batch_history.proofs.Singles.{earlier-over}
use Rattle.batch_history.proofs.Told.{AllDue, IsRowOf, row-of, made-more, made-number, ToldClaim, claim-told}
use Rattle.batch_history.specs.NextRows.{over, reported}
use Rattle.batch_history.proofs.WorkLists.{each-map, each-both, each-append, each-change}

-- ---- Lists of work items

-- job executions do not fall along these work items
abbrev pub AreRising : List WorkRow → Type 0
AreRising [] = Unit {0}
AreRising (r ∷ rs) = Each (λ s. r.execution ≤ s.execution) rs × AreRising rs

pub each-filter : {X : Type 0} (P Q : X → Type 0) (p : X → Bool) (xs : List X) → ((x : X) → p x ≡ true → P x → Q x) → Each P xs → Each Q (filter p xs)
each-filter P Q p [] f h = tt
each-filter P Q p (x ∷ xs) f h =
    (elim (p x) as (λ b. p x ≡ b → Each Q (cond b (x ∷ filter p xs) (filter p xs))) [
      | true ↦ λ on. (f x on h.0, each-filter P Q p xs f h.1)
      | false ↦ λ off. each-filter P Q p xs f h.1
    ]) refl

pub rising-filter : (p : WorkRow → Bool) (rows : List WorkRow) → AreRising rows → AreRising (filter p rows)
rising-filter p [] h = tt
rising-filter p (r ∷ rs) h =
    elim (p r) as (λ b. AreRising (cond b (r ∷ filter p rs) (filter p rs))) [
      | true ↦ (each-filter (λ s. r.execution ≤ s.execution) (λ s. r.execution ≤ s.execution) p rs (λ s _ le. le) h.0, rising-filter p rs h.1)
      | false ↦ rising-filter p rs h.1
    ]

-- ---- In the order in which they were handed out

-- of two job executions of one job instance, that of the later work item is not the earlier one
abbrev pub IsInOrder : List Entry → WorkRow → WorkRow → Type 0
IsInOrder past r s = (m n : Made) → find (is_made r.execution) (made past) ≡ Some m → find (is_made s.execution) (made past) ≡ Some n
    → m.instance ≡ n.instance → r.execution ≤ s.execution

abbrev pub AreInOrder : List Entry → List WorkRow → Type 0
AreInOrder past [] = Unit {0}
AreInOrder past (r ∷ rs) = Each (IsInOrder past r) rs × AreInOrder past rs

in-order-append : (past : List Entry) (rows : List WorkRow) (new : WorkRow) → AreInOrder past rows → Each (λ r. IsInOrder past r new) rows → AreInOrder past (rows ++ new ∷ [])
in-order-append past [] new h e = (tt, tt)
in-order-append past (r ∷ rs) new h e = (each-append (IsInOrder past r) rs new h.0 e.0, in-order-append past rs new h.1 e.1)

in-order-change : (past : List Entry) (p : WorkRow → Bool) (f : WorkRow → WorkRow) (rows : List WorkRow) → ((r : WorkRow) → (f r).execution ≡ r.execution)
    → AreInOrder past rows → AreInOrder past (change_first p f rows)
in-order-change past p f [] same h = tt
in-order-change past p f (r ∷ rs) same h =
    elim (p r) as (λ b. AreInOrder past (cond b (f r ∷ rs) (r ∷ change_first p f rs))) [
      | true ↦ (
        each-map (IsInOrder past r) (IsInOrder past (f r)) rs
            (λ s o. subst (λ x. (m n : Made) → find (is_made x) (made past) ≡ Some m → find (is_made s.execution) (made past) ≡ Some n → m.instance ≡ n.instance → x ≤ s.execution) (sym (same r)) o) h.0,
        h.1,
      )
      | false ↦ (
        each-change (IsInOrder past r) p f rs
            (λ s o. subst (λ x. (m n : Made) → find (is_made r.execution) (made past) ≡ Some m → find (is_made x) (made past) ≡ Some n → m.instance ≡ n.instance → r.execution ≤ x) (sym (same s)) o) h.0,
        in-order-change past p f rs same h.1,
      )
    ]

abbrev entry : ℕ → ℕ → Call → Reply → Entry
entry who at call reply = record { who = who; call = call; at = at; reply = reply }

-- one operation more leaves the order
order-on : (catalogue : List JobTree) (older : List Entry) (e : Entry) (r s : WorkRow) → IsHeld catalogue older r → IsHeld catalogue older s
    → IsInOrder older r s → IsInOrder (e ∷ older) r s
order-on catalogue older e r s hr hs o m n fm fn same =
    let one : hr.one ≡ m = let both : Some hr.one ≡ Some m = sym (made-more older e r.execution hr.one hr.found) ∙ fm in cc in
    let two : hs.one ≡ n = let both : Some hs.one ≡ Some n = sym (made-more older e s.execution hs.one hs.found) ∙ fn in cc in
    o hr.one hs.one hr.found hs.found (ap (λ (k : Made). k.instance) one ∙ (same ∙ sym (ap (λ (k : Made). k.instance) two)))

all-order-on : (catalogue : List JobTree) (older : List Entry) (e : Entry) (rows : List WorkRow) → Each (IsHeld catalogue older) rows
    → AreInOrder older rows → AreInOrder (e ∷ older) rows
all-order-on catalogue older e [] held h = tt
all-order-on catalogue older e (r ∷ rs) held h = (
  each-both (IsHeld catalogue older) (IsInOrder older r) (IsInOrder (e ∷ older) r) rs (λ s hs o. order-on catalogue older e r s held.0 hs o) held.1 h.0,
  all-order-on catalogue older e rs held.1 h.1,
)

-- what is handed out is of the most recent job execution
new-in-order : (limit : ℕ) (catalogue : List JobTree) (older : List Entry) (who at : ℕ) (item : WorkItem) → AllDue limit catalogue older
    → ToldClaim (folded_rows catalogue older) (Work item) → (r : WorkRow) → IsHeld catalogue older r
    → IsInOrder (entry who at Claim (Work item) ∷ older) r (busy_work who at item)
new-in-order limit catalogue older who at item due told r held m n fm fn same =
    let rows : Rows = folded_rows catalogue older in
    let from : IsRowOf catalogue older told.row = row-of catalogue older (has_something rows) told.row told.found in
    let k : Made = from.one in
    let whom : taken_up_by (Work item) ≡ Some k.execution =
    ap taken_up_by told.answered ∙ (claimed-execution rows told.row (first_ready (walk_in_rows rows told.row)) ∙ ap (λ (z : ExecutionRow). Some z.execution) from.is_row) in
    let number : item.execution ≡ k.execution = let both : Some item.execution ≡ Some k.execution = whom in cc in
    let on : is_at k.execution (taken_up_by (Work item)) ≡ true = ap (is_at k.execution) whom ∙ eq-eqb k.execution k.execution refl in
    let unfinished : is_finished (bare_of catalogue older k) ≡ false = claim-unfinished catalogue older k (Work item) told from.found on in
    let is_n : k ≡ n = let both : Some k ≡ Some n = sym from.found ∙ (ap (λ x. find (is_made x) (made older)) (sym number) ∙ fn) in cc in
    let is_m : held.one ≡ m = let both : Some held.one ≡ Some m = sym held.found ∙ fm in cc in
    let own : held.one.execution ≡ r.execution = made-number r.execution older held.one held.found in
    let there : find (is_made held.one.execution) (made older) ≡ Some held.one = ap (λ x. find (is_made x) (made older)) own ∙ held.found in
    let alike : k.instance ≡ held.one.instance = ap (λ (z : Made). z.instance) is_n ∙ (sym same ∙ sym (ap (λ (z : Made). z.instance) is_m)) in
    on-it (nat_lt item.execution r.execution)
    (λ later.
    let lt : k.execution < held.one.execution = subst (λ x. x < held.one.execution) number (subst (λ x. item.execution < x) (sym own) (ltb-true item.execution r.execution later)) in
    let over_k : is_finished (bare_of catalogue older k) ≡ true = earlier-over limit catalogue older due k held.one from.found there alike lt in
    absurd (let bad : true ≡ false = sym over_k ∙ unfinished in cc))
    (λ no. ltb-false item.execution r.execution no)

claim-in-order : (limit : ℕ) (catalogue : List JobTree) (older : List Entry) (who at : ℕ) (reply : Reply) → AllDue limit catalogue older
    → ToldClaim (folded_rows catalogue older) reply → AreInOrder older (works_of older)
    → AreInOrder (entry who at Claim reply ∷ older) (works_of (entry who at Claim reply ∷ older))
claim-in-order limit catalogue older who at (Work item) due told h =
    let e : Entry = entry who at Claim (Work item) in
    let k : IsKept catalogue older = kept limit catalogue older due in
    in-order-append (e ∷ older) (works_of older) (busy_work who at item) (all-order-on catalogue older e (works_of older) k.held h)
    (each-map (IsHeld catalogue older) (λ r. IsInOrder (e ∷ older) r (busy_work who at item)) (works_of older)
    (λ r held. new-in-order limit catalogue older who at item due told r held) k.held)
claim-in-order limit catalogue older who at (Execution x) due told h = all-order-on catalogue older (entry who at Claim (Execution x)) (works_of older) (kept limit catalogue older due).held h
claim-in-order limit catalogue older who at (Closed x) due told h = all-order-on catalogue older (entry who at Claim (Closed x)) (works_of older) (kept limit catalogue older due).held h
claim-in-order limit catalogue older who at Nothing due told h = all-order-on catalogue older (entry who at Claim Nothing) (works_of older) (kept limit catalogue older due).held h
claim-in-order limit catalogue older who at Done due told h = all-order-on catalogue older (entry who at Claim Done) (works_of older) (kept limit catalogue older due).held h
claim-in-order limit catalogue older who at Go due told h = all-order-on catalogue older (entry who at Claim Go) (works_of older) (kept limit catalogue older due).held h
claim-in-order limit catalogue older who at StopAsked due told h = all-order-on catalogue older (entry who at Claim StopAsked) (works_of older) (kept limit catalogue older due).held h

order-step : (limit : ℕ) (catalogue : List JobTree) (older : List Entry) (who at : ℕ) (call : Call) (reply : Reply)
    → AllDue limit catalogue (entry who at call reply ∷ older) → AreInOrder older (works_of older)
    → AreInOrder (entry who at call reply ∷ older) (works_of (entry who at call reply ∷ older))
order-step limit catalogue older who at (Start job parameters) reply due h = all-order-on catalogue older (entry who at (Start job parameters) reply) (works_of older) (kept limit catalogue older due.1).held h
order-step limit catalogue older who at (Restart y parameters) reply due h = all-order-on catalogue older (entry who at (Restart y parameters) reply) (works_of older) (kept limit catalogue older due.1).held h
order-step limit catalogue older who at (Stop y) reply due h = all-order-on catalogue older (entry who at (Stop y) reply) (works_of older) (kept limit catalogue older due.1).held h
order-step limit catalogue older who at (Abandon y) reply due h = all-order-on catalogue older (entry who at (Abandon y) reply) (works_of older) (kept limit catalogue older due.1).held h
order-step limit catalogue older who at Claim reply due h =
    claim-in-order limit catalogue older who at reply due.1 (claim-told limit (folded_rows catalogue older) reply due.0.0 due.0.1) h
order-step limit catalogue older who at (Checkpoint w mark step) reply due h =
    in-order-change (entry who at (Checkpoint w mark step) reply ∷ older) (is_work w) (reported step) (works_of older) (λ r. refl) (all-order-on catalogue older (entry who at (Checkpoint w mark step) reply) (works_of older) (kept limit catalogue older due.1).held h)
order-step limit catalogue older who at (Finish w o t step) reply due h =
    in-order-change (entry who at (Finish w o t step) reply ∷ older) (is_work w) (over o t step at (length older + 1)) (works_of older) (λ r. refl) (all-order-on catalogue older (entry who at (Finish w o t step) reply) (works_of older) (kept limit catalogue older due.1).held h)
order-step limit catalogue older who at (Lose w) reply due h =
    in-order-change (entry who at (Lose w) reply ∷ older) (is_work w) (over Failed None zero_step at (length older + 1)) (works_of older) (λ r. refl) (all-order-on catalogue older (entry who at (Lose w) reply) (works_of older) (kept limit catalogue older due.1).held h)
order-step limit catalogue older who at (Purge i) reply due h = all-order-on catalogue older (entry who at (Purge i) reply) (works_of older) (kept limit catalogue older due.1).held h

pub all-in-order : (limit : ℕ) (catalogue : List JobTree) (past : List Entry) → AllDue limit catalogue past → AreInOrder past (works_of past)
all-in-order limit catalogue [] due = tt
all-in-order limit catalogue (e ∷ older) due =
    order-step limit catalogue older e.who e.at e.call e.reply due (all-in-order limit catalogue older due.1)

-- ---- Those of a job instance

made-of : (i : ℕ) (past : List Entry) (x : ℕ) (m : Made) → find (is_made x) (made past) ≡ Some m → is_at i (instance_made (made past) x) ≡ true → m.instance ≡ i
made-of i past x m found on = eqb-true m.instance i (sym (ap (is_at i) (instance-found past x m found)) ∙ on)

pub rising-instance : (catalogue : List JobTree) (past : List Entry) (i : ℕ) (rows : List WorkRow) → Each (IsHeld catalogue past) rows → AreInOrder past rows
    → AreRising (filter (λ work. is_at i (instance_made (made past) work.execution)) rows)
rising-instance catalogue past i [] held h = tt
rising-instance catalogue past i (r ∷ rs) held h =
    let p : WorkRow → Bool = λ work. is_at i (instance_made (made past) work.execution) in
    (elim (p r) as (λ b. p r ≡ b → AreRising (cond b (r ∷ filter p rs) (filter p rs))) [
      | true ↦ λ on. (
        each-filter (λ s. IsHeld catalogue past s × IsInOrder past r s) (λ s. r.execution ≤ s.execution) p rs
            (λ s here both. both.1 held.0.one both.0.one held.0.found both.0.found
            (made-of i past r.execution held.0.one held.0.found on ∙ sym (made-of i past s.execution both.0.one both.0.found here)))
            (each-both (IsHeld catalogue past) (IsInOrder past r) (λ s. IsHeld catalogue past s × IsInOrder past r s) rs (λ s a b. (a, b)) held.1 h.0),
        rising-instance catalogue past i rs held.1 h.1,
      )
      | false ↦ λ off. rising-instance catalogue past i rs held.1 h.1
    ]) refl
