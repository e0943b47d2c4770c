-- Stop, abandonment, start and updated: what is found by search is what the rows have.
use Rattle.std.proofs.Common.{◌≡◌, ℕ, ◌+◌, ◌||◌, ◌<◌, ◌≤◌, Bool, true, false, cond, Option, None, Some, is_some, List, [], ◌∷◌, length, find, refl, sym, ◌∙◌, ap, arith}
use mathlib.Core.Bool.{or_comm}
use Rattle.std.specs.List.{list_any}
use Rattle.std.proofs.lemmas.Bool.{eqb-true, ne_eqb, or_from}
use Rattle.batch_history.specs.declared.call.Call.{Call}
use Rattle.batch_history.specs.declared.call.Call.TheVariants.{Start, Restart, Stop, Abandon, Claim, Checkpoint, Finish, Lose, Purge}
use Rattle.batch_history.specs.declared.call.Reply.{Reply}
use Rattle.batch_history.specs.declared.call.Reply.TheVariants.{Execution as IsExecution, Work, Closed, Nothing, Done, Go, StopAsked}
use Rattle.batch_history.specs.declared.call.Entry.{Entry}
use Rattle.batch_history.specs.declared.rows.WorkRow.{WorkRow}
use Rattle.batch_history.proofs.Folds.{made, is_made, works_of, start_of, stop_of, abandoned_of, updated_of, was_named}
use Rattle.batch_history.specs.Executions.{job_execution_count, makes_job_execution}
use Rattle.batch_history.specs.Lists.{is_at}
use Rattle.batch_history.specs.Moments.{first_moment, start_moment, updated_moment}
use Rattle.batch_history.specs.Operations.{taken_up, taken_up_by, stop_request, abandonment, makes_execution}
use Rattle.batch_history.specs.Statuses.{stop_requested, is_abandoned}
use Rattle.batch_history.specs.Works.{execution_of_operation, work_items}
use Rattle.batch_history.proofs.Adding.{counted}
use Rattle.batch_history.proofs.Pasts.{Fits, FitsClaim, AllFit}
use Rattle.batch_history.proofs.Origins.{making, executions-made, made-within}
use Rattle.batch_history.proofs.Items.{works-law}

-- Before it was made nothing is said of a job execution

more-made : (older : List Entry) (who at : ℕ) (call : Call) (reply : Reply) → job_execution_count older ≤ job_execution_count (record { who = who; call = call; at = at; reply = reply } ∷ older)
more-made older who at (Start job parameters) reply = omega (arith, counted (λ (e : Entry). makes_execution e.call) (record { who = who; call = Start job parameters; at = at; reply = reply }) older refl)
more-made older who at (Restart y parameters) reply = omega (arith, counted (λ (e : Entry). makes_execution e.call) (record { who = who; call = Restart y parameters; at = at; reply = reply }) older refl)
more-made older who at (Stop y) reply = omega arith
more-made older who at (Abandon y) reply = omega arith
more-made older who at Claim reply = omega arith
more-made older who at (Checkpoint w mark step) reply = omega arith
more-made older who at (Finish w o t step) reply = omega arith
more-made older who at (Lose w) reply = omega arith
more-made older who at (Purge i) reply = omega arith

pub fewer-before : (older : List Entry) (e : Entry) (x : ℕ) → job_execution_count (e ∷ older) < x → job_execution_count older < x
fewer-before older e x lt = let le : job_execution_count older ≤ job_execution_count (e ∷ older) = more-made older e.who e.at e.call e.reply in omega (arith, le, lt)

-- whom an entry makes was not made before it
pub making-after : (older : List Entry) (x : ℕ) (call : Call) → makes_job_execution older x call ≡ true → job_execution_count older < x
making-after older x (Start job parameters) is = omega (arith, eqb-true (job_execution_count older + 1) x is)
making-after older x (Restart y parameters) is = omega (arith, eqb-true (job_execution_count older + 1) x is)
making-after older x (Stop y) is = cc
making-after older x (Abandon y) is = cc
making-after older x Claim is = cc
making-after older x (Checkpoint w mark step) is = cc
making-after older x (Finish w o t step) is = cc
making-after older x (Lose w) is = cc
making-after older x (Purge i) is = cc

named-none : (older : List Entry) (x y : ℕ) → is_some (find (is_made y) (made older)) ≡ true → job_execution_count older < x → is_at x (Some y) ≡ false
named-none older x y some lt = let le : y ≤ job_execution_count older = made-within older y some in ne_eqb y x (λ e. omega (arith, le, lt, e))

-- nobody is asked to stop who was not made
pub asked-none : (older : List Entry) (call : Call) (reply : Reply) (x : ℕ) → Fits older call reply → job_execution_count older < x → is_at x (stop_request call) ≡ false
asked-none older (Stop y) reply x fits lt = named-none older x y fits.1 lt
asked-none older (Start job parameters) reply x fits lt = refl
asked-none older (Restart y parameters) reply x fits lt = refl
asked-none older (Abandon y) reply x fits lt = refl
asked-none older Claim reply x fits lt = refl
asked-none older (Checkpoint w mark step) reply x fits lt = refl
asked-none older (Finish w o t step) reply x fits lt = refl
asked-none older (Lose w) reply x fits lt = refl
asked-none older (Purge i) reply x fits lt = refl

-- nobody is given up who was not made
given-none : (older : List Entry) (call : Call) (reply : Reply) (x : ℕ) → Fits older call reply → job_execution_count older < x → is_at x (abandonment call) ≡ false
given-none older (Abandon y) reply x fits lt = named-none older x y fits.1 lt
given-none older (Start job parameters) reply x fits lt = refl
given-none older (Restart y parameters) reply x fits lt = refl
given-none older (Stop y) reply x fits lt = refl
given-none older Claim reply x fits lt = refl
given-none older (Checkpoint w mark step) reply x fits lt = refl
given-none older (Finish w o t step) reply x fits lt = refl
given-none older (Lose w) reply x fits lt = refl
given-none older (Purge i) reply x fits lt = refl

claim-takes-none : (works executions x : ℕ) (reply : Reply) → FitsClaim works executions reply → executions < x → is_at x (taken_up_by reply) ≡ false
claim-takes-none works executions x (Work item) fits lt = ne_eqb item.execution x (λ e. omega (arith, fits.1, e, lt))
claim-takes-none works executions x (Closed y) fits lt = ne_eqb y x (λ e. omega (arith, fits, e, lt))
claim-takes-none works executions x (IsExecution y) fits lt = absurd fits
claim-takes-none works executions x Nothing fits lt = refl
claim-takes-none works executions x Done fits lt = absurd fits
claim-takes-none works executions x Go fits lt = absurd fits
claim-takes-none works executions x StopAsked fits lt = absurd fits

-- nobody is taken up who was not made
takes-none : (older : List Entry) (call : Call) (reply : Reply) (x : ℕ) → Fits older call reply → job_execution_count older < x → is_at x (taken_up_by reply) ≡ false
takes-none older (Start job parameters) reply x fits lt = ap (is_at x) fits
takes-none older (Restart y parameters) reply x fits lt = ap (is_at x) fits.0
takes-none older (Stop y) reply x fits lt = ap (is_at x) fits.0
takes-none older (Abandon y) reply x fits lt = ap (is_at x) fits.0
takes-none older Claim reply x fits lt =
    claim-takes-none (length (works_of older)) (length (made older)) x reply fits (omega (arith, executions-made older, lt))
takes-none older (Checkpoint w mark step) reply x fits lt = ap (is_at x) fits.0
takes-none older (Finish w o t step) reply x fits lt = ap (is_at x) fits.0
takes-none older (Lose w) reply x fits lt = ap (is_at x) fits.0
takes-none older (Purge i) reply x fits lt = ap (is_at x) fits

-- Stop and abandonment

-- a test of calls that names nobody who was not made
abbrev NamesMade : (Call → Option ℕ) → Type 0
NamesMade names = (older : List Entry) (call : Call) (reply : Reply) (x : ℕ) → Fits older call reply → job_execution_count older < x → is_at x (names call) ≡ false

pub none-named : (names : Call → Option ℕ) → NamesMade names → (past : List Entry) → AllFit past → (x : ℕ) → job_execution_count past < x
    → list_any (λ (e : Entry). is_at x (names e.call)) past ≡ false
none-named names made [] fits x lt = refl
none-named names made (e ∷ older) fits x lt =
    let before : job_execution_count older < x = fewer-before older e x lt in
    or_from (is_at x (names e.call)) _ (made older e.call e.reply x fits.0 before) (none-named names made older fits.1 x before)

-- an entry more, where the rows forget what was said before a job execution was made
named-step : (names : Call → Option ℕ) → NamesMade names → (older : List Entry) (e : Entry) (x : ℕ) (before : Bool) → AllFit (e ∷ older)
    → list_any (λ (e : Entry). is_at x (names e.call)) older ≡ before
    → (is_at x (names e.call) || list_any (λ (e : Entry). is_at x (names e.call)) older)
    ≡ cond (makes_job_execution older x e.call) false (before || is_at x (names e.call))
named-step names made older e x before fits same =
    let found : Bool = list_any (λ (e : Entry). is_at x (names e.call)) older in
    (elim (makes_job_execution older x e.call) as (λ b. makes_job_execution older x e.call ≡ b
    → (is_at x (names e.call) || found) ≡ cond b false (before || is_at x (names e.call))) [
      | true ↦ λ is. let lt : job_execution_count older < x = making-after older x e.call is in
          or_from (is_at x (names e.call)) found (made older e.call e.reply x fits.0 lt) (none-named names made older fits.1 x lt)
      | false ↦ λ is. or_comm (is_at x (names e.call)) found ∙ ap (λ c. c || is_at x (names e.call)) same
    ]) refl

-- what names a job execution is found where the rows have it
named-law : (names : Call → Option ℕ) → NamesMade names → (past : List Entry) → AllFit past → (x : ℕ)
    → list_any (λ (e : Entry). is_at x (names e.call)) past ≡ was_named names past x
named-law names made [] fits x = refl
named-law names made (e ∷ older) fits x =
    named-step names made older e x (was_named names older x) fits (named-law names made older fits.1 x)
    ∙ ap (λ b. cond b false (was_named names older x || is_at x (names e.call))) (sym (making older x e.call))

-- that a stop was asked for
pub stop-law : (past : List Entry) → AllFit past → (x : ℕ) → stop_requested past x ≡ stop_of past x
stop-law past fits x = named-law stop_request asked-none past fits x

-- that it was abandoned
pub abandoned-law : (past : List Entry) → AllFit past → (x : ℕ) → is_abandoned past x ≡ abandoned_of past x
abandoned-law past fits x = named-law abandonment given-none past fits x

-- Start

-- an entry takes up whom the rows have it take up
takes-law : (older : List Entry) (call : Call) (reply : Reply) (x : ℕ) → Fits older call reply → is_at x (taken_up_by reply) ≡ is_at x (taken_up call reply)
takes-law older (Start job parameters) reply x fits = ap (is_at x) fits
takes-law older (Restart y parameters) reply x fits = ap (is_at x) fits.0
takes-law older (Stop y) reply x fits = ap (is_at x) fits.0
takes-law older (Abandon y) reply x fits = ap (is_at x) fits.0
takes-law older Claim reply x fits = refl
takes-law older (Checkpoint w mark step) reply x fits = ap (is_at x) fits.0
takes-law older (Finish w o t step) reply x fits = ap (is_at x) fits.0
takes-law older (Lose w) reply x fits = ap (is_at x) fits.0
takes-law older (Purge i) reply x fits = ap (is_at x) fits

-- who is not made has no start
pub start-none : (past : List Entry) → AllFit past → (x : ℕ) → job_execution_count past < x → start_moment past x ≡ None
start-none [] fits x lt = refl
start-none (e ∷ older) fits x lt =
    let before : job_execution_count older < x = fewer-before older e x lt in
    ap (λ o. first_moment o (is_at x (taken_up_by e.reply)) e.at) (start-none older fits.1 x before)
    ∙ ap (λ b. first_moment None b e.at) (takes-none older e.call e.reply x fits.0 before)

-- who is just made has no start
pub start-made : (older : List Entry) (e : Entry) (x : ℕ) → AllFit (e ∷ older) → makes_job_execution older x e.call ≡ true → start_moment (e ∷ older) x ≡ None
start-made older e x fits is =
    let lt : job_execution_count older < x = making-after older x e.call is in
    ap (λ o. first_moment o (is_at x (taken_up_by e.reply)) e.at) (start-none older fits.1 x lt)
    ∙ ap (λ b. first_moment None b e.at) (takes-none older e.call e.reply x fits.0 lt)

-- start is the one that the rows have
pub start-law : (past : List Entry) → AllFit past → (x : ℕ) → start_moment past x ≡ start_of past x
start-law [] fits x = refl
start-law (e ∷ older) fits x =
    let before : Option ℕ = start_of older x in
    (elim (makes_job_execution older x e.call) as (λ b. makes_job_execution older x e.call ≡ b
    → start_moment (e ∷ older) x ≡ cond b None (first_moment before (is_at x (taken_up e.call e.reply)) e.at)) [
      | true ↦ λ is. start-made older e x fits is
      | false ↦ λ is. ap (λ o. first_moment o (is_at x (taken_up_by e.reply)) e.at) (start-law older fits.1 x)
          ∙ ap (λ b. first_moment before b e.at) (takes-law older e.call e.reply x fits.0)
    ]) refl
    ∙ ap (λ b. cond b None (first_moment before (is_at x (taken_up e.call e.reply)) e.at)) (sym (making older x e.call))

-- Updated

cond-or : (a b : Bool) (n m : ℕ) → cond (a || b) n m ≡ cond a n (cond b n m)
cond-or true b n m = refl
cond-or false b n m = refl

-- updated is the one that the rows have
pub updated-law : (past : List Entry) → AllFit past → (x : ℕ) → updated_moment past x ≡ updated_of past x
updated-law [] fits x = refl
updated-law (e ∷ older) fits x =
    let on : List WorkRow → Bool = λ works. is_at x (execution_of_operation works e.call e.reply) in
    cond-or (makes_job_execution older x e.call) (on (work_items older)) e.at (updated_moment older x)
    ∙ (ap (λ works. cond (makes_job_execution older x e.call) e.at (cond (on works) e.at (updated_moment older x))) (works-law older fits.1)
    ∙ (ap (λ n. cond (makes_job_execution older x e.call) e.at (cond (on (works_of older)) e.at n)) (updated-law older fits.1 x)
    ∙ ap (λ b. cond b e.at (cond (on (works_of older)) e.at (updated_of older x))) (sym (making older x e.call))))
