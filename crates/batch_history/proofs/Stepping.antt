-- The rows of a past with one operation more: what each record is after it, by what it was before.
use Rattle.batch_history.specs.declared.rows.LastNumbers.{LastNumbers}
use mathlib.Core.Bool.{or-false}
use Rattle.std.proofs.Common.{◌≡◌, ℕ, ◌+◌, ◌==◌, ◌<◌, ◌≤◌, ◌||◌, Bool, true, false, cond, Option, None, Some, is_some, List, [], ◌∷◌, ◌++◌, length, map, find, filter, refl, sym, ◌∙◌, ap, arith, add-one, suc}
use Rattle.std.specs.Option.{option_map}
use mathlib.Core.Path.{fun_ext}
use Rattle.std.proofs.lemmas.List.{map-append, length-map, length-append}
use Rattle.std.proofs.lemmas.Bool.{eqb-true, eqb-false, eq-eqb, ne_eqb}
use Rattle.job_plans.proofs.Following.{find-map}
use Rattle.walk_rules.specs.declared.facts.Known.{Known}
use Rattle.walk_rules.specs.declared.facts.Value.{Value}
use Rattle.job_plans.specs.declared.plan.Plan.{Plan}
use Rattle.batch_ids.specs.Parameters.{Pair}
use Rattle.batch_ids.specs.Metrics.{zero_step}
use Rattle.batch_ids.specs.declared.metric_step.MetricStep.{MetricStep}
use Rattle.batch_ids.specs.declared.status.WorkOutcome.{WorkOutcome}
use Rattle.batch_ids.specs.declared.status.WorkOutcome.TheVariants.{Failed}
use Rattle.jsl_model.specs.Jobs.{JobTree}
use Rattle.batch_history.specs.declared.call.Call.{Call}
use Rattle.batch_history.specs.declared.call.Call.TheVariants.{Start, Restart, Stop, Abandon, Claim, Checkpoint, Finish, Lose, Purge}
use Rattle.batch_history.specs.declared.call.Reply.{Reply}
use Rattle.batch_history.specs.declared.call.Reply.TheVariants.{Execution as IsExecution, Work, Closed, Nothing, Done, Go, StopAsked}
use Rattle.batch_history.specs.declared.call.Entry.{Entry}
use Rattle.batch_history.specs.declared.rows.ExecutionRow.{ExecutionRow}
use Rattle.batch_history.specs.declared.rows.WorkRow.{WorkRow}
use Rattle.batch_history.proofs.Folds.{made, remade, is_made, makes, instances_of, works_of, start_of, was_named, stop_of, abandoned_of, updated_of, end_of, value_after, bare_of, place_of, instance_made, folded_checkpoint, execution_row, folded_rows, plan_made, plan_kept, plan_again, last_of}
use Rattle.batch_history.specs.NextRows.{works_after, with_handed_out as handed_out, reported, over, refreshed_by, refreshed_at, fresh_row, again_row, place_in, rows_with, last_after, executions_after}
use Rattle.batch_history.specs.Checkpoints.{InstanceStep, instance_step_by, is_same_step, checkpoint_after}
use Rattle.batch_history.specs.Executions.{Made}
use Rattle.batch_history.specs.Lists.{change_first, is_at}
use Rattle.batch_history.specs.Moments.{first_moment}
use Rattle.batch_history.specs.Operations.{taken_up, taken_up_by, stop_request, abandonment}
use Rattle.batch_history.specs.Replies.{instance_in, is_execution}
use Rattle.batch_history.specs.Restarts.{first_plan, plan_by, restart_point}
use Rattle.batch_history.specs.Rows.{Rows, execution_row_with}
use Rattle.batch_history.specs.Statuses.{batch_status, is_finished}
use Rattle.batch_history.specs.Walks.{facts_by_work, fact_of_state, walk_of, walk_value, job_named, known_elements}
use Rattle.batch_history.proofs.Knowing.{facts-same}
use Rattle.batch_history.specs.Works.{execution_of_operation, is_work, work_key, busy_work}

-- What an operation that is not on an execution leaves of it

pub known-append : (x : ℕ) (works : List WorkRow) (r : WorkRow) → (r.execution == x) ≡ false → known_elements x (works ++ r ∷ []) ≡ known_elements x works
known-append x [] r h = rw h refl
known-append x (w ∷ ws) r h =
    let k : Known = record { key = work_key w; fact = fact_of_state w.state } in
    ap (λ (ks : List Known). cond (w.execution == x) (k ∷ ks) ks) (known-append x ws r h)

pub known-change : (x : ℕ) (p : WorkRow → Bool) (o : WorkOutcome) (t : Option (List ℕ)) (step : MetricStep) (at n : ℕ) (works : List WorkRow)
    → is_at x (option_map (λ row. row.execution) (find p works)) ≡ false
    → known_elements x (change_first p (over o t step at n) works) ≡ known_elements x works
known-change x p o t step at n [] h = refl
known-change x p o t step at n (w ∷ ws) h =
    let k : Known = record { key = work_key w; fact = fact_of_state w.state } in
    (elim (p w) as (λ b. is_at x (option_map (λ row. row.execution) (cond b (Some w) (find p ws))) ≡ false
    → known_elements x (cond b (over o t step at n w ∷ ws) (w ∷ change_first p (over o t step at n) ws)) ≡ known_elements x (w ∷ ws)) [
      | true ↦ λ e. rw e refl
      | false ↦ λ e. ap (λ (ks : List Known). cond (w.execution == x) (k ∷ ks) ks) (known-change x p o t step at n ws e)
    ]) h

-- what is reported of a work item says nothing of its element
pub known-reported : (x : ℕ) (p : WorkRow → Bool) (step : MetricStep) (works : List WorkRow)
    → known_elements x (change_first p (reported step) works) ≡ known_elements x works
known-reported x p step [] = refl
known-reported x p step (w ∷ ws) =
    let k : Known = record { key = work_key w; fact = fact_of_state w.state } in
    elim (p w) as (λ b. known_elements x (cond b (reported step w ∷ ws) (w ∷ change_first p (reported step) ws)) ≡ known_elements x (w ∷ ws)) [
      | true ↦ refl
      | false ↦ ap (λ (ks : List Known). cond (w.execution == x) (k ∷ ks) ks) (known-reported x p step ws)
    ]

known-handed : (x who at : ℕ) (reply : Reply) (works : List WorkRow) → is_at x (taken_up_by reply) ≡ false
    → known_elements x (handed_out who at reply works) ≡ known_elements x works
known-handed x who at (Work item) works h = known-append x works _ h
known-handed x who at (IsExecution y) works h = refl
known-handed x who at (Closed y) works h = refl
known-handed x who at Nothing works h = refl
known-handed x who at Done works h = refl
known-handed x who at Go works h = refl
known-handed x who at StopAsked works h = refl

-- its work is as it was
pub known-same : (x n who at : ℕ) (call : Call) (reply : Reply) (works : List WorkRow) → is_at x (execution_of_operation works call reply) ≡ false
    → known_elements x (works_after n who at call reply works) ≡ known_elements x works
known-same x n who at (Start job parameters) reply works h = refl
known-same x n who at (Restart y parameters) reply works h = refl
known-same x n who at (Stop y) reply works h = refl
known-same x n who at (Abandon y) reply works h = refl
known-same x n who at Claim reply works h = known-handed x who at reply works h
known-same x n who at (Checkpoint w mark step) reply works h = known-reported x _ step works
known-same x n who at (Finish w o t step) reply works h = known-change x _ o t step at n works h
known-same x n who at (Lose w) reply works h = known-change x _ Failed None zero_step at n works h
known-same x n who at (Purge i) reply works h = refl

-- who is taken up is touched
pub taken-touched : (x : ℕ) (call : Call) (reply : Reply) (works : List WorkRow) → is_at x (execution_of_operation works call reply) ≡ false
    → is_at x (taken_up call reply) ≡ false
taken-touched x (Start job parameters) reply works h = refl
taken-touched x (Restart y parameters) reply works h = refl
taken-touched x (Stop y) reply works h = refl
taken-touched x (Abandon y) reply works h = refl
taken-touched x Claim reply works h = h
taken-touched x (Checkpoint w mark step) reply works h = refl
taken-touched x (Finish w o t step) reply works h = refl
taken-touched x (Lose w) reply works h = refl
taken-touched x (Purge i) reply works h = refl

-- who is asked to stop is touched
pub asked-touched : (x : ℕ) (call : Call) (reply : Reply) (works : List WorkRow) → is_at x (execution_of_operation works call reply) ≡ false
    → is_at x (stop_request call) ≡ false
asked-touched x (Start job parameters) reply works h = refl
asked-touched x (Restart y parameters) reply works h = refl
asked-touched x (Stop y) reply works h = h
asked-touched x (Abandon y) reply works h = refl
asked-touched x Claim reply works h = refl
asked-touched x (Checkpoint w mark step) reply works h = refl
asked-touched x (Finish w o t step) reply works h = refl
asked-touched x (Lose w) reply works h = refl
asked-touched x (Purge i) reply works h = refl

-- who is given up is touched
given-touched : (x : ℕ) (call : Call) (reply : Reply) (works : List WorkRow) → is_at x (execution_of_operation works call reply) ≡ false
    → is_at x (abandonment call) ≡ false
given-touched x (Start job parameters) reply works h = refl
given-touched x (Restart y parameters) reply works h = refl
given-touched x (Stop y) reply works h = refl
given-touched x (Abandon y) reply works h = h
given-touched x Claim reply works h = refl
given-touched x (Checkpoint w mark step) reply works h = refl
given-touched x (Finish w o t step) reply works h = refl
given-touched x (Lose w) reply works h = refl
given-touched x (Purge i) reply works h = refl

pub earliest-false : (o : Option ℕ) (at : ℕ) → first_moment o false at ≡ o
earliest-false None at = refl
earliest-false (Some t) at = refl

earliest-twice : (o : Option ℕ) (b : Bool) (at later : ℕ) → first_moment (first_moment o b at) b later ≡ first_moment o b at
earliest-twice (Some t) b at later = refl
earliest-twice None true at later = refl
earliest-twice None false at later = refl

-- the end stands once it is finished
pub settled : (catalogue : List JobTree) (past : List Entry) (m : Made) (at : ℕ)
    → first_moment (end_of catalogue past m) (is_finished (bare_of catalogue past m)) at ≡ end_of catalogue past m
settled catalogue [] m at = refl
settled catalogue (e ∷ older) m at =
    let ended : Option ℕ = end_of catalogue older m in
    let value : Value = value_after catalogue (e ∷ older) m in
    let begun : Option ℕ = first_moment (start_of older m.execution) (is_at m.execution (taken_up e.call e.reply)) e.at in
    let stop : Bool = stop_of older m.execution || is_at m.execution (stop_request e.call) in
    elim (makes (length (made older)) m.execution e.call) as (λ b.
    first_moment (cond b None (first_moment ended (is_finished (batch_status (cond b false stop) (cond b None begun) value)) e.at))
    (is_finished (batch_status (cond b false stop) (cond b None begun) value)) at
    ≡ cond b None (first_moment ended (is_finished (batch_status (cond b false stop) (cond b None begun) value)) e.at)) [
      | true ↦ refl
      | false ↦ earliest-twice ended (is_finished (batch_status stop begun value)) e.at at
    ]

pub begun-by : (past : List Entry) (e : Entry) (x : ℕ) → makes (length (made past)) x e.call ≡ false
    → start_of (e ∷ past) x ≡ first_moment (start_of past x) (is_at x (taken_up e.call e.reply)) e.at
begun-by past e x made_no = ap (λ b. cond b None (first_moment (start_of past x) (is_at x (taken_up e.call e.reply)) e.at)) made_no

pub named-by : (names : Call → Option ℕ) (past : List Entry) (e : Entry) (x : ℕ) → makes (length (made past)) x e.call ≡ false
    → was_named names (e ∷ past) x ≡ (was_named names past x || is_at x (names e.call))
named-by names past e x made_no = ap (λ b. cond b false (was_named names past x || is_at x (names e.call))) made_no

pub ended-by : (catalogue : List JobTree) (past : List Entry) (e : Entry) (m : Made) → makes (length (made past)) m.execution e.call ≡ false
    → end_of catalogue (e ∷ past) m ≡ first_moment (end_of catalogue past m) (is_finished (bare_of catalogue (e ∷ past) m)) e.at
ended-by catalogue past e m made_no =
    ap (λ b. cond b None (first_moment (end_of catalogue past m) (is_finished (bare_of catalogue (e ∷ past) m)) e.at)) made_no

updated-by : (past : List Entry) (e : Entry) (x : ℕ) → makes (length (made past)) x e.call ≡ false
    → updated_of (e ∷ past) x ≡ cond (is_at x (execution_of_operation (works_of past) e.call e.reply)) e.at (updated_of past x)
updated-by past e x made_no =
    ap (λ b. cond b e.at (cond (is_at x (execution_of_operation (works_of past) e.call e.reply)) e.at (updated_of past x))) made_no

pub same_row : (m : Made) (k1 k2 : Plan) (p1 p2 a1 a2 : Bool) (s1 s2 : Option ℕ) (v1 v2 : Value) (e1 e2 : Option ℕ) (u1 u2 : ℕ)
    → k1 ≡ k2 → p1 ≡ p2 → a1 ≡ a2 → s1 ≡ s2 → v1 ≡ v2 → e1 ≡ e2 → u1 ≡ u2
    → execution_row_with m k1 p1 a1 s1 v1 e1 u1 ≡ execution_row_with m k2 p2 a2 s2 v2 e2 u2
same_row m k1 k2 p1 p2 a1 a2 s1 s2 v1 v2 e1 e2 u1 u2 k p a s v e u =
    ap (λ x. execution_row_with m x p1 a1 s1 v1 e1 u1) k ∙ (ap (λ x. execution_row_with m k2 x a1 s1 v1 e1 u1) p
    ∙ (ap (λ x. execution_row_with m k2 p2 x s1 v1 e1 u1) a ∙ (ap (λ x. execution_row_with m k2 p2 a2 x v1 e1 u1) s
    ∙ (ap (λ x. execution_row_with m k2 p2 a2 s2 x e1 u1) v ∙ (ap (λ x. execution_row_with m k2 p2 a2 s2 v2 x u1) e
    ∙ ap (λ x. execution_row_with m k2 p2 a2 s2 v2 e2 x) u)))))

-- the plan of a job execution stays as it was
pub planned-by : (catalogue : List JobTree) (past : List Entry) (e : Entry) (x : ℕ) → makes (length (made past)) x e.call ≡ false
    → plan_kept catalogue (e ∷ past) x ≡ plan_kept catalogue past x
planned-by catalogue past e x made_no =
    ap (λ b. cond b (plan_made catalogue past (plan_kept catalogue past) e.call) (plan_kept catalogue past x)) made_no

pub same_status : (p1 p2 : Bool) (s1 s2 : Option ℕ) (v1 v2 : Value) → p1 ≡ p2 → s1 ≡ s2 → v1 ≡ v2 → batch_status p1 s1 v1 ≡ batch_status p2 s2 v2
same_status p1 p2 s1 s2 v1 v2 p s v =
    ap (λ x. batch_status x s1 v1) p ∙ (ap (λ x. batch_status p2 x v1) s ∙ ap (λ x. batch_status p2 s2 x) v)

-- the row of a job execution that an operation neither makes nor is on
pub untouched : (catalogue : List JobTree) (past : List Entry) (e : Entry) (m : Made) → makes (length (made past)) m.execution e.call ≡ false
    → is_at m.execution (execution_of_operation (works_of past) e.call e.reply) ≡ false
    → execution_row catalogue (e ∷ past) m ≡ execution_row catalogue past m
untouched catalogue past e m made_no off =
    let x : ℕ = m.execution in
    let works : List WorkRow = works_of past in
    let k : plan_kept catalogue (e ∷ past) x ≡ plan_kept catalogue past x = planned-by catalogue past e x made_no in
    let p : stop_of (e ∷ past) x ≡ stop_of past x =
    named-by stop_request past e x made_no ∙ (ap (λ b. stop_of past x || b) (asked-touched x e.call e.reply works off) ∙ or-false (stop_of past x)) in
    let a : abandoned_of (e ∷ past) x ≡ abandoned_of past x =
    named-by abandonment past e x made_no ∙ (ap (λ b. abandoned_of past x || b) (given-touched x e.call e.reply works off) ∙ or-false (abandoned_of past x)) in
    let s : start_of (e ∷ past) x ≡ start_of past x =
    begun-by past e x made_no
    ∙ (ap (λ b. first_moment (start_of past x) b e.at) (taken-touched x e.call e.reply works off) ∙ earliest-false (start_of past x) e.at) in
    let v : value_after catalogue (e ∷ past) m ≡ value_after catalogue past m =
    ap (λ k. walk_of k (facts_by_work x (works_of (e ∷ past))) (job_named catalogue m.job)) k
    ∙ ap (λ f. walk_of (plan_kept catalogue past x) f (job_named catalogue m.job)) (facts-same x _ works (known-same x (length past + 1) e.who e.at e.call e.reply works off)) in
    let n : end_of catalogue (e ∷ past) m ≡ end_of catalogue past m =
    ended-by catalogue past e m made_no
    ∙ (ap (λ b. first_moment (end_of catalogue past m) (is_finished b) e.at) (same_status _ _ _ _ _ _ p s v)
    ∙ settled catalogue past m e.at) in
    let u : updated_of (e ∷ past) x ≡ updated_of past x =
    updated-by past e x made_no ∙ ap (λ b. cond b e.at (updated_of past x)) off in
    same_row m _ _ _ _ _ _ _ _ _ _ _ _ _ _ k p a s v n u

-- the row of a job execution that an operation is on
pub refreshed-by : (catalogue : List JobTree) (past : List Entry) (e : Entry) (m : Made) → makes (length (made past)) m.execution e.call ≡ false
    → is_at m.execution (execution_of_operation (works_of past) e.call e.reply) ≡ true
    → execution_row catalogue (e ∷ past) m ≡ refreshed_by catalogue (works_of (e ∷ past)) e.at e.call e.reply (execution_row catalogue past m)
refreshed-by catalogue past e m made_no on =
    let x : ℕ = m.execution in
    let k : plan_kept catalogue (e ∷ past) x ≡ plan_kept catalogue past x = planned-by catalogue past e x made_no in
    let value : Value = walk_value catalogue (works_of (e ∷ past)) x m.job (plan_kept catalogue past x) in
    let v : value_after catalogue (e ∷ past) m ≡ value =
    ap (λ k. walk_of k (facts_by_work x (works_of (e ∷ past))) (job_named catalogue m.job)) k in
    let begun : Option ℕ = first_moment (start_of past x) (is_at x (taken_up e.call e.reply)) e.at in
    let stop : Bool = stop_of past x || is_at x (stop_request e.call) in
    let p : stop_of (e ∷ past) x ≡ stop = named-by stop_request past e x made_no in
    let a : abandoned_of (e ∷ past) x ≡ (abandoned_of past x || is_at x (abandonment e.call)) = named-by abandonment past e x made_no in
    let s : start_of (e ∷ past) x ≡ begun = begun-by past e x made_no in
    let n : end_of catalogue (e ∷ past) m ≡ first_moment (end_of catalogue past m) (is_finished (batch_status stop begun value)) e.at =
    ended-by catalogue past e m made_no
    ∙ ap (λ b. first_moment (end_of catalogue past m) (is_finished b) e.at) (same_status _ _ _ _ _ value p s v) in
    let u : updated_of (e ∷ past) x ≡ e.at =
    updated-by past e x made_no ∙ ap (λ b. cond b e.at (updated_of past x)) on in
    same_row m _ _ _ _ _ _ _ _ _ value _ _ _ _ k p a s v n u

-- Job executions are numbered from one on

abbrev pub AreNumbered : ℕ → List Made → Type 0
AreNumbered k [] = Unit {0}
AreNumbered k (m ∷ ms) = (m.execution ≡ k) × AreNumbered (k + 1) ms

numbered-append : (k : ℕ) (ms : List Made) (m : Made) → AreNumbered k ms → m.execution ≡ length ms + k → AreNumbered k (ms ++ m ∷ [])
numbered-append k [] m h e = (omega (arith, e), tt)
numbered-append k (n ∷ ms) m h e = (h.0, numbered-append (k + 1) ms m h.1 (omega (arith, e)))

pub remade-number : (x at : ℕ) (parameters : List Pair) (o : Option Made) → (remade x parameters at o).execution ≡ x
remade-number x at parameters None = refl
remade-number x at parameters (Some m) = refl

numbered-after : (past : List Entry) (at : ℕ) (call : Call) (reply : Reply) (who : ℕ) → AreNumbered 1 (made past)
    → AreNumbered 1 (made (record { who = who; call = call; at = at; reply = reply } ∷ past))
numbered-after past at (Start job parameters) reply who h = numbered-append 1 (made past) _ h refl
numbered-after past at (Restart y parameters) reply who h = numbered-append 1 (made past) _ h (remade-number _ at parameters (find (is_made y) (made past)))
numbered-after past at (Stop y) reply who h = h
numbered-after past at (Abandon y) reply who h = h
numbered-after past at Claim reply who h = h
numbered-after past at (Checkpoint w mark step) reply who h = h
numbered-after past at (Finish w o t step) reply who h = h
numbered-after past at (Lose w) reply who h = h
numbered-after past at (Purge i) reply who h = h

pub numbered : (past : List Entry) → AreNumbered 1 (made past)
numbered [] = tt
numbered (e ∷ past) = numbered-after past e.at e.call e.reply e.who (numbered past)

-- what is alike below a number
map-below : (f g : Made → ExecutionRow) (n k : ℕ) (ms : List Made) → AreNumbered k ms → length ms + k ≤ n
    → ((m : Made) → m.execution < n → g m ≡ f m) → map g ms ≡ map f ms
map-below f g n k [] h lt same = refl
map-below f g n k (m ∷ ms) h lt same =
    let here : m.execution < n = omega (arith, h.0) in
    ap (λ x. x ∷ map g ms) (same m here) ∙ ap (λ xs. f m ∷ xs) (map-below f g n (k + 1) ms h.1 (omega arith) same)

map-above : (f g : Made → ExecutionRow) (x k : ℕ) (ms : List Made) → AreNumbered k ms → x < k
    → ((m : Made) → (m.execution == x) ≡ false → g m ≡ f m) → map g ms ≡ map f ms
map-above f g x k [] h lt same = refl
map-above f g x k (m ∷ ms) h lt same =
    let other : (m.execution == x) ≡ false = ne_eqb m.execution x (λ e. omega (arith, h.0, e)) in
    ap (λ y. y ∷ map g ms) (same m other) ∙ ap (λ ys. f m ∷ ys) (map-above f g x (k + 1) ms h.1 (omega arith) same)

-- one is changed and the others are alike
map-change : (f g : Made → ExecutionRow) (c : ExecutionRow → ExecutionRow) (x k : ℕ) (ms : List Made) → AreNumbered k ms
    → ((m : Made) → (f m).execution ≡ m.execution)
    → ((m : Made) → (m.execution == x) ≡ false → g m ≡ f m) → ((m : Made) → (m.execution == x) ≡ true → g m ≡ c (f m))
    → map g ms ≡ change_first (is_execution x) c (map f ms)
map-change f g c x k [] h named off on = refl
map-change f g c x k (m ∷ ms) h named off on =
    let is : ((f m).execution == x) ≡ (m.execution == x) = ap (λ n. n == x) (named m) in
    rw is ((elim (m.execution == x) as (λ b. (m.execution == x) ≡ b → g m ∷ map g ms ≡ cond b (c (f m) ∷ map f ms) (f m ∷ change_first (is_execution x) c (map f ms))) [
      | true ↦ λ e. ap (λ y. y ∷ map g ms) (on m e) ∙ ap (λ ys. c (f m) ∷ ys) (map-above f g x (k + 1) ms h.1 (omega (arith, h.0, eqb-true m.execution x e)) off)
      | false ↦ λ e. ap (λ y. y ∷ map g ms) (off m e) ∙ ap (λ ys. f m ∷ ys) (map-change f g c x (k + 1) ms h.1 named off on)
    ]) refl)

-- The rows of a past with one operation more

is_at-Some : (x y : ℕ) (b : Bool) → (x == y) ≡ b → is_at x (Some y) ≡ b
is_at-Some x y true e = eq-eqb y x (sym (eqb-true x y e))
is_at-Some x y false e = ne_eqb y x (λ s. eqb-false x y e (sym s))

refreshed-rows : (catalogue : List JobTree) (past : List Entry) (e : Entry) (t : Option ℕ) → execution_of_operation (works_of past) e.call e.reply ≡ t
    → ((m : Made) → makes (length (made past)) m.execution e.call ≡ false)
    → map (execution_row catalogue (e ∷ past)) (made past)
    ≡ refreshed_at catalogue (works_of (e ∷ past)) e.at e.call e.reply t (map (execution_row catalogue past) (made past))
refreshed-rows catalogue past e None is made_no =
    map-below (execution_row catalogue past) (execution_row catalogue (e ∷ past)) (length (made past) + 1) 1 (made past) (numbered past) (omega arith)
    (λ m lt. untouched catalogue past e m (made_no m) (ap (is_at m.execution) is))
refreshed-rows catalogue past e (Some x) is made_no =
    map-change (execution_row catalogue past) (execution_row catalogue (e ∷ past)) _ x 1 (made past) (numbered past) (λ m. refl)
    (λ m off. untouched catalogue past e m (made_no m) (ap (is_at m.execution) is ∙ is_at-Some m.execution x false off))
    (λ m on. refreshed-by catalogue past e m (made_no m) (ap (is_at m.execution) is ∙ is_at-Some m.execution x true on))

-- the executions that were there before one is made
older-rows : (catalogue : List JobTree) (past : List Entry) (e : Entry)
    → ((m : Made) → m.execution < length (made past) + 1 → makes (length (made past)) m.execution e.call ≡ false)
    → execution_of_operation (works_of past) e.call e.reply ≡ None
    → map (execution_row catalogue (e ∷ past)) (made past) ≡ map (execution_row catalogue past) (made past)
older-rows catalogue past e made_no is =
    map-below (execution_row catalogue past) (execution_row catalogue (e ∷ past)) (length (made past) + 1) 1 (made past) (numbered past) (omega arith)
    (λ m lt. untouched catalogue past e m (made_no m lt) (ap (is_at m.execution) is))

not-made : (n x : ℕ) → x < n + 1 → (n + 1 == x) ≡ false
not-made n x lt = ne_eqb (n + 1) x (λ e. omega arith)

option-map-map : {A B C : Type 0} (f : A → B) (g : B → C) (o : Option A) → option_map g (option_map f o) ≡ option_map (λ x. g (f x)) o
option-map-map f g None = refl
option-map-map f g (Some x) = refl

instance-in : (catalogue : List JobTree) (past : List Entry) (x : ℕ)
    → instance_in (map (execution_row catalogue past) (made past)) x ≡ instance_made (made past) x
instance-in catalogue past x =
    ap (λ (o : Option ExecutionRow). option_map (λ row. row.instance) o) (find-map (execution_row catalogue past) (is_execution x) (is_made x) (λ m. refl) (made past))
    ∙ option-map-map (execution_row catalogue past) (λ row. row.instance) (find (is_made x) (made past))

-- a row that an operation makes
made-row : (catalogue : List JobTree) (past : List Entry) (e : Entry) (m : Made) → makes (length (made past)) m.execution e.call ≡ true
    → m.create ≡ e.at
    → execution_row catalogue (e ∷ past) m ≡ fresh_row m.execution m.instance e.at m.job m.parameters (plan_made catalogue past (plan_kept catalogue past) e.call)
made-row catalogue past e m made_yes at = rw made_yes (rw at refl)

remade-row : (catalogue : List JobTree) (past : List Entry) (x at : ℕ) (parameters : List Pair) (o : Option Made)
    → fresh_row (remade x parameters at o).execution (remade x parameters at o).instance at (remade x parameters at o).job (remade x parameters at o).parameters
    (plan_again catalogue past (plan_kept catalogue past) o)
    ≡ again_row (folded_rows catalogue past) x at parameters (option_map (execution_row catalogue past) o)
remade-row catalogue past x at parameters None = refl
remade-row catalogue past x at parameters (Some m) =
    let plan : Plan = plan_kept catalogue past m.execution in
    let from : List ℕ =
    restart_point (is_some (start_of past m.execution)) (walk_value catalogue (works_of past) m.execution m.job plan) plan.from in
    ap (λ (instance : ℕ → Option ℕ). fresh_row x m.instance at m.job parameters
    (plan_by from (filter (λ (work : WorkRow). is_at m.instance (instance work.execution)) (works_of past)) (job_named catalogue m.job)))
    (sym (fun_ext (instance-in catalogue past)))

remade-create : (x at : ℕ) (parameters : List Pair) (o : Option Made) → (remade x parameters at o).create ≡ at
remade-create x at parameters None = refl
remade-create x at parameters (Some m) = refl

executions-step : (catalogue : List JobTree) (past : List Entry) (who at : ℕ) (call : Call) (reply : Reply)
    → (folded_rows catalogue (record { who = who; call = call; at = at; reply = reply } ∷ past)).executions
    ≡ executions_after (folded_rows catalogue past) (works_after (length past + 1) who at call reply (works_of past)) at call reply
executions-step catalogue past who at (Start job parameters) reply =
    let e : Entry = record { who = who; call = Start job parameters; at = at; reply = reply } in
    let n : ℕ = length (made past) in
    let m : Made = record { execution = n + 1; instance = length (instances_of past) + 1; job = job; parameters = parameters; create = at } in
    map-append (execution_row catalogue (e ∷ past)) (made past) (m ∷ [])
    ∙ (ap (λ xs. xs ++ execution_row catalogue (e ∷ past) m ∷ []) (older-rows catalogue past e (λ x lt. not-made n x.execution lt) refl)
    ∙ ap (λ y. map (execution_row catalogue past) (made past) ++ y ∷ []) (made-row catalogue past e m (eq-eqb (n + 1) (n + 1) refl) refl))
executions-step catalogue past who at (Restart y parameters) reply =
    let e : Entry = record { who = who; call = Restart y parameters; at = at; reply = reply } in
    let n : ℕ = length (made past) in
    let o : Option Made = find (is_made y) (made past) in
    let m : Made = remade (n + 1) parameters at o in
    let old : List ExecutionRow = map (execution_row catalogue past) (made past) in
    map-append (execution_row catalogue (e ∷ past)) (made past) (m ∷ [])
    ∙ (ap (λ xs. xs ++ execution_row catalogue (e ∷ past) m ∷ []) (older-rows catalogue past e (λ x lt. not-made n x.execution lt) refl)
    ∙ (ap (λ r. old ++ r ∷ []) (made-row catalogue past e m (eq-eqb (n + 1) m.execution (sym (remade-number (n + 1) at parameters o))) (remade-create (n + 1) at parameters o))
    ∙ (ap (λ r. old ++ r ∷ []) (remade-row catalogue past (n + 1) at parameters o)
    ∙ ap (λ r. old ++ again_row (folded_rows catalogue past) (n + 1) at parameters r ∷ []) (sym (find-map (execution_row catalogue past) (is_execution y) (is_made y) (λ x. refl) (made past))))))
executions-step catalogue past who at (Stop y) reply =
    refreshed-rows catalogue past (record { who = who; call = Stop y; at = at; reply = reply }) (Some y) refl (λ m. refl)
executions-step catalogue past who at (Abandon y) reply =
    refreshed-rows catalogue past (record { who = who; call = Abandon y; at = at; reply = reply }) (Some y) refl (λ m. refl)
executions-step catalogue past who at Claim reply =
    refreshed-rows catalogue past (record { who = who; call = Claim; at = at; reply = reply }) (taken_up_by reply) refl (λ m. refl)
executions-step catalogue past who at (Checkpoint w mark step) reply =
    let call : Call = Checkpoint w mark step in
    refreshed-rows catalogue past (record { who = who; call = call; at = at; reply = reply }) (execution_of_operation (works_of past) call reply) refl (λ m. refl)
executions-step catalogue past who at (Finish w o t step) reply =
    let call : Call = Finish w o t step in
    refreshed-rows catalogue past (record { who = who; call = call; at = at; reply = reply }) (execution_of_operation (works_of past) call reply) refl (λ m. refl)
executions-step catalogue past who at (Lose w) reply =
    let call : Call = Lose w in
    refreshed-rows catalogue past (record { who = who; call = call; at = at; reply = reply }) (execution_of_operation (works_of past) call reply) refl (λ m. refl)
executions-step catalogue past who at (Purge i) reply =
    refreshed-rows catalogue past (record { who = who; call = Purge i; at = at; reply = reply }) None refl (λ m. refl)

-- the step of a work item in its job instance stands in the rows
pub place-by-same : (one other : ℕ → Option ℕ) (row : Option WorkRow) → ((x : ℕ) → one x ≡ other x) → instance_step_by one row ≡ instance_step_by other row
place-by-same one other None same = refl
place-by-same one other (Some row) same =
    ap (λ (i : Option ℕ). option_map (λ n. record { instance = n; step = work_key row }) i) (same row.execution)

pub place-in : (catalogue : List JobTree) (past : List Entry) (w : ℕ) → place_of past w ≡ place_in (folded_rows catalogue past) w
place-in catalogue past w =
    place-by-same (instance_made (made past)) (instance_in (map (execution_row catalogue past) (made past))) (find (is_work w) (works_of past))
    (λ x. sym (instance-in catalogue past x))

-- the checkpoints after an operation, by the steps of the work items before it
abbrev marks_after : (ℕ → Option InstanceStep) → Call → (InstanceStep → Option (List ℕ)) → InstanceStep → Option (List ℕ)
marks_after place call earlier p = checkpoint_after (λ w. is_same_step p (place w)) call (earlier p)

-- the last numbers after an operation
one-more : {X : Type 0} (xs : List X) (x : X) → length (xs ++ x ∷ []) ≡ length xs + 1
one-more xs x = length-append xs (x ∷ [])

same-length : {X : Type 0} (p : X → Bool) (f : X → X) (xs : List X) → length (change_first p f xs) ≡ length xs
same-length p f [] = refl
same-length p f (x ∷ xs) =
    elim (p x) as (λ b. length (cond b (f x ∷ xs) (x ∷ change_first p f xs)) ≡ length (x ∷ xs)) [
      | true ↦ refl
      | false ↦ ap suc (same-length p f xs)
    ]

last-claim : (past : List Entry) (who at : ℕ) (reply : Reply)
    → last_of (record { who = who; call = Claim; at = at; reply = reply } ∷ past) ≡ last_after Claim reply (last_of past)
last-claim past who at (Work item) = ap (λ n. record (last_of past) { work = n }) (one-more (works_of past) (busy_work who at item))
last-claim past who at (IsExecution x) = refl
last-claim past who at (Closed x) = refl
last-claim past who at Nothing = refl
last-claim past who at Done = refl
last-claim past who at Go = refl
last-claim past who at StopAsked = refl

last-step : (past : List Entry) (who at : ℕ) (call : Call) (reply : Reply)
    → last_of (record { who = who; call = call; at = at; reply = reply } ∷ past) ≡ last_after call reply (last_of past)
last-step past who at (Start job parameters) reply =
    let last : LastNumbers = last_of past in
    ap (λ n. record last { instance = n; execution = length (made (record { who = who; call = Start job parameters; at = at; reply = reply } ∷ past)) }) (one-more (instances_of past) _)
    ∙ ap (λ n. record last { instance = last.instance + 1; execution = n }) (one-more (made past) _)
last-step past who at (Restart y parameters) reply = ap (λ n. record (last_of past) { execution = n }) (one-more (made past) _)
last-step past who at (Stop y) reply = refl
last-step past who at (Abandon y) reply = refl
last-step past who at Claim reply = last-claim past who at reply
last-step past who at (Checkpoint w mark step) reply = ap (λ n. record (last_of past) { work = n }) (same-length _ _ (works_of past))
last-step past who at (Finish w o t step) reply = ap (λ n. record (last_of past) { work = n }) (same-length _ _ (works_of past))
last-step past who at (Lose w) reply = ap (λ n. record (last_of past) { work = n }) (same-length _ _ (works_of past))
last-step past who at (Purge i) reply = refl

-- the rows of a past with one operation more
pub rows-step : (catalogue : List JobTree) (past : List Entry) (e : Entry) → folded_rows catalogue (e ∷ past) ≡ rows_with (folded_rows catalogue past) e
rows-step catalogue past e =
    let old : Rows = folded_rows catalogue past in
    let new : Rows = rows_with old e in
    let places : place_of past ≡ place_in old = fun_ext (place-in catalogue past) in
    ap (λ (n : ℕ). record (folded_rows catalogue (e ∷ past)) { count = n }) (sym (add-one (length past)))
    ∙ (ap (λ (last : LastNumbers). record (folded_rows catalogue (e ∷ past)) { count = length past + 1; last = last }) (last-step past e.who e.at e.call e.reply)
    ∙ (ap (λ (place : ℕ → Option InstanceStep). record new { executions = (folded_rows catalogue (e ∷ past)).executions; checkpoint = marks_after place e.call (folded_checkpoint past) }) places
    ∙ ap (λ (xs : List ExecutionRow). record new { executions = xs }) (executions-step catalogue past e.who e.at e.call e.reply)))
