-- The work items of a partitioned step in a job execution, and what one operation more changes of them.
use Rattle.std.proofs.Common.{◌≡◌, ◌≢◌, ℕ, zero, suc, ◌+◌, ◌==◌, ◌<◌, ◌≤◌, ◌&&◌, ◌||◌, not, Bool, true, false, cond, nat_lt, Option, None, Some, is_some, unwrap_or, List, [], ◌∷◌, ◌++◌, length, find, filter, refl, sym, ◌∙◌, ap, subst, arith}
use Rattle.std.specs.List.{list_any, range_with_len}
use Rattle.std.specs.Option.{option_map}
use Rattle.std.specs.Cmp.Lexicographic.{bytes_decides}
use Rattle.std.specs.Str.{bytes_eq}
use Rattle.std.proofs.lemmas.Bool.{and_parts, eqb-true, eqb-false, ltb-true, ltb-false}
use Rattle.std.proofs.lemmas.List.{append-nil}
use Rattle.batch_ids.specs.Metrics.{zero_step}
use Rattle.batch_ids.specs.Statuses.{is_unfinished}
use Rattle.batch_ids.specs.declared.metric_step.MetricStep.{MetricStep}
use Rattle.batch_ids.specs.declared.status.BatchStatus.{BatchStatus}
use Rattle.batch_ids.specs.declared.status.BatchStatus.TheVariants.{Starting, Started, Stopping, Stopped, Failed as IsFailed, Completed, Abandoned}
use Rattle.batch_ids.specs.declared.status.WorkOutcome.{WorkOutcome}
use Rattle.batch_ids.specs.declared.status.WorkOutcome.TheVariants.{Failed}
use Rattle.jsl_model.specs.Jobs.{JobTree}
use Rattle.jsl_model.specs.declared.element.Task.{Task}
use Rattle.job_plans.specs.Plans.{is_kept}
use Rattle.walk_rules.specs.Keys.{key_of}
use Rattle.walk_rules.specs.declared.facts.Value.{Value}
use Rattle.walk_rules.specs.declared.work_key.WorkKey.{WorkKey}
use Rattle.batch_history.specs.Executions.{Made}
use Rattle.batch_history.specs.Lists.{change_first, is_at, Each}
use Rattle.batch_history.specs.Replies.{row_status, has_something, has_something_by, walk_in_rows, runnable_of_job, partitions_of_job, partition_named}
use Rattle.batch_history.specs.Rows.{Rows}
use Rattle.batch_history.specs.Statuses.{is_finished}
use Rattle.batch_history.specs.StepExecutions.{is_busy, is_left, any_left}
use Rattle.batch_history.specs.Walks.{job_named, facts_by_work}
use Rattle.batch_history.specs.Works.{is_work, busy_work, work_key, item_key}
use Rattle.batch_history.specs.declared.call.Call.{Call}
use Rattle.batch_history.specs.declared.call.Call.TheVariants.{Start, Restart, Stop, Abandon, Claim, Checkpoint, Finish, Lose, Purge}
use Rattle.batch_history.specs.declared.call.Entry.{Entry}
use Rattle.batch_history.specs.declared.call.Reply.{Reply}
use Rattle.batch_history.specs.declared.call.Reply.TheVariants.{Execution, Work, Closed, Nothing, Done, Go, StopAsked}
use Rattle.batch_history.specs.declared.call.WorkItem.{WorkItem}
use Rattle.batch_history.specs.declared.rows.ExecutionRow.{ExecutionRow}
use Rattle.batch_history.specs.declared.rows.WorkRow.{WorkRow}
use Rattle.batch_history.specs.declared.rows.WorkState.TheVariants.{Busy}
use Rattle.batch_history.proofs.Finding.{found-passes}
use Rattle.batch_history.proofs.Finished.{on-it, owner-unfinished}
use Rattle.batch_history.proofs.Folds.{made, is_made, works_of, plan_kept, bare_of, folded_rows, execution_row}
use Rattle.batch_history.proofs.Kept.{kept, IsUnknown, unknown-unworked}
use Rattle.batch_history.proofs.Told.{AllDue, IsRowOf, row-of, ToldClaim, claim-told, ToldReport, checkpoint-told, finish-told, loss-told}
use Rattle.batch_history.specs.NextRows.{over, reported}
use Rattle.batch_history.proofs.WorkLists.{each-both, unknown-away}
use Rattle.history_laws.specs.Laws.{IsOpen}
use Rattle.history_laws.proofs.Claims.{IsHandedOf, handed-of, IsPlaced, all-placed}
use Rattle.history_laws.proofs.EachWork.{entry, IsOfStep, IsStepWork, each-step-work, partition-open}
use Rattle.history_laws.proofs.Numbers.{filter-append}
use Rattle.history_laws.proofs.Rising.{each-filter}
use Rattle.history_laws.proofs.StepLeaves.{IsPartitionedOf, IsPartitionOf, partition-of}

-- ---- Lists

-- a list with one element changed, and a test that the change leaves alone
change-away : {X : Type 0} (p q : X → Bool) (f : X → X) (xs : List X) (c : X) → find q xs ≡ Some c → ((x : X) → p (f x) ≡ p x) → p c ≡ false
    → filter p (change_first q f xs) ≡ filter p xs
change-away p q f [] c e same off = cc
change-away p q f (x ∷ xs) c e same off =
    (elim (q x) as (λ b. cond b (Some x) (find q xs) ≡ Some c → filter p (cond b (f x ∷ xs) (x ∷ change_first q f xs)) ≡ filter p (x ∷ xs)) [
      | true ↦ λ s.
          let is : x ≡ c = cc in
          let here : p x ≡ false = ap p is ∙ off in
          ap (λ b. cond b (f x ∷ filter p xs) (filter p xs)) (same x ∙ here) ∙ sym (ap (λ b. cond b (x ∷ filter p xs) (filter p xs)) here)
      | false ↦ λ s. ap (λ l. cond (p x) (x ∷ l) l) (change-away p q f xs c s same off)
    ]) e

change-within : {X : Type 0} (p q : X → Bool) (f : X → X) (xs : List X) (c : X) → find q xs ≡ Some c → ((x : X) → p (f x) ≡ p x) → p c ≡ true
    → filter p (change_first q f xs) ≡ change_first q f (filter p xs)
change-within p q f [] c e same on = cc
change-within p q f (x ∷ xs) c e same on =
    (elim (q x) as (λ b. q x ≡ b → cond b (Some x) (find q xs) ≡ Some c → filter p (cond b (f x ∷ xs) (x ∷ change_first q f xs)) ≡ change_first q f (filter p (x ∷ xs))) [
      | true ↦ λ qx s.
          let is : x ≡ c = cc in
          let here : p x ≡ true = ap p is ∙ on in
          ap (λ b. cond b (f x ∷ filter p xs) (filter p xs)) (same x ∙ here)
          ∙ sym (ap (λ b. change_first q f (cond b (x ∷ filter p xs) (filter p xs))) here
          ∙ ap (λ b. cond b (f x ∷ filter p xs) (x ∷ change_first q f (filter p xs))) qx)
      | false ↦ λ qx s.
          let rest = change-within p q f xs c s same on in
          elim (p x) as (λ b. cond b (x ∷ filter p (change_first q f xs)) (filter p (change_first q f xs)) ≡ change_first q f (cond b (x ∷ filter p xs) (filter p xs))) [
            | true ↦ ap (λ l. x ∷ l) rest ∙ sym (ap (λ b. cond b (f x ∷ filter p xs) (x ∷ change_first q f (filter p xs))) qx)
            | false ↦ rest
          ]
    ]) refl e

pub found-within : {X : Type 0} (p q : X → Bool) (xs : List X) (c : X) → find q xs ≡ Some c → p c ≡ true → find q (filter p xs) ≡ Some c
found-within p q [] c e on = cc
found-within p q (x ∷ xs) c e on =
    (elim (q x) as (λ b. q x ≡ b → cond b (Some x) (find q xs) ≡ Some c → find q (filter p (x ∷ xs)) ≡ Some c) [
      | true ↦ λ qx s.
          let is : x ≡ c = cc in
          ap (λ b. find q (cond b (x ∷ filter p xs) (filter p xs))) (ap p is ∙ on) ∙ (ap (λ b. cond b (Some x) (find q (filter p xs))) qx ∙ ap (λ z. Some z) is)
      | false ↦ λ qx s.
          elim (p x) as (λ b. find q (cond b (x ∷ filter p xs) (filter p xs)) ≡ Some c) [
            | true ↦ ap (λ b. cond b (Some x) (find q (filter p xs))) qx ∙ found-within p q xs c s on
            | false ↦ found-within p q xs c s on
          ]
    ]) refl e

pub found-changed : {X : Type 0} (q : X → Bool) (f : X → X) (xs : List X) (c : X) → find q xs ≡ Some c → q (f c) ≡ true → find q (change_first q f xs) ≡ Some (f c)
found-changed q f [] c e on = cc
found-changed q f (x ∷ xs) c e on =
    (elim (q x) as (λ b. q x ≡ b → cond b (Some x) (find q xs) ≡ Some c → find q (cond b (f x ∷ xs) (x ∷ change_first q f xs)) ≡ Some (f c)) [
      | true ↦ λ qx s.
          let is : x ≡ c = cc in
          ap (λ b. cond b (Some (f x)) (find q xs)) (ap (λ z. q (f z)) is ∙ on) ∙ ap (λ z. Some (f z)) is
      | false ↦ λ qx s. ap (λ b. cond b (Some x) (find q (change_first q f xs))) qx ∙ found-changed q f xs c s on
    ]) refl e

pub any-found : {X : Type 0} (p q : X → Bool) (xs : List X) (c : X) → find q xs ≡ Some c → p c ≡ true → list_any p xs ≡ true
any-found p q [] c e on = cc
any-found p q (x ∷ xs) c e on =
    (elim (q x) as (λ b. cond b (Some x) (find q xs) ≡ Some c → (p x || list_any p xs) ≡ true) [
      | true ↦ λ s. let is : x ≡ c = cc in ap (λ b. b || list_any p xs) (ap p is ∙ on)
      | false ↦ λ s. or-last (p x) (list_any p xs) (any-found p q xs c s on)
    ]) e
  where
    or-last : (a b : Bool) → b ≡ true → (a || b) ≡ true
    or-last true b h = refl
    or-last false b h = h

any-last : {X : Type 0} (p : X → Bool) (xs : List X) (x : X) → p x ≡ true → list_any p (xs ++ x ∷ []) ≡ true
any-last p [] x on = ap (λ b. b || false) on
any-last p (y ∷ ys) x on =
    elim (p y) as (λ b. (b || list_any p (ys ++ x ∷ [])) ≡ true) [
      | true ↦ refl
      | false ↦ any-last p ys x on
    ]

pub any-number : (p : ℕ → Bool) (a n k : ℕ) → a ≤ k → k < a + n → p k ≡ true → list_any p (range_with_len a n) ≡ true
any-number p a zero k le lt on = absurd (omega (arith, le, lt))
any-number p a (suc n) k le lt on =
    on-it (a == k)
    (λ is. ap (λ b. b || list_any p (range_with_len (a + 1) n)) (ap p (eqb-true a k is) ∙ on))
    (λ off.
    elim (p a) as (λ b. (b || list_any p (range_with_len (a + 1) n)) ≡ true) [
      | true ↦ refl
      | false ↦ any-number p (a + 1) n k
          (on-it (nat_lt a k) (λ later. let lt = ltb-true a k later in omega (arith, lt)) (λ no. absurd (let over = ltb-false a k no in let differ = eqb-false a k off in omega (arith, over, le, differ))))
          (omega (arith, lt)) on
    ])

pub none-of-each : (P : WorkRow → Type 0) (p : WorkRow → Bool) (rows : List WorkRow) → ((row : WorkRow) → P row → p row ≡ false) → Each P rows → list_any p rows ≡ false
none-of-each P p [] f h = refl
none-of-each P p (r ∷ rs) f h = ap (λ b. b || list_any p rs) (f r h.0) ∙ none-of-each P p rs f h.1

-- ---- The work items of a step

abbrev pub is_item : ℕ → List ℕ → WorkRow → Bool
is_item x step row = row.execution == x && bytes_eq row.element step

abbrev pub items : List Entry → ℕ → List ℕ → List WorkRow
items past x step = filter (is_item x step) (works_of past)

-- whether a partition is left
abbrev pub leaves_some : List JobTree → List Entry → ℕ → List ℕ → ℕ → Bool
leaves_some catalogue past x step n = any_left (plan_kept catalogue past x) step (items past x step) (Some n)

abbrev pub is_running : List JobTree → List Entry → Made → Bool
is_running catalogue past m = is_unfinished (row_status (execution_row catalogue past m))

-- whether a partition is busy, or one is left and the job execution is unfinished
abbrev pub goes_on : Bool → Bool → List WorkRow → Bool
goes_on unfinished left rows = list_any (λ row. is_busy row.state) rows || (left && unfinished)

-- whether the step goes on
abbrev pub is_going : List JobTree → List Entry → Made → List ℕ → ℕ → Bool
is_going catalogue past m step n = goes_on (is_running catalogue past m) (leaves_some catalogue past m.execution step n) (items past m.execution step)

-- ---- What one operation more changes of them

-- nothing, or a work item more, or one that was busy has counts more or is over
pub data Change (catalogue : List JobTree) (older : List Entry) (e : Entry) (m : Made) (step : List ℕ) (n : ℕ) : Type 0 where
  none : items (e ∷ older) m.execution step ≡ items older m.execution step → Change catalogue older e m step n
  handed : (new : WorkRow) → items (e ∷ older) m.execution step ≡ items older m.execution step ++ new ∷ [] → new.state ≡ Busy
      → is_going catalogue older m step n ≡ true → Change catalogue older e m step n
  counted : (w : ℕ) (c : WorkRow) (s : MetricStep) → find (is_work w) (items older m.execution step) ≡ Some c → c.state ≡ Busy
      → items (e ∷ older) m.execution step ≡ change_first (is_work w) (reported s) (items older m.execution step) → Change catalogue older e m step n
  ended : (w : ℕ) (c : WorkRow) (o : WorkOutcome) (t : Option (List ℕ)) (s : MetricStep) → find (is_work w) (items older m.execution step) ≡ Some c → c.state ≡ Busy
      → is_finished (bare_of catalogue older m) ≡ false
      → items (e ∷ older) m.execution step ≡ change_first (is_work w) (over o t s e.at (length older + 1)) (items older m.execution step) → Change catalogue older e m step n

something-unfinished : (status : BatchStatus) (value : Value) → has_something_by status value ≡ true → is_unfinished status ≡ true
something-unfinished Starting value h = refl
something-unfinished Started value h = refl
something-unfinished Stopping value h = cc
something-unfinished Stopped value h = cc
something-unfinished IsFailed value h = cc
something-unfinished Completed value h = cc
something-unfinished Abandoned value h = cc

going-left : (unfinished left : Bool) (rows : List WorkRow) → unfinished ≡ true → left ≡ true → goes_on unfinished left rows ≡ true
going-left unfinished left rows u l =
    ap (λ b. list_any (λ (row : WorkRow). is_busy row.state) rows || (left && b)) u
    ∙ (ap (λ b. list_any (λ (row : WorkRow). is_busy row.state) rows || (b && true)) l
    ∙ (elim (list_any (λ (row : WorkRow). is_busy row.state) rows) as (λ b. (b || true) ≡ true) [ true ↦ refl | false ↦ refl ]))

at-number : (q : ℕ) (o : Option ℕ) → is_at q o ≡ true → unwrap_or o 0 ≡ q
at-number q None h = cc
at-number q (Some y) h = eqb-true y q h

-- a work item more was ready, so that its partition was left
new-going : (limit : ℕ) (catalogue : List JobTree) (older : List Entry) (item : WorkItem) (m : Made) (step : List ℕ) (n : ℕ) (task : Task)
    → find (is_made m.execution) (made older) ≡ Some m → IsPartitionedOf (job_named catalogue m.job) step n task
    → ToldClaim (folded_rows catalogue older) (Work item) → item.execution ≡ m.execution → item.element ≡ step
    → is_going catalogue older m step n ≡ true
new-going limit catalogue older item m step n task found part told here element =
    let r : Rows = folded_rows catalogue older in
    let out : IsHandedOf r told.row item = handed-of r told.row item told.answered in
    let from : IsRowOf catalogue older told.row = row-of catalogue older (has_something r) told.row told.found in
    let k : Made = from.one in
    let number : k.execution ≡ item.execution = sym (ap (λ (row : ExecutionRow). row.execution) from.is_row) ∙ sym (ap (λ (i : WorkItem). i.execution) out.is) in
    let one : k ≡ m = let both : Some k ≡ Some m = sym from.found ∙ (ap (λ x. find (is_made x) (made older)) (number ∙ here) ∙ found) in cc in
    let is_row : told.row ≡ execution_row catalogue older m = from.is_row ∙ ap (execution_row catalogue older) one in
    let key : WorkKey = item_key item in
    let named : key ≡ key_of step key.partition = ap (λ i. key_of i key.partition) element in
    let unknown : IsUnknown (plan_kept catalogue older m.execution) (facts_by_work m.execution (works_of older)) (job_named catalogue m.job) key =
    subst (λ (row : ExecutionRow). IsUnknown row.plan (facts_by_work row.execution (works_of older)) (job_named catalogue row.job) key) is_row out.unknown in
    let runs : is_some (runnable_of_job (job_named catalogue m.job) key) ≡ true =
    ap (λ j. is_some (runnable_of_job j key)) unknown.is ∙ unknown.runs in
    let of : IsPartitionOf (job_named catalogue m.job) step n task key.partition =
    partition-of (job_named catalogue m.job) step n task part key.partition (ap (λ z. is_some (runnable_of_job (job_named catalogue m.job) z)) (sym named) ∙ runs) in
    let free : IsOpen (plan_kept catalogue older m.execution) key =
    partition-open (plan_kept catalogue older m.execution) (facts_by_work m.execution (works_of older)) (job_named catalogue m.job) key task n unknown
    (ap (runnable_of_job (job_named catalogue m.job)) named ∙ of.runs) (ap (partitions_of_job (job_named catalogue m.job)) named ∙ of.count) in
    let away : Each (λ (row : WorkRow). row.execution ≡ m.execution → work_key row ≢ key) (works_of older) =
    unknown-away m.execution (works_of older) key
    (unknown-unworked (plan_kept catalogue older m.execution) (facts_by_work m.execution (works_of older)) (job_named catalogue m.job) key unknown) in
    let away_items : Each (λ (row : WorkRow). (row.element ≡ step) × (work_key row ≢ key)) (items older m.execution step) =
    each-filter (λ (row : WorkRow). row.execution ≡ m.execution → work_key row ≢ key) (λ (row : WorkRow). (row.element ≡ step) × (work_key row ≢ key)) (is_item m.execution step) (works_of older)
    (λ row on f.
    let both = and_parts (row.execution == m.execution) (bytes_eq row.element step) on in
    ((bytes_decides row.element step).0 both.1, f (eqb-true row.execution m.execution both.0))) away in
    let unworked : list_any (λ (row : WorkRow). is_at key.partition row.partition) (items older m.execution step) ≡ false =
    none-of-each (λ (row : WorkRow). (row.element ≡ step) × (work_key row ≢ key)) (λ (row : WorkRow). is_at key.partition row.partition) (items older m.execution step)
    (λ row is. on-it (is_at key.partition row.partition)
    (λ on. absurd (is.1 (ap (λ i. key_of i (unwrap_or row.partition 0)) is.0 ∙ (ap (key_of step) (at-number key.partition row.partition on) ∙ sym named))))
    (λ off. off)) away_items in
    let left : leaves_some catalogue older m.execution step n ≡ true =
    any-number (is_left (plan_kept catalogue older m.execution) step (items older m.execution step)) 0 n key.partition (omega arith) (let lt = of.below in omega (arith, lt))
    (ap (λ b. not b && not (list_any (λ (row : WorkRow). is_at key.partition row.partition) (items older m.execution step)))
    (ap (is_kept (plan_kept catalogue older m.execution)) (sym named) ∙ free.unkept) ∙ ap not unworked) in
    let running : is_running catalogue older m ≡ true =
    ap (λ (row : ExecutionRow). is_unfinished (row_status row)) (sym is_row)
    ∙ something-unfinished (row_status told.row) (walk_in_rows r told.row) (found-passes (has_something r) r.executions told.row told.found) in
    going-left (is_running catalogue older m) (leaves_some catalogue older m.execution step n) (items older m.execution step) running left

handed-change : (limit : ℕ) (catalogue : List JobTree) (older : List Entry) (who at : ℕ) (item : WorkItem) (m : Made) (step : List ℕ) (n : ℕ) (task : Task)
    → find (is_made m.execution) (made older) ≡ Some m → IsPartitionedOf (job_named catalogue m.job) step n task
    → ToldClaim (folded_rows catalogue older) (Work item) → Change catalogue older (entry who at Claim (Work item)) m step n
handed-change limit catalogue older who at item m step n task found part told =
    let new : WorkRow = busy_work who at item in
    let more : items (entry who at Claim (Work item) ∷ older) m.execution step ≡ items older m.execution step ++ cond (is_item m.execution step new) (new ∷ []) [] =
    filter-append (is_item m.execution step) (works_of older) new in
    on-it (is_item m.execution step new)
    (λ on.
    let both = and_parts (item.execution == m.execution) (bytes_eq item.element step) on in
    handed new (more ∙ ap (λ b. items older m.execution step ++ cond b (new ∷ []) []) on) refl
    (new-going limit catalogue older item m step n task found part told (eqb-true item.execution m.execution both.0) ((bytes_decides item.element step).0 both.1)))
    (λ off. none (more ∙ (ap (λ b. items older m.execution step ++ cond b (new ∷ []) []) off ∙ append-nil (items older m.execution step))))

claim-change : (limit : ℕ) (catalogue : List JobTree) (older : List Entry) (who at : ℕ) (reply : Reply) (m : Made) (step : List ℕ) (n : ℕ) (task : Task)
    → find (is_made m.execution) (made older) ≡ Some m → IsPartitionedOf (job_named catalogue m.job) step n task
    → ToldClaim (folded_rows catalogue older) reply → Change catalogue older (entry who at Claim reply) m step n
claim-change limit catalogue older who at (Work item) m step n task found part told = handed-change limit catalogue older who at item m step n task found part told
claim-change limit catalogue older who at (Execution x) m step n task found part told = none refl
claim-change limit catalogue older who at (Closed x) m step n task found part told = none refl
claim-change limit catalogue older who at Nothing m step n task found part told = none refl
claim-change limit catalogue older who at Done m step n task found part told = none refl
claim-change limit catalogue older who at Go m step n task found part told = none refl
claim-change limit catalogue older who at StopAsked m step n task found part told = none refl

-- the job execution of a busy work item is unfinished
item-owner : (limit : ℕ) (catalogue : List JobTree) (older : List Entry) (w : ℕ) (m : Made) (step : List ℕ) → AllDue limit catalogue older
    → find (is_made m.execution) (made older) ≡ Some m → (told : ToldReport (works_of older) w) → is_item m.execution step told.row ≡ true
    → is_finished (bare_of catalogue older m) ≡ false
item-owner limit catalogue older w m step due found told on =
    let c : WorkRow = told.row in
    let here : (c.execution == m.execution) ≡ true = (and_parts (c.execution == m.execution) (bytes_eq c.element step) on).0 in
    owner-unfinished catalogue older w m (kept limit catalogue older due) told found
    (ap (λ (o : Option WorkRow). is_at m.execution (option_map (λ (row : WorkRow). row.execution) o)) told.found ∙ here)

over-change : (limit : ℕ) (catalogue : List JobTree) (older : List Entry) (e : Entry) (w : ℕ) (o : WorkOutcome) (t : Option (List ℕ)) (s : MetricStep) (m : Made) (step : List ℕ) (n : ℕ)
    → AllDue limit catalogue older → works_of (e ∷ older) ≡ change_first (is_work w) (over o t s e.at (length older + 1)) (works_of older)
    → find (is_made m.execution) (made older) ≡ Some m → ToldReport (works_of older) w → Change catalogue older e m step n
over-change limit catalogue older e w o t s m step n due is found told =
    let f : WorkRow → WorkRow = over o t s e.at (length older + 1) in
    let same : items (e ∷ older) m.execution step ≡ filter (is_item m.execution step) (change_first (is_work w) f (works_of older)) = ap (filter (is_item m.execution step)) is in
    on-it (is_item m.execution step told.row)
    (λ on. ended w told.row o t s (found-within (is_item m.execution step) (is_work w) (works_of older) told.row told.found on) told.busy
    (item-owner limit catalogue older w m step due found told on)
    (same ∙ change-within (is_item m.execution step) (is_work w) f (works_of older) told.row told.found (λ row. refl) on))
    (λ off. none (same ∙ change-away (is_item m.execution step) (is_work w) f (works_of older) told.row told.found (λ row. refl) off))

counts-change : (catalogue : List JobTree) (older : List Entry) (who at w : ℕ) (mark : List ℕ) (s : MetricStep) (reply : Reply) (m : Made) (step : List ℕ) (n : ℕ)
    → ToldReport (works_of older) w → Change catalogue older (entry who at (Checkpoint w mark s) reply) m step n
counts-change catalogue older who at w mark s reply m step n told =
    on-it (is_item m.execution step told.row)
    (λ on. counted w told.row s (found-within (is_item m.execution step) (is_work w) (works_of older) told.row told.found on) told.busy
    (change-within (is_item m.execution step) (is_work w) (reported s) (works_of older) told.row told.found (λ row. refl) on))
    (λ off. none (change-away (is_item m.execution step) (is_work w) (reported s) (works_of older) told.row told.found (λ row. refl) off))

call-change : (limit : ℕ) (catalogue : List JobTree) (older : List Entry) (who at : ℕ) (call : Call) (reply : Reply) (m : Made) (step : List ℕ) (n : ℕ) (task : Task)
    → AllDue limit catalogue (entry who at call reply ∷ older) → find (is_made m.execution) (made older) ≡ Some m
    → IsPartitionedOf (job_named catalogue m.job) step n task → Change catalogue older (entry who at call reply) m step n
call-change limit catalogue older who at (Start job parameters) reply m step n task due found part = none refl
call-change limit catalogue older who at (Restart y parameters) reply m step n task due found part = none refl
call-change limit catalogue older who at (Stop y) reply m step n task due found part = none refl
call-change limit catalogue older who at (Abandon y) reply m step n task due found part = none refl
call-change limit catalogue older who at Claim reply m step n task due found part =
    claim-change limit catalogue older who at reply m step n task found part (claim-told limit (folded_rows catalogue older) reply due.0.0 due.0.1)
call-change limit catalogue older who at (Checkpoint w mark s) reply m step n task due found part =
    counts-change catalogue older who at w mark s reply m step n (checkpoint-told limit (folded_rows catalogue older) who w reply due.0.0)
call-change limit catalogue older who at (Finish w o t s) reply m step n task due found part =
    over-change limit catalogue older (entry who at (Finish w o t s) reply) w o t s m step n due.1 refl found (finish-told limit (folded_rows catalogue older) who w o reply due.0.0)
call-change limit catalogue older who at (Lose w) reply m step n task due found part =
    over-change limit catalogue older (entry who at (Lose w) reply) w Failed None zero_step m step n due.1 refl found (loss-told limit (length older) (works_of older) w reply due.0.0)
call-change limit catalogue older who at (Purge i) reply m step n task due found part = none refl

pub step-change : (limit : ℕ) (catalogue : List JobTree) (older : List Entry) (e : Entry) (m : Made) (step : List ℕ) (n : ℕ) (task : Task)
    → AllDue limit catalogue (e ∷ older) → find (is_made m.execution) (made older) ≡ Some m
    → IsPartitionedOf (job_named catalogue m.job) step n task → Change catalogue older e m step n
step-change limit catalogue older e m step n task due found part =
    call-change limit catalogue older e.who e.at e.call e.reply m step n task due found part

-- ---- What each of them keeps

-- a work item of a partitioned step, and of no partition that its job execution keeps
pub record IsItem (catalogue : List JobTree) (past : List Entry) (m : Made) (step : List ℕ) (n : ℕ) (task : Task) (row : WorkRow) : Type 0 where
  pub number : row.execution ≡ m.execution
  pub element : row.element ≡ step
  pub is_partition : row.partition ≡ Some (work_key row).partition
  pub of : IsPartitionOf (job_named catalogue m.job) step n task (work_key row).partition
  pub step_work : IsOfStep (plan_kept catalogue past m.execution) row

item-of : (catalogue : List JobTree) (past : List Entry) (m : Made) (step : List ℕ) (n : ℕ) (task : Task) (row : WorkRow) → find (is_made m.execution) (made past) ≡ Some m
    → IsPartitionedOf (job_named catalogue m.job) step n task → is_item m.execution step row ≡ true → IsPlaced catalogue past row → IsStepWork catalogue past row
    → IsItem catalogue past m step n task row
item-of catalogue past m step n task row found part on placed worked =
    let both = and_parts (row.execution == m.execution) (bytes_eq row.element step) on in
    let number : row.execution ≡ m.execution = eqb-true row.execution m.execution both.0 in
    let element : row.element ≡ step = (bytes_decides row.element step).0 both.1 in
    let one : placed.one ≡ m = let same : Some placed.one ≡ Some m = sym placed.found ∙ (ap (λ x. find (is_made x) (made past)) number ∙ found) in cc in
    let two : worked.one ≡ m = let same : Some worked.one ≡ Some m = sym worked.found ∙ (ap (λ x. find (is_made x) (made past)) number ∙ found) in cc in
    let key : WorkKey = work_key row in
    let named : key ≡ key_of step key.partition = ap (λ i. key_of i key.partition) element in
    let of : IsPartitionOf (job_named catalogue m.job) step n task key.partition =
    partition-of (job_named catalogue m.job) step n task part key.partition
    (subst (λ (z : Made). is_some (runnable_of_job (job_named catalogue z.job) (key_of step key.partition)) ≡ true) one
    (ap (λ z. is_some (runnable_of_job (job_named catalogue placed.one.job) z)) (sym named) ∙ placed.runs)) in
    record {
      number = number;
      element = element;
      is_partition = placed.partition ∙ ap (partition_named key.partition)
          (ap (λ (z : Made). partitions_of_job (job_named catalogue z.job) key) one ∙ (ap (partitions_of_job (job_named catalogue m.job)) named ∙ of.count));
      of = of;
      step_work = subst (λ x. IsOfStep (plan_kept catalogue past x) row) number
          (worked.step task n (ap (λ (z : Made). runnable_of_job (job_named catalogue z.job) key) two ∙ (ap (runnable_of_job (job_named catalogue m.job)) named ∙ of.runs))
          (ap (λ (z : Made). partitions_of_job (job_named catalogue z.job) key) two ∙ (ap (partitions_of_job (job_named catalogue m.job)) named ∙ of.count)));
    }

pub each-item : (limit : ℕ) (catalogue : List JobTree) (past : List Entry) (m : Made) (step : List ℕ) (n : ℕ) (task : Task) → AllDue limit catalogue past
    → find (is_made m.execution) (made past) ≡ Some m → IsPartitionedOf (job_named catalogue m.job) step n task
    → Each (IsItem catalogue past m step n task) (items past m.execution step)
each-item limit catalogue past m step n task due found part =
    each-filter (λ row. IsPlaced catalogue past row × IsStepWork catalogue past row) (IsItem catalogue past m step n task) (is_item m.execution step) (works_of past)
    (λ row on both. item-of catalogue past m step n task row found part on both.0 both.1)
    (each-both (IsPlaced catalogue past) (IsStepWork catalogue past) (λ row. IsPlaced catalogue past row × IsStepWork catalogue past row) (works_of past) (λ row a b. (a, b))
    (all-placed limit catalogue past due) (each-step-work limit catalogue past due))
