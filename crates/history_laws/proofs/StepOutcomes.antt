-- The outcome of a partitioned step whose partitions are all through is what the walk gives the step.
use Rattle.std.proofs.Common.{◌≡◌, ◌⊎◌, inl, inr, ℕ, zero, suc, ◌+◌, ◌==◌, ◌<◌, ◌≤◌, ◌&&◌, ◌||◌, not, Bool, true, false, cond, Option, None, Some, List, [], ◌∷◌, map, find, reverse, refl, sym, ◌∙◌, ap, subst, arith}
use Rattle.std.specs.List.{list_any, range_with_len}
use Rattle.std.specs.Option.{option_map, option_and_then}
use Rattle.std.specs.Cmp.Lexicographic.{bytes_decides}
use Rattle.std.specs.Str.{bytes_eq}
use Rattle.std.proofs.lemmas.Bool.{and_parts, eqb-true, eq-eqb}
use Rattle.batch_ids.specs.Statuses.{outcome_status, status_name}
use Rattle.batch_ids.specs.declared.status.BatchStatus.TheVariants.{Started, Stopped, Failed, Completed}
use Rattle.batch_ids.specs.declared.status.WorkOutcome.{WorkOutcome}
use Rattle.batch_ids.specs.declared.status.WorkOutcome.TheVariants.{Completed as CameCompleted, Failed as CameFailed, Stopped as CameStopped}
use Rattle.jsl_model.specs.Catalogues.{AreJobs}
use Rattle.jsl_model.specs.Jobs.{JobTree}
use Rattle.jsl_model.specs.Names.{is_among}
use Rattle.jsl_model.specs.declared.element.Task.{Task}
use Rattle.walk_rules.specs.Keys.{is_same_key, key_of, keys_of_step, numbers_to}
use Rattle.walk_rules.specs.Walk.{has_fact, keys_with, known_of, named_outcome, open_or_over, strongest_outcome, step_result, is_left as IsLeftFact, is_busy as IsBusyFact, is_barred as IsBarredFact, is_failed as IsFailedFact, is_stopped as IsStoppedFact}
use Rattle.walk_rules.specs.declared.element_result.ElementResult.TheVariants.{ListValue}
use Rattle.walk_rules.specs.declared.facts.Fact.{Fact}
use Rattle.walk_rules.specs.declared.facts.Fact.TheVariants.{Nothing as FactNothing, Busy as FactBusy, Over as FactOver, Carried as FactCarried, Barred as FactBarred}
use Rattle.walk_rules.specs.declared.facts.Known.{Known}
use Rattle.walk_rules.specs.declared.facts.Value.TheVariants.{Open, Ended}
use Rattle.walk_rules.specs.declared.work_key.WorkKey.{WorkKey}
use Rattle.walk_rules.proofs.SameKeys.{same-one, same-self, differing-keys}
use Rattle.job_plans.specs.Plans.{bars_kept, carried_exit, is_kept, keeps_each, step_fact, unless_barred}
use Rattle.job_plans.specs.Runnables.{Leaf, all_leaves, partitions_with, runnable_with}
use Rattle.job_plans.specs.declared.plan.Plan.{Plan}
use Rattle.job_plans.specs.declared.runnable.Runnable.{Runnable}
use Rattle.job_plans.specs.declared.runnable.Runnable.TheVariants.{Step as RunsStep}
use Rattle.batch_history.specs.Executions.{Made}
use Rattle.batch_history.specs.Legal.{IsLegal}
use Rattle.batch_history.specs.Lists.{is_at, Each}
use Rattle.batch_history.specs.Rows.{History}
use Rattle.batch_history.specs.StepExecutions.{is_busy, is_failed, is_left, is_stopped}
use Rattle.batch_history.specs.Walks.{fact_by_work, fact_of_state, facts_by_work, is_work_of, job_named, planned_facts, runnable_fact}
use Rattle.batch_history.specs.Works.{work_key, Apart, AllApart}
use Rattle.batch_history.specs.declared.call.Entry.{Entry}
use Rattle.batch_history.specs.declared.query.StepExecution.{StepExecution}
use Rattle.batch_history.specs.declared.rows.ExecutionRow.{ExecutionRow}
use Rattle.batch_history.specs.declared.rows.WorkRow.{WorkRow}
use Rattle.batch_history.specs.declared.rows.WorkState.{WorkState}
use Rattle.batch_history.specs.declared.rows.WorkState.TheVariants.{Busy, Over}
use Rattle.batch_history.proofs.Finding.{found-passes}
use Rattle.batch_history.proofs.Finished.{on-it}
use Rattle.batch_history.proofs.Folds.{made, is_made, works_of, plan_kept, execution_row}
use Rattle.batch_history.proofs.Items.{works-law}
use Rattle.batch_history.proofs.Kept.{kept}
use Rattle.batch_history.proofs.Legality.{past-due}
use Rattle.batch_history.proofs.Plans.{due-all-fit}
use Rattle.batch_history.proofs.Told.{AllDue}
use Rattle.batch_history.proofs.WorkLists.{each-both, each-found}
use Rattle.history_laws.specs.Laws.{works_in}
use Rattle.history_laws.specs.StepExecutions.{facts_of_job, result_in, step_in, HasResult, IsPartitioned, IsThrough}
use Rattle.history_laws.proofs.Rising.{each-filter}
use Rattle.history_laws.proofs.StepEnds.{has_some}
use Rattle.history_laws.proofs.StepItems.{any-found, any-number, each-item, found-within, is_item, items, IsItem, is_running, leaves_some, none-of-each, goes_on}
use Rattle.history_laws.proofs.StepLeaves.{IsPartitionedOf, partition-there}
use Rattle.history_laws.proofs.StepMoments.{Shows, shows, status_over}
use Rattle.history_laws.proofs.StepShown.{IsShown, shown-by}

-- ---- Lists

none-numbers : (p : ℕ → Bool) (a n : ℕ) → ((q : ℕ) → a ≤ q → q < a + n → p q ≡ false) → list_any p (range_with_len a n) ≡ false
none-numbers p a zero h = refl
none-numbers p a (suc n) h =
    ap (λ b. b || list_any p (range_with_len (a + 1) n)) (h a (omega arith) (omega arith))
    ∙ none-numbers p (a + 1) n (λ q le lt. h q (omega (arith, le)) (omega (arith, lt)))

some-number : (p : ℕ → Bool) (a n : ℕ) → list_any p (range_with_len a n) ≡ true → (q : ℕ) × (a ≤ q) × (q < a + n) × (p q ≡ true)
some-number p a zero h = cc
some-number p a (suc n) h =
    on-it (p a)
    (λ on. (a, omega arith, omega arith, on))
    (λ off.
    let later = some-number p (a + 1) n (sym (ap (λ b. b || list_any p (range_with_len (a + 1) n)) off) ∙ h) in
    (later.0, omega (arith, later.1), omega (arith, later.2), later.3))

some-found : {X : Type 0} (p : X → Bool) (xs : List X) → list_any p xs ≡ true → (x : X) × (find p xs ≡ Some x)
some-found p [] h = cc
some-found p (x ∷ xs) h =
    on-it (p x)
    (λ on. (x, ap (λ b. cond b (Some x) (find p xs)) on))
    (λ off.
    let later = some-found p xs (sym (ap (λ b. b || list_any p xs) off) ∙ h) in
    (later.0, ap (λ b. cond b (Some x) (find p xs)) off ∙ later.1))

both-same : (a b : Bool) → (a ≡ true → b ≡ true) → (b ≡ true → a ≡ true) → a ≡ b
both-same true b f g = sym (f refl)
both-same false true f g = g refl
both-same false false f g = refl

and-off : (a : Bool) → (a && false) ≡ false
and-off true = refl
and-off false = refl

-- ---- A work item is found under its own work key

itself : (rows : List WorkRow) → AllApart rows → Each (λ row. find (is_work_of row.execution (work_key row)) rows ≡ Some row) rows
itself [] h = tt
itself (r ∷ rs) h =
    let here : is_work_of r.execution (work_key r) r ≡ true =
    ap (λ b. b && is_same_key (work_key r) (work_key r)) (eq-eqb r.execution r.execution refl) ∙ same-self (work_key r) (work_key r) refl in (
      ap (λ b. cond b (Some r) (find (is_work_of r.execution (work_key r)) rs)) here,
      each-both (Apart r) (λ row. find (is_work_of row.execution (work_key row)) rs ≡ Some row) (λ row. find (is_work_of row.execution (work_key row)) (r ∷ rs) ≡ Some row) rs
          (λ s apart found.
          let off : is_work_of s.execution (work_key s) r ≡ false =
          on-it (r.execution == s.execution)
          (λ on. ap (λ b. b && is_same_key (work_key r) (work_key s)) on
          ∙ differing-keys (work_key r) (work_key s) (λ same. apart (sym (eqb-true r.execution s.execution on)) (sym same)))
          (λ other. ap (λ b. b && is_same_key (work_key r) (work_key s)) other) in
          ap (λ b. cond b (Some r) (find (is_work_of s.execution (work_key s)) rs)) off ∙ found) h.0 (itself rs h.1),
    )

-- ---- What is known of each partition

-- what a plan says of a partition of a step that it neither carries nor bars
step-kept : (carried : Option (List ℕ)) (all kept : Bool) (worked : Fact) (barred : Bool) → carried ≡ None → all ≡ false → kept ≡ true
    → step_fact carried all kept worked barred ≡ FactCarried (status_name Completed)
step-kept carried all kept worked barred free unbarred is =
    ap (λ c. step_fact c all kept worked barred) free ∙ (ap (λ b. step_fact None b kept worked barred) unbarred ∙ ap (λ b. step_fact None false b worked barred) is)

unbarred-same : (worked : Fact) → unless_barred worked false ≡ worked
unbarred-same FactNothing = refl
unbarred-same FactBusy = refl
unbarred-same (FactOver outcome exit) = refl
unbarred-same (FactCarried exit) = refl
unbarred-same FactBarred = refl

step-worked : (carried : Option (List ℕ)) (all kept : Bool) (worked : Fact) (barred : Bool) → carried ≡ None → all ≡ false → kept ≡ false → barred ≡ false
    → step_fact carried all kept worked barred ≡ worked
step-worked carried all kept worked barred free unbarred is none =
    ap (λ c. step_fact c all kept worked barred) free
    ∙ (ap (λ b. step_fact None b kept worked barred) unbarred
    ∙ (ap (λ b. step_fact None false b worked barred) is
    ∙ (ap (unless_barred worked) none ∙ unbarred-same worked)))

kept-fact : (plan : Plan) (leaves : List Leaf) (worked : WorkKey → Fact) (key : WorkKey) (task : Task) (n : ℕ) → runnable_with leaves key ≡ Some (RunsStep task)
    → partitions_with leaves key ≡ Some n → carried_exit plan.carried key.element ≡ None → is_among plan.barred key.element ≡ false → is_kept plan key ≡ true
    → planned_facts plan leaves worked key ≡ FactCarried (status_name Completed)
kept-fact plan leaves worked key task n runs partitions free unbarred is =
    ap (λ (o : Option ℕ). runnable_fact plan o key (worked key) (runnable_with leaves key)) partitions
    ∙ (ap (runnable_fact plan (Some n) key (worked key)) runs
    ∙ step-kept (carried_exit plan.carried key.element) (bars_kept plan key.element (Some n)) (is_kept plan key) (worked key) (is_among plan.barred key.element) free
    (ap (λ b. b && keeps_each plan key.element (Some n)) unbarred) is)

worked-fact : (plan : Plan) (leaves : List Leaf) (worked : WorkKey → Fact) (key : WorkKey) (task : Task) (n : ℕ) → runnable_with leaves key ≡ Some (RunsStep task)
    → partitions_with leaves key ≡ Some n → carried_exit plan.carried key.element ≡ None → is_among plan.barred key.element ≡ false → is_kept plan key ≡ false
    → planned_facts plan leaves worked key ≡ worked key
worked-fact plan leaves worked key task n runs partitions free unbarred is =
    ap (λ (o : Option ℕ). runnable_fact plan o key (worked key) (runnable_with leaves key)) partitions
    ∙ (ap (runnable_fact plan (Some n) key (worked key)) runs
    ∙ step-worked (carried_exit plan.carried key.element) (bars_kept plan key.element (Some n)) (is_kept plan key) (worked key) (is_among plan.barred key.element) free
    (ap (λ b. b && keeps_each plan key.element (Some n)) unbarred) is unbarred)

-- a partition is kept, or is over
abbrev Through : Plan → List WorkRow → ℕ → List ℕ → ℕ → Type 0
Through plan rows x step q =
    (is_kept plan (key_of step q) ≡ true) ⊎ ((work : WorkRow) × (find (is_work_of x (key_of step q)) rows ≡ Some work) × (is_busy work.state ≡ false))

-- all that is known of a step of which each partition is through
record AllThrough (catalogue : List JobTree) (past : List Entry) (m : Made) (step : List ℕ) (n : ℕ) (task : Task) : Type 0 where
  part : IsPartitionedOf (job_named catalogue m.job) step n task
  each : Each (IsItem catalogue past m step n task) (items past m.execution step)
  own : Each (λ row. find (is_work_of m.execution (work_key row)) (works_of past) ≡ Some row) (items past m.execution step)
  free : carried_exit (plan_kept catalogue past m.execution).carried step ≡ None
  unbarred : is_among (plan_kept catalogue past m.execution).barred step ≡ false
  through : (q : ℕ) → q < n → Through (plan_kept catalogue past m.execution) (works_of past) m.execution step q

abbrev facts_at : List JobTree → List Entry → Made → JobTree → WorkKey → Fact
facts_at catalogue past m tree = planned_facts (plan_kept catalogue past m.execution) (all_leaves tree.elements) (facts_by_work m.execution (works_of past))

kept-there : (catalogue : List JobTree) (past : List Entry) (m : Made) (step : List ℕ) (n : ℕ) (task : Task) (t : AllThrough catalogue past m step n task) (q : ℕ) → q < n
    → is_kept (plan_kept catalogue past m.execution) (key_of step q) ≡ true
    → facts_at catalogue past m t.part.tree (key_of step q) ≡ FactCarried (status_name Completed)
kept-there catalogue past m step n task t q lt is =
    let leaf = partition-there (all_leaves t.part.tree.elements) step n task t.part.step_there q lt in
    kept-fact (plan_kept catalogue past m.execution) (all_leaves t.part.tree.elements) (facts_by_work m.execution (works_of past)) (key_of step q) task n
    (ap (option_map (λ (l : Leaf). l.runs)) leaf ∙ ap (λ (r : Runnable). Some r) t.part.step_there.runs)
    (ap (option_and_then (λ (l : Leaf). l.partitions)) leaf ∙ t.part.step_there.partitions) t.free t.unbarred is

worked-there : (catalogue : List JobTree) (past : List Entry) (m : Made) (step : List ℕ) (n : ℕ) (task : Task) (t : AllThrough catalogue past m step n task) (q : ℕ) → q < n
    → is_kept (plan_kept catalogue past m.execution) (key_of step q) ≡ false
    → (work : WorkRow) → find (is_work_of m.execution (key_of step q)) (works_of past) ≡ Some work
    → facts_at catalogue past m t.part.tree (key_of step q) ≡ fact_of_state work.state
worked-there catalogue past m step n task t q lt is work found =
    let leaf = partition-there (all_leaves t.part.tree.elements) step n task t.part.step_there q lt in
    worked-fact (plan_kept catalogue past m.execution) (all_leaves t.part.tree.elements) (facts_by_work m.execution (works_of past)) (key_of step q) task n
    (ap (option_map (λ (l : Leaf). l.runs)) leaf ∙ ap (λ (r : Runnable). Some r) t.part.step_there.runs)
    (ap (option_and_then (λ (l : Leaf). l.partitions)) leaf ∙ t.part.step_there.partitions) t.free t.unbarred is
    ∙ ap fact_by_work found

-- the work item of a partition is one of the step's
work-item : (past : List Entry) (x : ℕ) (step : List ℕ) (q : ℕ) (work : WorkRow) → find (is_work_of x (key_of step q)) (works_of past) ≡ Some work
    → (find (is_work_of x (key_of step q)) (items past x step) ≡ Some work) × (work_key work ≡ key_of step q)
work-item past x step q work found =
    let both = and_parts (work.execution == x) (is_same_key (work_key work) (key_of step q)) (found-passes (is_work_of x (key_of step q)) (works_of past) work found) in
    let same : work_key work ≡ key_of step q = same-one (work_key work) (key_of step q) both.1 in
    let on : is_item x step work ≡ true =
    ap (λ b. b && bytes_eq work.element step) both.0 ∙ (bytes_decides work.element step).1 (ap (λ (k : WorkKey). k.element) same) in
    (found-within (is_item x step) (is_work_of x (key_of step q)) (works_of past) work found on, same)

-- ---- Nothing is left or busy

idle-over : (F : Fact → Bool) (state : WorkState) → ((o : WorkOutcome) (exit : List ℕ) → F (FactOver o exit) ≡ false) → is_busy state ≡ false → F (fact_of_state state) ≡ false
idle-over F Busy f h = cc
idle-over F (Over outcome exit) f h = f outcome exit

none-so : (catalogue : List JobTree) (past : List Entry) (m : Made) (step : List ℕ) (n : ℕ) (task : Task) (t : AllThrough catalogue past m step n task) (F : Fact → Bool)
    → ((exit : List ℕ) → F (FactCarried exit) ≡ false) → ((o : WorkOutcome) (exit : List ℕ) → F (FactOver o exit) ≡ false) → (q : ℕ) → q < n
    → F (facts_at catalogue past m t.part.tree (key_of step q)) ≡ false
none-so catalogue past m step n task t F carried ended q lt =
    on-it (is_kept (plan_kept catalogue past m.execution) (key_of step q))
    (λ is. ap F (kept-there catalogue past m step n task t q lt is) ∙ carried (status_name Completed))
    (λ no.
    elim (t.through q lt) [
      | inl is ↦ absurd (let bad : true ≡ false = sym is ∙ no in cc)
      | inr work ↦ ap F (worked-there catalogue past m step n task t q lt no work.0 work.1) ∙ idle-over F work.0.state ended work.2
    ])

-- whether something is so of a partition, by the facts of a walk
has-fact : (test : Fact → Bool) (facts : WorkKey → Fact) (step : List ℕ) (qs : List ℕ)
    → has_fact test (known_of facts (map (key_of step) qs)) ≡ list_any (λ q. test (facts (key_of step q))) qs
has-fact test facts step [] = refl
has-fact test facts step (q ∷ qs) = ap (λ b. test (facts (key_of step q)) || b) (has-fact test facts step qs)

none-fact : (catalogue : List JobTree) (past : List Entry) (m : Made) (step : List ℕ) (n : ℕ) (task : Task) (t : AllThrough catalogue past m step n task) (F : Fact → Bool)
    → ((exit : List ℕ) → F (FactCarried exit) ≡ false) → ((o : WorkOutcome) (exit : List ℕ) → F (FactOver o exit) ≡ false)
    → has_fact F (known_of (facts_at catalogue past m t.part.tree) (keys_of_step step (Some n))) ≡ false
none-fact catalogue past m step n task t F carried ended =
    has-fact F (facts_at catalogue past m t.part.tree) step (numbers_to n)
    ∙ none-numbers (λ q. F (facts_at catalogue past m t.part.tree (key_of step q))) 0 n
    (λ q le lt. none-so catalogue past m step n task t F carried ended q (omega (arith, lt)))

none-left : (catalogue : List JobTree) (past : List Entry) (m : Made) (step : List ℕ) (n : ℕ) (task : Task) → AllThrough catalogue past m step n task
    → leaves_some catalogue past m.execution step n ≡ false
none-left catalogue past m step n task t =
    let plan : Plan = plan_kept catalogue past m.execution in
    let these : List WorkRow = items past m.execution step in
    none-numbers (is_left plan step these) 0 n
    (λ q le lt.
    elim (t.through q (omega (arith, lt))) [
      | inl is ↦ ap (λ b. not b && not (list_any (λ (row : WorkRow). is_at q row.partition) these)) is
      | inr work ↦
          let of = work-item past m.execution step q work.0 work.1 in
          let item : IsItem catalogue past m step n task work.0 = each-found (IsItem catalogue past m step n task) (is_work_of m.execution (key_of step q)) these work.0 t.each of.0 in
          let at : is_at q work.0.partition ≡ true =
          ap (is_at q) item.is_partition ∙ eq-eqb (work_key work.0).partition q (ap (λ (k : WorkKey). k.partition) of.1) in
          ap (λ b. not (is_kept plan (key_of step q)) && not b) (any-found (λ (row : WorkRow). is_at q row.partition) (is_work_of m.execution (key_of step q)) these work.0 of.0 at)
          ∙ and-off (not (is_kept plan (key_of step q)))
    ])

own-key : (row : WorkRow) (step : List ℕ) → row.element ≡ step → work_key row ≡ key_of step (work_key row).partition
own-key row step is = ap (λ i. key_of i (work_key row).partition) is

none-busy : (catalogue : List JobTree) (past : List Entry) (m : Made) (step : List ℕ) (n : ℕ) (task : Task) → AllThrough catalogue past m step n task
    → list_any (λ (row : WorkRow). is_busy row.state) (items past m.execution step) ≡ false
none-busy catalogue past m step n task t =
    none-of-each (λ row. IsItem catalogue past m step n task row × (find (is_work_of m.execution (work_key row)) (works_of past) ≡ Some row)) (λ row. is_busy row.state) (items past m.execution step)
    (λ row both.
    let item : IsItem catalogue past m step n task row = both.0 in
    let q : ℕ = (work_key row).partition in
    let named : work_key row ≡ key_of step q = own-key row step item.element in
    elim (t.through q item.of.below) [
      | inl is ↦ absurd (let bad : true ≡ false = sym is ∙ (ap (is_kept (plan_kept catalogue past m.execution)) (sym named) ∙ item.step_work.unkept) in cc)
      | inr work ↦
          let same : work.0 ≡ row = let two : Some work.0 ≡ Some row = sym work.1 ∙ (ap (λ k. find (is_work_of m.execution k) (works_of past)) (sym named) ∙ both.1) in cc in
          ap (λ (z : WorkRow). is_busy z.state) (sym same) ∙ work.2
    ])
    (each-both (IsItem catalogue past m step n task) (λ row. find (is_work_of m.execution (work_key row)) (works_of past) ≡ Some row) _ (items past m.execution step) (λ row a b. (a, b)) t.each t.own)

-- ---- The strongest outcome

-- a partition is so exactly where its work item is
same-any : (catalogue : List JobTree) (past : List Entry) (m : Made) (step : List ℕ) (n : ℕ) (task : Task) (t : AllThrough catalogue past m step n task)
    → (F : Fact → Bool) (S : WorkState → Bool) → ((exit : List ℕ) → F (FactCarried exit) ≡ false) → ((state : WorkState) → F (fact_of_state state) ≡ S state)
    → has_fact F (known_of (facts_at catalogue past m t.part.tree) (keys_of_step step (Some n))) ≡ list_any (λ (row : WorkRow). S row.state) (items past m.execution step)
same-any catalogue past m step n task t F S carried alike =
    let plan : Plan = plan_kept catalogue past m.execution in
    let facts : WorkKey → Fact = facts_at catalogue past m t.part.tree in
    let these : List WorkRow = items past m.execution step in
    has-fact F facts step (numbers_to n)
    ∙ both-same (list_any (λ q. F (facts (key_of step q))) (numbers_to n)) (list_any (λ (row : WorkRow). S row.state) these)
    (λ on.
    let some = some-number (λ q. F (facts (key_of step q))) 0 n on in
    let q : ℕ = some.0 in
    let lt : q < n = let below = some.2 in omega (arith, below) in
    on-it (is_kept plan (key_of step q))
    (λ is. absurd (let bad : true ≡ false = sym some.3 ∙ (ap F (kept-there catalogue past m step n task t q lt is) ∙ carried (status_name Completed)) in cc))
    (λ no.
    elim (t.through q lt) [
      | inl is ↦ absurd (let bad : true ≡ false = sym is ∙ no in cc)
      | inr work ↦
          let of = work-item past m.execution step q work.0 work.1 in
          let so : S work.0.state ≡ true = sym (alike work.0.state) ∙ (sym (ap F (worked-there catalogue past m step n task t q lt no work.0 work.1)) ∙ some.3) in
          any-found (λ (row : WorkRow). S row.state) (is_work_of m.execution (key_of step q)) these work.0 of.0 so
    ]))
    (λ on.
    let some = some-found (λ (row : WorkRow). S row.state) these on in
    let row : WorkRow = some.0 in
    let item : IsItem catalogue past m step n task row = each-found (IsItem catalogue past m step n task) (λ (row : WorkRow). S row.state) these row t.each some.1 in
    let own : find (is_work_of m.execution (work_key row)) (works_of past) ≡ Some row =
    each-found (λ row. find (is_work_of m.execution (work_key row)) (works_of past) ≡ Some row) (λ (row : WorkRow). S row.state) these row t.own some.1 in
    let q : ℕ = (work_key row).partition in
    let named : work_key row ≡ key_of step q = own-key row step item.element in
    let fact : facts (key_of step q) ≡ fact_of_state row.state =
    worked-there catalogue past m step n task t q item.of.below (ap (is_kept plan) (sym named) ∙ item.step_work.unkept) row
    (ap (λ k. find (is_work_of m.execution k) (works_of past)) (sym named) ∙ own) in
    any-number (λ q. F (facts (key_of step q))) 0 n q (omega arith) (let lt = item.of.below in omega (arith, lt))
    (ap F fact ∙ (alike row.state ∙ found-passes (λ (row : WorkRow). S row.state) these row some.1)))

failed-alike : (state : WorkState) → IsFailedFact (fact_of_state state) ≡ is_failed state
failed-alike Busy = refl
failed-alike (Over CameCompleted exit) = refl
failed-alike (Over CameFailed exit) = refl
failed-alike (Over CameStopped exit) = refl

stopped-alike : (state : WorkState) → IsStoppedFact (fact_of_state state) ≡ is_stopped state
stopped-alike Busy = refl
stopped-alike (Over CameCompleted exit) = refl
stopped-alike (Over CameFailed exit) = refl
stopped-alike (Over CameStopped exit) = refl

abbrev outcome_of : Bool → Bool → WorkOutcome
outcome_of failed stopped = cond failed CameFailed (cond stopped CameStopped CameCompleted)

over-outcome : (failed stopped : Bool) → cond failed Failed (cond stopped Stopped Completed) ≡ outcome_status (outcome_of failed stopped)
over-outcome true stopped = refl
over-outcome false true = refl
over-outcome false false = refl

open-over : (known : List Known) → has_fact IsLeftFact known ≡ false → has_fact IsBusyFact known ≡ false
    → open_or_over known ≡ named_outcome (strongest_outcome known)
open-over known unleft idle =
    ap (λ b. cond (b || has_fact IsBusyFact known) (ListValue (Open (keys_with IsLeftFact known) (keys_with IsBusyFact known))) (named_outcome (strongest_outcome known))) unleft
    ∙ ap (λ b. cond b (ListValue (Open (keys_with IsLeftFact known) (keys_with IsBusyFact known))) (named_outcome (strongest_outcome known))) idle

-- what the walk gives the step
walk-result : (catalogue : List JobTree) (past : List Entry) (m : Made) (step : List ℕ) (n : ℕ) (task : Task) (t : AllThrough catalogue past m step n task)
    → step_result (facts_at catalogue past m t.part.tree) step (Some n)
    ≡ named_outcome (outcome_of (list_any (λ (row : WorkRow). is_failed row.state) (items past m.execution step)) (list_any (λ (row : WorkRow). is_stopped row.state) (items past m.execution step)))
walk-result catalogue past m step n task t =
    let known : List Known = known_of (facts_at catalogue past m t.part.tree) (keys_of_step step (Some n)) in
    let unbarred : has_fact IsBarredFact known ≡ false = none-fact catalogue past m step n task t IsBarredFact (λ exit. refl) (λ o exit. refl) in
    let unleft : has_fact IsLeftFact known ≡ false = none-fact catalogue past m step n task t IsLeftFact (λ exit. refl) (λ o exit. refl) in
    let idle : has_fact IsBusyFact known ≡ false = none-fact catalogue past m step n task t IsBusyFact (λ exit. refl) (λ o exit. refl) in
    let failed = same-any catalogue past m step n task t IsFailedFact is_failed (λ exit. refl) failed-alike in
    let stopped = same-any catalogue past m step n task t IsStoppedFact is_stopped (λ exit. refl) stopped-alike in
    ap (λ b. cond b (ListValue (Ended Failed (status_name Failed) None)) (open_or_over known)) unbarred
    ∙ (open-over known unleft idle
    ∙ (ap (λ b. named_outcome (cond b CameFailed (cond (has_fact IsStoppedFact known) CameStopped CameCompleted))) failed
    ∙ ap (λ b. named_outcome (cond (list_any (λ (row : WorkRow). is_failed row.state) (items past m.execution step)) CameFailed (cond b CameStopped CameCompleted))) stopped))

-- ---- The law

first-of : (catalogue : List JobTree) (past : List Entry) (m : Made) (step : List ℕ) (n : ℕ) (task : Task) (rows : List WorkRow) → has_some rows ≡ true
    → Each (IsItem catalogue past m step n task) rows → (row : WorkRow) × IsItem catalogue past m step n task row
first-of catalogue past m step n task [] some h = cc
first-of catalogue past m step n task (r ∷ rs) some h = (r, h.0)

through-there : (limit : ℕ) (h : History) → IsLegal limit h → (m : Made) (step : List ℕ) (q : ℕ) → IsThrough h (execution_row h.catalogue (reverse h.log) m) step q
    → Through (plan_kept h.catalogue (reverse h.log) m.execution) (works_of (reverse h.log)) m.execution step q
through-there limit h legal m step q (inl is) = inl is
through-there limit h legal m step q (inr over) =
    let works : works_in h ≡ works_of (reverse h.log) = works-law (reverse h.log) (due-all-fit limit h.catalogue (reverse h.log) (past-due limit h legal)) in
    inr (over.work, ap (find (is_work_of m.execution (key_of step q))) (sym works) ∙ over.found, over.idle)

stops : (unfinished left : Bool) (rows : List WorkRow) → list_any (λ (row : WorkRow). is_busy row.state) rows ≡ false → left ≡ false → goes_on unfinished left rows ≡ false
stops unfinished left rows idle none = ap (λ b. b || (left && unfinished)) idle ∙ ap (λ b. b && unfinished) none

all-through : (limit : ℕ) (h : History) → IsLegal limit h → (m : Made) (step : List ℕ) (n : ℕ) (task : Task)
    → find (is_made m.execution) (made (reverse h.log)) ≡ Some m → IsPartitionedOf (job_named h.catalogue m.job) step n task
    → has_some (items (reverse h.log) m.execution step) ≡ true
    → ((q : ℕ) → q < n → IsThrough h (execution_row h.catalogue (reverse h.log) m) step q) → AllThrough h.catalogue (reverse h.log) m step n task
all-through limit h legal m step n task found part some through =
    let past : List Entry = reverse h.log in
    let due : AllDue limit h.catalogue past = past-due limit h legal in
    let each = each-item limit h.catalogue past m step n task due found part in
    let first = first-of h.catalogue past m step n task (items past m.execution step) some each in
    record {
      part = part;
      each = each;
      own = each-filter (λ row. find (is_work_of row.execution (work_key row)) (works_of past) ≡ Some row) (λ row. find (is_work_of m.execution (work_key row)) (works_of past) ≡ Some row)
          (is_item m.execution step) (works_of past)
          (λ row on own. ap (λ x. find (is_work_of x (work_key row)) (works_of past)) (sym (eqb-true row.execution m.execution (and_parts (row.execution == m.execution) (bytes_eq row.element step) on).0)) ∙ own)
          (itself (works_of past) (kept limit h.catalogue past due).apart);
      free = ap (carried_exit (plan_kept h.catalogue past m.execution).carried) (sym first.1.element) ∙ first.1.step_work.uncarried;
      unbarred = ap (is_among (plan_kept h.catalogue past m.execution).barred) (sym first.1.element) ∙ first.1.step_work.unbarred;
      through = λ q lt. through-there limit h legal m step q (through q lt);
    }

pub has_result : (limit : ℕ) (h : History) → IsLegal limit h → AreJobs h.catalogue → (x n : ℕ) (step : List ℕ) → (p : IsPartitioned h x step n)
    → (shown : StepExecution) → step_in h x step ≡ Some shown → ((q : ℕ) → q < n → IsThrough h p.owner step q) → HasResult h p.owner step n shown
has_result limit h legal jobs x n step p shown is through =
    let past : List Entry = reverse h.log in
    let by : IsShown h x step n = shown-by limit h legal jobs x step n p in
    let m : Made = by.one in
    let owner : p.owner ≡ execution_row h.catalogue past m = by.is_row p.owner p.found in
    let s : Shows h.catalogue past m step n shown = shows limit h legal m step n by.task by.found by.part shown (ap (λ y. step_in h y step) by.number ∙ is) in
    let t : AllThrough h.catalogue past m step n by.task =
    all-through limit h legal m step n by.task by.found by.part s.some (λ q lt. subst (λ (r : ExecutionRow). IsThrough h r step q) owner (through q lt)) in
    let rows : List WorkRow = items past m.execution step in
    let failed : Bool = list_any (λ (row : WorkRow). is_failed row.state) rows in
    let stopped : Bool = list_any (λ (row : WorkRow). is_stopped row.state) rows in
    let left : leaves_some h.catalogue past m.execution step n ≡ false = none-left h.catalogue past m step n by.task t in
    let off : goes_on (is_running h.catalogue past m) (leaves_some h.catalogue past m.execution step n) rows ≡ false =
    stops (is_running h.catalogue past m) (leaves_some h.catalogue past m.execution step n) rows (none-busy h.catalogue past m step n by.task t) left in
    let over : status_over (leaves_some h.catalogue past m.execution step n) rows ≡ outcome_status (outcome_of failed stopped) =
    ap (λ b. cond failed Failed (cond (b || stopped) Stopped Completed)) left ∙ over-outcome failed stopped in
    let works : works_in h ≡ works_of past = works-law past (due-all-fit limit h.catalogue past (past-due limit h legal)) in
    record {
      outcome = outcome_of failed stopped;
      result = ap (λ (r : ExecutionRow). result_in h r step n) owner
          ∙ (ap (λ w. step_result (facts_of_job (plan_kept h.catalogue past m.execution) (facts_by_work m.execution w) (job_named h.catalogue m.job)) step (Some n)) works
          ∙ (ap (λ j. step_result (facts_of_job (plan_kept h.catalogue past m.execution) (facts_by_work m.execution (works_of past)) j) step (Some n)) t.part.is
          ∙ walk-result h.catalogue past m step n by.task t));
      status = s.status ∙ (ap (λ b. cond b Started (status_over (leaves_some h.catalogue past m.execution step n) rows)) off ∙ over);
      exit = s.exit ∙ (ap (λ b. cond b None (Some (status_name (status_over (leaves_some h.catalogue past m.execution step n) rows)))) off
          ∙ ap (λ status. Some (status_name status)) over);
    }
