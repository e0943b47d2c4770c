-- What the work items of every legal history keep: each is of a job execution that was made and taken up, a busy one is
-- under way in its walk, and no work key of a job execution has two.
use Rattle.std.proofs.Common.{◌≡◌, ◌≢◌, ◌⊎◌, inl, inr, ℕ, ◌+◌, ◌==◌, Bool, true, false, Option, None, Some, is_some, unwrap_or, List, [], ◌∷◌, ◌++◌, length, find, refl, sym, ◌∙◌, ap, subst}
use Rattle.std.specs.Option.{option_map}
use Rattle.std.proofs.lemmas.Bool.{eqb-true, eq-eqb}
use Rattle.batch_ids.specs.Metrics.{zero_step}
use Rattle.batch_ids.specs.declared.metric_step.MetricStep.{MetricStep}
use Rattle.batch_ids.specs.declared.status.WorkOutcome.{WorkOutcome}
use Rattle.batch_ids.specs.declared.status.WorkOutcome.TheVariants.{Failed}
use Rattle.jsl_model.specs.Jobs.{JobTree}
use Rattle.walk_rules.specs.declared.work_key.WorkKey.{WorkKey}
use Rattle.walk_rules.specs.declared.facts.Fact.{Fact}
use Rattle.job_plans.specs.Runnables.{all_leaves, runnable_with}
use Rattle.walk_rules.specs.Keys.{is_same_key}
use Rattle.walk_rules.specs.Walk.{is_busy}
use Rattle.walk_rules.proofs.SameKeys.{same-self}
use Rattle.walk_rules.specs.declared.facts.Fact.TheVariants.{Nothing as FactNothing, Busy as FactBusy, Over as FactOver, Carried as FactCarried, Barred as FactBarred}
use Rattle.job_plans.specs.declared.plan.Plan.{Plan}
use Rattle.walk_rules.specs.declared.facts.Value.{Value}
use Rattle.walk_rules.specs.declared.facts.Value.TheVariants.{Open, Done as IsDone, Ended}
use Rattle.batch_history.specs.NextRows.{reported, over}
use Rattle.batch_history.specs.declared.call.Call.{Call}
use Rattle.batch_history.specs.declared.call.Call.TheVariants.{Start, Restart, Stop, Abandon, Claim, Checkpoint, Finish, Lose, Purge}
use Rattle.batch_history.specs.declared.call.Reply.{Reply}
use Rattle.batch_history.specs.declared.call.Reply.TheVariants.{Work, Closed}
use Rattle.batch_history.specs.declared.call.Entry.{Entry}
use Rattle.batch_history.specs.declared.rows.WorkRow.{WorkRow}
use Rattle.batch_history.specs.declared.rows.WorkState.TheVariants.{Busy}
use Rattle.batch_history.proofs.Folds.{made, is_made, works_of, start_of, value_after, plan_kept, folded_rows, execution_row, makes}
use Rattle.batch_history.specs.Executions.{Made}
use Rattle.batch_history.specs.Lists.{is_at, change_first, Each}
use Rattle.batch_history.specs.Moments.{first_moment}
use Rattle.batch_history.specs.Operations.{taken_up}
use Rattle.batch_history.specs.Replies.{partition_named, partitions_of_job, first_ready, walk_in_rows, has_something, claim_reply, next_work_item}
use Rattle.batch_history.specs.Rows.{Rows}
use Rattle.batch_history.specs.Walks.{job_named, planned_facts, walk_of, walk_value, facts_by_work, fact_of_state}
use Rattle.batch_history.proofs.Knowing.{facts-same}
use Rattle.batch_history.specs.Works.{is_work, busy_work, work_key, Apart, AllApart}
use Rattle.batch_history.proofs.Stepping.{known-append, known-change, known-reported, begun-by, planned-by}
use Rattle.batch_history.proofs.Planned.{planned-differ, planned-nothing, planned-busy, planned-reported}
use Rattle.batch_history.proofs.Runs.{walk-runs, key-named}
use Rattle.batch_history.proofs.Sights.{Sight, ready_sight, busy_sight, no_sight, seen, GoesOn, Learns, walk-goes, claim-here, claim-away, report-away, DifferAt, is_known, known-unready, idle-unseen}
use Rattle.batch_history.proofs.WorkLists.{each-map, each-append, each-found, each-change, each-report, apart-append, apart-change, unknown-away, new-differs, new-fact, over-differs, over-fact}
use Rattle.batch_history.proofs.Told.{Due, AllDue, IsRowOf, row-of, made-once, made-more, made-number, ToldClaim, claim-told, ToldReport, finish-told, loss-told}

-- ---- The walk of a job execution

same-goes : (s : Sight) (key : WorkKey) (v : Value) → GoesOn s s key v v
same-goes s key v = record { same = λ _. refl; kept = λ h. h }

-- what is known of the steps and decisions of a job
abbrev pub facts_of : Plan → (WorkKey → Fact) → JobTree → WorkKey → Fact
facts_of plan worked tree = planned_facts plan (all_leaves tree.elements) worked

nothing-goes : (s t : Sight) (key : WorkKey) (exit : List ℕ) → GoesOn s t key (IsDone exit) (IsDone exit)
nothing-goes s t key exit = record { same = λ _. refl; kept = λ h. cc }

-- a job execution's walk goes on as what is learnt
pub walk_of-goes : (s t : Sight) (key : WorkKey) (plan : Plan) (worked later : WorkKey → Fact) (job : Option JobTree)
    → ((tree : JobTree) → job ≡ Some tree → Learns s t key (facts_of plan worked tree) (facts_of plan later tree))
    → GoesOn s t key (walk_of plan worked job) (walk_of plan later job)
walk_of-goes s t key plan worked later None learns = nothing-goes s t key []
walk_of-goes s t key plan worked later (Some tree) learns =
    walk-goes s t key (facts_of plan worked tree) (facts_of plan later tree) (learns tree refl) tree.elements plan.from

none-seen : (key : WorkKey) (v : Value) → seen no_sight key v ≡ false
none-seen key (Open ready busy) = refl
none-seen key (IsDone exit) = refl
none-seen key (Ended status exit point) = refl

-- the first ready work key is ready
pub first-seen : (key : WorkKey) (v : Value) → first_ready v ≡ Some key → seen ready_sight key v ≡ true
first-seen key (Open (i ∷ ready) busy) h =
    let same : i ≡ key = cc in
    let here : is_same_key key i ≡ true = same-self key i (sym same) in
    rw here refl
first-seen key (Open [] busy) h = cc
first-seen key (IsDone exit) h = cc
first-seen key (Ended status exit point) h = cc

-- a work key of a job of which nothing is known
pub record IsUnknown (plan : Plan) (worked : WorkKey → Fact) (job : Option JobTree) (key : WorkKey) : Type 0 where
  pub tree : JobTree
  pub is : job ≡ Some tree
  pub runs : is_some (runnable_with (all_leaves tree.elements) key) ≡ true
  pub unknown : facts_of plan worked tree key ≡ FactNothing

known-or-not : (fact : Fact) → (fact ≡ FactNothing) ⊎ (is_known fact ≡ true)
known-or-not FactNothing = inl refl
known-or-not FactBusy = inr refl
known-or-not (FactOver outcome exit) = inr refl
known-or-not (FactCarried exit) = inr refl
known-or-not FactBarred = inr refl

-- nothing is known of what is ready
pub ready-unknown : (plan : Plan) (worked : WorkKey → Fact) (job : Option JobTree) (key : WorkKey) → first_ready (walk_of plan worked job) ≡ Some key
    → IsUnknown plan worked job key
ready-unknown plan worked None key h = cc
ready-unknown plan worked (Some tree) key h =
    let shown : seen ready_sight key (walk_of plan worked (Some tree)) ≡ true = first-seen key (walk_of plan worked (Some tree)) h in
    elim (known-or-not (facts_of plan worked tree key)) [
      | inl nothing ↦ record { tree = tree; is = refl; runs = walk-runs ready_sight key plan worked tree shown; unknown = nothing }
      | inr known ↦
          let none = (walk-goes ready_sight no_sight key (facts_of plan worked tree) (facts_of plan worked tree) (known-unready key (facts_of plan worked tree) known) tree.elements plan.from).kept shown in
          let unseen = none-seen key (walk_of plan worked (Some tree)) in
          absurd (let no : true ≡ false = sym none ∙ unseen in cc)
    ]

-- there is no work item of it
pub unknown-unworked : (plan : Plan) (worked : WorkKey → Fact) (job : Option JobTree) (key : WorkKey) → IsUnknown plan worked job key → worked key ≡ FactNothing
unknown-unworked plan worked job key u = planned-nothing plan (all_leaves u.tree.elements) worked key u.runs u.unknown

same-tree : (job : Option JobTree) (one two : JobTree) → job ≡ Some one → job ≡ Some two → one ≡ two
same-tree job one two h k = let both : Some one ≡ Some two = sym h ∙ k in cc

unknown-in : (plan : Plan) (worked : WorkKey → Fact) (job : Option JobTree) (key : WorkKey) (tree : JobTree) → IsUnknown plan worked job key → job ≡ Some tree
    → facts_of plan worked tree key ≡ FactNothing
unknown-in plan worked job key tree u is =
    subst (λ t. facts_of plan worked t key ≡ FactNothing) (same-tree job u.tree tree u.is is) u.unknown

runs-in : (plan : Plan) (worked : WorkKey → Fact) (job : Option JobTree) (key : WorkKey) (tree : JobTree) → IsUnknown plan worked job key → job ≡ Some tree
    → is_some (runnable_with (all_leaves tree.elements) key) ≡ true
runs-in plan worked job key tree u is =
    subst (λ (t : JobTree). is_some (runnable_with (all_leaves t.elements) key) ≡ true) (same-tree job u.tree tree u.is is) u.runs

busy-or-not : (fact : Fact) → (fact ≡ FactBusy) ⊎ (is_busy fact ≡ false)
busy-or-not FactBusy = inl refl
busy-or-not FactNothing = inr refl
busy-or-not (FactOver outcome exit) = inr refl
busy-or-not (FactCarried exit) = inr refl
busy-or-not FactBarred = inr refl

-- what a walk shows as busy is known as busy
pub shown-busy : (plan : Plan) (worked : WorkKey → Fact) (job : Option JobTree) (key : WorkKey) (tree : JobTree) → job ≡ Some tree
    → seen busy_sight key (walk_of plan worked job) ≡ true → facts_of plan worked tree key ≡ FactBusy
shown-busy plan worked job key tree is h =
    let shown : seen busy_sight key (walk_of plan worked (Some tree)) ≡ true = subst (λ j. seen busy_sight key (walk_of plan worked j) ≡ true) is h in
    elim (busy-or-not (facts_of plan worked tree key)) [
      | inl busy ↦ busy
      | inr idle ↦
          let none = (walk-goes busy_sight no_sight key (facts_of plan worked tree) (facts_of plan worked tree) (idle-unseen key (facts_of plan worked tree) idle) tree.elements plan.from).kept shown in
          let unseen = none-seen key (walk_of plan worked (Some tree)) in
          absurd (let no : true ≡ false = sym none ∙ unseen in cc)
    ]

-- ---- What is kept

pub record IsHeld (catalogue : List JobTree) (past : List Entry) (row : WorkRow) : Type 0 where
  pub one : Made
  pub found : find (is_made row.execution) (made past) ≡ Some one
  pub under_way : row.state ≡ Busy → seen busy_sight (work_key row) (value_after catalogue past one) ≡ true
  pub begun : is_some (start_of past row.execution) ≡ true

pub record IsKept (catalogue : List JobTree) (past : List Entry) : Type 0 where
  pub held : Each (IsHeld catalogue past) (works_of past)
  pub apart : AllApart (works_of past)

begun-earlier : (o : Option ℕ) (b : Bool) (at : ℕ) → is_some o ≡ true → is_some (first_moment o b at) ≡ true
begun-earlier (Some t) b at h = refl
begun-earlier None b at h = cc

-- the value of a walk by these work items
abbrev value_then : List JobTree → List Entry → List WorkRow → Made → Value
value_then catalogue older works m = walk_value catalogue works m.execution m.job (plan_kept catalogue older m.execution)

-- a job execution goes by its plan still
value-then : (s : Sight) (key : WorkKey) (catalogue : List JobTree) (older : List Entry) (e : Entry) (m : Made) → makes (length (made older)) m.execution e.call ≡ false
    → seen s key (value_then catalogue older (works_of (e ∷ older)) m) ≡ true → seen s key (value_after catalogue (e ∷ older) m) ≡ true
value-then s key catalogue older e m made_no h =
    subst (λ p. seen s key (walk_value catalogue (works_of (e ∷ older)) m.execution m.job p) ≡ true) (sym (planned-by catalogue older e m.execution made_no)) h

-- a work item with an entry more, where its walk goes on
held-on : (catalogue : List JobTree) (older : List Entry) (e : Entry) (row : WorkRow) → IsHeld catalogue older row
    → ((m : Made) → m.execution ≡ row.execution → find (is_made m.execution) (made older) ≡ Some m
    → GoesOn busy_sight busy_sight (work_key row) (value_after catalogue older m) (value_then catalogue older (works_of (e ∷ older)) m))
    → IsHeld catalogue (e ∷ older) row
held-on catalogue older e row h goes =
    let x : ℕ = row.execution in
    let number : h.one.execution ≡ x = made-number x older h.one h.found in
    let found : find (is_made h.one.execution) (made older) ≡ Some h.one = subst (λ y. find (is_made y) (made older) ≡ Some h.one) (sym number) h.found in
    record {
      one = h.one;
      found = made-more older e x h.one h.found;
      under_way = λ busy. value-then busy_sight (work_key row) catalogue older e h.one (made-once older h.one.execution h.one e.call found)
          ((goes h.one number found).kept (h.under_way busy));
      begun = ap is_some (begun-by older e x (made-once older x h.one e.call h.found)) ∙ begun-earlier (start_of older x) (is_at x (taken_up e.call e.reply)) e.at h.begun;
    }

-- what is known stays, so does the walk
known-goes : (catalogue : List JobTree) (older : List Entry) (e : Entry) (m : Made) (key : WorkKey)
    → facts_by_work m.execution (works_of (e ∷ older)) ≡ facts_by_work m.execution (works_of older)
    → GoesOn busy_sight busy_sight key (value_after catalogue older m) (value_then catalogue older (works_of (e ∷ older)) m)
known-goes catalogue older e m key same = rw same (same-goes busy_sight key (value_after catalogue older m))

-- an entry that leaves the work items alone
still-kept : (catalogue : List JobTree) (older : List Entry) (e : Entry) → works_of (e ∷ older) ≡ works_of older → IsKept catalogue older → IsKept catalogue (e ∷ older)
still-kept catalogue older e same k =
    record {
      held = rw same (each-map (IsHeld catalogue older) (IsHeld catalogue (e ∷ older)) (works_of older)
          (λ row h. held-on catalogue older e row h (λ m _ _. known-goes catalogue older e m (work_key row) (ap (facts_by_work m.execution) same))) k.held);
      apart = rw same k.apart;
    }

-- ---- A checkpoint

checkpoint-kept : (catalogue : List JobTree) (older : List Entry) (who at w : ℕ) (mark : List ℕ) (step : MetricStep) (reply : Reply) → IsKept catalogue older
    → IsKept catalogue (record { who = who; call = Checkpoint w mark step; at = at; reply = reply } ∷ older)
checkpoint-kept catalogue older who at w mark step reply k =
    let e : Entry = record { who = who; call = Checkpoint w mark step; at = at; reply = reply } in
    let rows : List WorkRow = works_of older in
    record {
      held = each-change (IsHeld catalogue (e ∷ older)) (is_work w) (reported step) rows
          (λ row h. record { one = h.one; found = h.found; under_way = h.under_way; begun = h.begun })
          (each-map (IsHeld catalogue older) (IsHeld catalogue (e ∷ older)) rows
          (λ row h. held-on catalogue older e row h (λ m _ _. known-goes catalogue older e m (work_key row) (facts-same m.execution _ rows (known-reported m.execution (is_work w) step rows)))) k.held);
      apart = apart-change (is_work w) (reported step) (λ r. refl) (λ r. refl) rows k.apart;
    }

-- ---- A finish

-- a job execution, or another
on-or-off : {P : Type 0} (x y : ℕ) → ((x == y) ≡ true → P) → ((x == y) ≡ false → P) → P
on-or-off {P = P} x y on off =
    (elim (x == y) as (λ b. (x == y) ≡ b → P) [
      | true ↦ λ e. on e
      | false ↦ λ e. off e
    ]) refl

over-goes : (catalogue : List JobTree) (older : List Entry) (w : ℕ) (o : WorkOutcome) (t : Option (List ℕ)) (step : MetricStep) (at n : ℕ) (c : WorkRow) (m : Made) (key : WorkKey)
    → find (is_work w) (works_of older) ≡ Some c → c.state ≡ Busy → IsHeld catalogue older c → find (is_made m.execution) (made older) ≡ Some m
    → AllApart (works_of older) → (m.execution ≡ c.execution → key ≢ (work_key c))
    → GoesOn busy_sight busy_sight key (value_after catalogue older m)
    (value_then catalogue older (change_first (is_work w) (over o t step at n) (works_of older)) m)
over-goes catalogue older w o t step at n c m key found busy held made_there apart other =
    let rows : List WorkRow = works_of older in
    let new : List WorkRow = change_first (is_work w) (over o t step at n) rows in
    let plan : Plan = plan_kept catalogue older m.execution in
    on-or-off c.execution m.execution
    (λ on.
    let same : c.execution ≡ m.execution = eqb-true c.execution m.execution on in
    let one : held.one ≡ m = let both : Some held.one ≡ Some m = sym held.found ∙ (ap (λ x. find (is_made x) (made older)) same ∙ made_there) in cc in
    let shown : seen busy_sight (work_key c) (value_after catalogue older m) ≡ true =
    subst (λ n. seen busy_sight (work_key c) (value_after catalogue older n) ≡ true) one (held.under_way busy) in
    walk_of-goes busy_sight busy_sight key plan (facts_by_work m.execution rows) (facts_by_work m.execution new) (job_named catalogue m.job)
    (λ tree is. report-away key (work_key c) (facts_of plan (facts_by_work m.execution rows) tree) (facts_of plan (facts_by_work m.execution new) tree)
    (planned-differ plan (all_leaves tree.elements) (work_key c) (facts_by_work m.execution rows) (facts_by_work m.execution new) (over-differs m.execution (is_work w) rows c o t step at n found))
    (shown-busy plan (facts_by_work m.execution rows) (job_named catalogue m.job) (work_key c) tree is shown)
    (planned-reported plan (all_leaves tree.elements) (facts_by_work m.execution rows) (facts_by_work m.execution new) (work_key c)
    (shown-busy plan (facts_by_work m.execution rows) (job_named catalogue m.job) (work_key c) tree is shown)
    (over-fact m.execution (is_work w) rows c o t step at n found on apart)) (other (sym same))))
    (λ off.
    let is : is_at m.execution (option_map (λ (row : WorkRow). row.execution) (find (is_work w) rows)) ≡ false = rw found off in
    rw (facts-same m.execution _ rows (known-change m.execution (is_work w) o t step at n rows is)) (same-goes busy_sight key (value_after catalogue older m)))

-- what a finish and a loss do
over-kept : (catalogue : List JobTree) (older : List Entry) (e : Entry) (w : ℕ) (o : WorkOutcome) (t : Option (List ℕ)) (step : MetricStep)
    → works_of (e ∷ older) ≡ change_first (is_work w) (over o t step e.at (length older + 1)) (works_of older)
    → ((x : ℕ) → makes (length (made older)) x e.call ≡ false)
    → ToldReport (works_of older) w → IsKept catalogue older → IsKept catalogue (e ∷ older)
over-kept catalogue older e w o t step is made_no told k =
    let rows : List WorkRow = works_of older in
    let c : WorkRow = told.row in
    let was : IsHeld catalogue older c = each-found (IsHeld catalogue older) (is_work w) rows c k.held told.found in
    record {
      held = rw is (each-report (IsHeld catalogue older) (IsHeld catalogue (e ∷ older)) (is_work w) (over o t step e.at (length older + 1)) rows c told.found k.apart k.held
          (record {
            one = was.one;
            found = made-more older e c.execution was.one was.found;
            under_way = λ busy. cc;
            begun = ap is_some (begun-by older e c.execution (made_no c.execution)) ∙ begun-earlier (start_of older c.execution) (is_at c.execution (taken_up e.call e.reply)) e.at was.begun;
          })
          (λ row h other. held-on catalogue older e row h
          (λ m same there. rw is (over-goes catalogue older w o t step e.at (length older + 1) c m (work_key row) told.found told.busy was there k.apart (λ on. other (sym same ∙ on))))));
      apart = rw is (apart-change (is_work w) (over o t step e.at (length older + 1)) (λ r. refl) (λ r. refl) rows k.apart);
    }

-- ---- A claim

new-goes : (catalogue : List JobTree) (works : List WorkRow) (new : WorkRow) (m : Made) (plan : Plan) (key : WorkKey)
    → new.state ≡ Busy
    → ((new.execution == m.execution) ≡ true → IsUnknown plan (facts_by_work m.execution works) (job_named catalogue m.job) (work_key new))
    → GoesOn busy_sight busy_sight key (walk_value catalogue works m.execution m.job plan) (walk_value catalogue (works ++ new ∷ []) m.execution m.job plan)
new-goes catalogue works new m plan key busy was =
    let before : WorkKey → Fact = facts_by_work m.execution works in
    let after : WorkKey → Fact = facts_by_work m.execution (works ++ new ∷ []) in
    on-or-off new.execution m.execution
    (λ on. walk_of-goes busy_sight busy_sight key plan before after (job_named catalogue m.job)
    (λ tree is. claim-away key (work_key new) (facts_of plan before tree) (facts_of plan after tree)
    (planned-differ plan (all_leaves tree.elements) (work_key new) before after (new-differs m.execution works new on))
    (unknown-in plan before (job_named catalogue m.job) (work_key new) tree (was on) is)
    (planned-busy plan (all_leaves tree.elements) before after (work_key new) (runs-in plan before (job_named catalogue m.job) (work_key new) tree (was on) is)
    (unknown-in plan before (job_named catalogue m.job) (work_key new) tree (was on) is)
    (new-fact m.execution works new on (unknown-unworked plan before (job_named catalogue m.job) (work_key new) (was on)) ∙ ap fact_of_state busy))))
    (λ off. rw (facts-same m.execution _ works (known-append m.execution works new off)) (same-goes busy_sight key (walk_value catalogue works m.execution m.job plan)))

begun-now : (o : Option ℕ) (at : ℕ) → is_some (first_moment o true at) ≡ true
begun-now (Some t) at = refl
begun-now None at = refl

-- one job execution has one number
same-unknown : (catalogue : List JobTree) (older : List Entry) (works : List WorkRow) (key : WorkKey) (m n : Made)
    → find (is_made n.execution) (made older) ≡ Some n → find (is_made m.execution) (made older) ≡ Some m → m.execution ≡ n.execution
    → IsUnknown (plan_kept catalogue older m.execution) (facts_by_work m.execution works) (job_named catalogue m.job) key
    → IsUnknown (plan_kept catalogue older n.execution) (facts_by_work n.execution works) (job_named catalogue n.job) key
same-unknown catalogue older works key m n there found same unknown =
    let one : m ≡ n = let both : Some m ≡ Some n = sym found ∙ (ap (λ x. find (is_made x) (made older)) same ∙ there) in cc in
    subst (λ (k : Made). IsUnknown (plan_kept catalogue older k.execution) (facts_by_work k.execution works) (job_named catalogue k.job) key) one unknown

work-kept : (catalogue : List JobTree) (older : List Entry) (who at : ℕ) (m : Made) (key : WorkKey)
    → find (is_made m.execution) (made older) ≡ Some m
    → first_ready (value_after catalogue older m) ≡ Some key → IsKept catalogue older
    → IsKept catalogue (record { who = who; call = Claim; at = at; reply = Work (next_work_item (folded_rows catalogue older) (execution_row catalogue older m) key) } ∷ older)
work-kept catalogue older who at m key found ready k =
    let works : List WorkRow = works_of older in
    let x : ℕ = m.execution in
    let new : WorkRow = busy_work who at (next_work_item (folded_rows catalogue older) (execution_row catalogue older m) key) in
    let e : Entry = record { who = who; call = Claim; at = at; reply = Work (next_work_item (folded_rows catalogue older) (execution_row catalogue older m) key) } in
    let plan : Plan = plan_kept catalogue older x in
    let job : Option JobTree = job_named catalogue m.job in
    let before : WorkKey → Fact = facts_by_work x works in
    let after : WorkKey → Fact = facts_by_work x (works ++ new ∷ []) in
    let unknown : IsUnknown plan before job key = ready-unknown plan before job key ready in
    let was : before key ≡ FactNothing = unknown-unworked plan before job key unknown in
    let on : (x == x) ≡ true = eq-eqb x x refl in
    let keyed : work_key new ≡ key =
    ap (λ (j : Option JobTree). record { element = key.element; partition = unwrap_or (partition_named key.partition (partitions_of_job j key)) 0 }) unknown.is
    ∙ key-named unknown.tree key unknown.runs in
    let differ : DifferAt key before after = subst (λ k. DifferAt k before after) keyed (new-differs x works new on) in
    let busy : after key ≡ FactBusy = ap after (sym keyed) ∙ new-fact x works new on (ap before keyed ∙ was) in
    let goes : GoesOn ready_sight busy_sight key (walk_of plan before job) (walk_of plan after job) =
    walk_of-goes ready_sight busy_sight key plan before after job
    (λ tree is. claim-here key (facts_of plan before tree) (facts_of plan after tree)
    (planned-differ plan (all_leaves tree.elements) key before after differ) (unknown-in plan before job key tree unknown is)
    (planned-busy plan (all_leaves tree.elements) before after key (runs-in plan before job key tree unknown is) (unknown-in plan before job key tree unknown is) busy)) in
    record {
      held = each-append (IsHeld catalogue (e ∷ older)) works new
          (each-map (IsHeld catalogue older) (IsHeld catalogue (e ∷ older)) works
          (λ row h. held-on catalogue older e row h (λ n same there. new-goes catalogue works new n (plan_kept catalogue older n.execution) (work_key row) refl
          (λ here. subst (λ k. IsUnknown (plan_kept catalogue older n.execution) (facts_by_work n.execution works) (job_named catalogue n.job) k) (sym keyed)
          (same-unknown catalogue older works key m n there found (eqb-true x n.execution here) unknown)))) k.held)
          (record {
            one = m;
            found = found;
            under_way = λ _. subst (λ k. seen busy_sight k (walk_of plan after job) ≡ true) (sym keyed) (goes.kept (first-seen key (value_after catalogue older m) ready));
            begun = ap is_some (begun-by older e x refl) ∙ (ap (λ b. is_some (first_moment (start_of older x) b at)) on ∙ begun-now (start_of older x) at);
          });
      apart = apart-append works new k.apart
          (each-map (λ r. r.execution ≡ x → work_key r ≢ key) (λ r. Apart r new) works (λ r h same el. h (sym same) (sym el ∙ keyed)) (unknown-away x works key was));
    }

claimed-kept : (catalogue : List JobTree) (older : List Entry) (who at : ℕ) (m : Made) (ready : Option WorkKey) (reply : Reply)
    → find (is_made m.execution) (made older) ≡ Some m → first_ready (value_after catalogue older m) ≡ ready
    → reply ≡ claim_reply (folded_rows catalogue older) (execution_row catalogue older m) ready → IsKept catalogue older
    → IsKept catalogue (record { who = who; call = Claim; at = at; reply = reply } ∷ older)
claimed-kept catalogue older who at m None reply found ready is k =
    subst (λ r. IsKept catalogue (record { who = who; call = Claim; at = at; reply = r } ∷ older)) (sym is)
    (still-kept catalogue older (record { who = who; call = Claim; at = at; reply = Closed m.execution }) refl k)
claimed-kept catalogue older who at m (Some key) reply found ready is k =
    subst (λ r. IsKept catalogue (record { who = who; call = Claim; at = at; reply = r } ∷ older)) (sym is)
    (work-kept catalogue older who at m key found ready k)

claim-kept : (catalogue : List JobTree) (older : List Entry) (who at : ℕ) (reply : Reply) → ToldClaim (folded_rows catalogue older) reply → IsKept catalogue older
    → IsKept catalogue (record { who = who; call = Claim; at = at; reply = reply } ∷ older)
claim-kept catalogue older who at reply told k =
    let r : Rows = folded_rows catalogue older in
    let from : IsRowOf catalogue older told.row = row-of catalogue older (has_something r) told.row told.found in
    claimed-kept catalogue older who at from.one (first_ready (value_after catalogue older from.one)) reply from.found refl
    (told.answered ∙ ap (λ row. claim_reply r row (first_ready (walk_in_rows r row))) from.is_row) k

-- ---- Every legal history

kept-step : (limit : ℕ) (catalogue : List JobTree) (older : List Entry) (who at : ℕ) (call : Call) (reply : Reply)
    → Due limit catalogue older record { who = who; call = call; at = at; reply = reply } → IsKept catalogue older
    → IsKept catalogue (record { who = who; call = call; at = at; reply = reply } ∷ older)
kept-step limit catalogue older who at (Start job parameters) reply due k = still-kept catalogue older _ refl k
kept-step limit catalogue older who at (Restart y parameters) reply due k = still-kept catalogue older _ refl k
kept-step limit catalogue older who at (Stop y) reply due k = still-kept catalogue older _ refl k
kept-step limit catalogue older who at (Abandon y) reply due k = still-kept catalogue older _ refl k
kept-step limit catalogue older who at Claim reply due k =
    claim-kept catalogue older who at reply (claim-told limit (folded_rows catalogue older) reply due.0 due.1) k
kept-step limit catalogue older who at (Checkpoint w mark step) reply due k = checkpoint-kept catalogue older who at w mark step reply k
kept-step limit catalogue older who at (Finish w o t step) reply due k =
    over-kept catalogue older (record { who = who; call = Finish w o t step; at = at; reply = reply }) w o t step refl (λ x. refl)
    (finish-told limit (folded_rows catalogue older) who w o reply due.0) k
kept-step limit catalogue older who at (Lose w) reply due k =
    over-kept catalogue older (record { who = who; call = Lose w; at = at; reply = reply }) w Failed None zero_step refl (λ x. refl)
    (loss-told limit (length older) (works_of older) w reply due.0) k
kept-step limit catalogue older who at (Purge i) reply due k = still-kept catalogue older _ refl k

pub kept : (limit : ℕ) (catalogue : List JobTree) (past : List Entry) → AllDue limit catalogue past → IsKept catalogue past
kept limit catalogue [] due = record { held = tt; apart = tt }
kept limit catalogue (e ∷ older) due = kept-step limit catalogue older e.who e.at e.call e.reply due.0 (kept limit catalogue older due.1)
