-- A cursor follows the walk of a job execution, from its claims to the ends of its work items.
use mathlib.Core.Path.{fun_ext}
use Rattle.std.proofs.Common.{◌≡◌, ◌≢◌, ℕ, ◌==◌, ◌||◌, Bool, true, false, cond, None, Some, IfSome, is_some, Option, Ok, not, unwrap_or, filter, ◌&&◌, ◌<◌, List, [], ◌∷◌, ◌++◌, find, refl, sym, ◌∙◌, ap, subst, arith}
use Rattle.std.specs.List.{flat_map, list_any}
use Rattle.std.specs.Option.{option_and_then, option_map}
use Rattle.batch_history.specs.Lists.{change_first, Each}
use Rattle.batch_history.proofs.Finding.{found-passes}
use Rattle.batch_history.specs.Replies.{claim_reply, first_ready, has_something, is_running_in, next_work_item, partition_named, partitions_of_job, reply_by, reply_to_claim, walk_in_rows}
use Rattle.batch_history.specs.Rows.{Rows, executions_there, instance_in, is_execution, is_gone, works_there}
use Rattle.batch_history.proofs.Legal.{entered-is}
use Rattle.batch_history.proofs.Runs.{key-named}
use Rattle.batch_history.specs.declared.call.Call.TheVariants.{Claim}
use Rattle.batch_history.specs.declared.call.Reply.TheVariants.{Work}
use Rattle.batch_history.specs.declared.call.WorkItem.{WorkItem}
use Rattle.records.specs.Maps.{AreRising, execution_numbers}
use Rattle.seq_repository.specs.Changes.{put_row, ReplacesExecution}
use Rattle.reply_rules.specs.Standings.{is_open}
use Rattle.seq_repository.proofs.Agendas.{KeepsOthers, either-false, known-there, above-passed}
use Rattle.std.specs.Ordering.{nat_cmp, is_eq}
use Rattle.std.proofs.lemmas.Bool.Decides.{nat_tests}
use Rattle.batch_history.specs.Walks.{fact_of_state, facts_by_work, job_named, planned_facts, runnable_fact, walk_of, walk_value, known_elements}
use Rattle.batch_history.specs.Works.{busy_work, item_key, work_key, AllApart, Apart}
use Rattle.batch_history.specs.declared.rows.ExecutionRow.{ExecutionRow}
use Rattle.batch_history.specs.declared.rows.WorkRow.{WorkRow}
use Rattle.batch_history.proofs.Kept.{facts_of, IsUnknown, ready-unknown, unknown-unworked, shown-busy}
use Rattle.batch_history.proofs.Knowing.{facts-same, known-fact, known-facts}
use Rattle.batch_history.proofs.Planned.{planned-busy, planned-differ}
use Rattle.batch_history.proofs.Sights.{DifferAt, at-or-not, seen, busy_sight}
use Rattle.batch_history.proofs.WorkLists.{apart-append, each-found, each-map, found-before, new-differs, new-fact, unknown-away}
use Rattle.batch_history.specs.declared.rows.WorkState.TheVariants.{Busy as IsBusy, Over as IsOver}
use Rattle.batch_ids.specs.declared.status.WorkOutcome.{WorkOutcome}
use Rattle.std.proofs.lemmas.Bool.{eqb-true, eq-eqb, ne_eqb}
use Rattle.job_plans.proofs.Beginning.{first-keys}
use Rattle.job_plans.proofs.Shown.{busy-leaf, ready-leaf}
use Rattle.walk_rules.specs.declared.facts.Value.{Value}
use Rattle.walk_rules.specs.declared.facts.Value.TheVariants.{Open, Done as IsDone, Ended}
use Rattle.job_plans.proofs.Newest.{newest-one, newest-others, put-keys}
use Rattle.walk_rules.proofs.SameKeys.{differing-keys, same-one, same-self, same-sym}
use Rattle.job_plans.specs.Cursors.{CursorState, fact_at_first, known_at_first, known_keys, resumed, value_in, with_fact}
use Rattle.walk_rules.specs.Shown.{ready_of, busy_of}
use Rattle.walk_rules.specs.Keys.{is_same_key, has_key}
use Rattle.job_plans.specs.Plans.{bars_kept, carried_exit, keeps_partition, step_fact}
use Rattle.job_plans.specs.Runnables.{Leaf, all_leaves, keys_of, partitions_with, runnable_with}
use Rattle.walk_rules.specs.Walk.{fact_of, known_of, value_of}
use Rattle.walk_rules.specs.declared.facts.Fact.{Fact}
use Rattle.walk_rules.specs.declared.facts.Fact.TheVariants.{Nothing, Busy, Over}
use Rattle.walk_rules.specs.declared.facts.Known.{Known}
use Rattle.job_plans.specs.declared.plan.Plan.{Plan}
use Rattle.job_plans.specs.declared.runnable.Runnable.{Runnable}
use Rattle.job_plans.specs.declared.runnable.Runnable.TheVariants.{Step as RunsStep, Decision as RunsDecision}
use Rattle.walk_rules.specs.declared.work_key.WorkKey.{WorkKey}
use Rattle.jsl_model.specs.Jobs.{JobTree}
use Rattle.jsl_model.specs.Names.{is_among}
use Rattle.seq_repository.specs.Following.{AreFollowed, Follows, IsFirst, IsFollowed, IsKeptOf, Walks}

-- ---- A cursor that begins

-- what is known of a work key by facts of these work keys, and then by others
known-or-rest : (facts : WorkKey → Fact) (keys : List WorkKey) (rest : List Known) (key : WorkKey)
    → fact_of (known_of facts keys ++ rest) key ≡ cond (has_key keys key) (facts key) (fact_of rest key)
known-or-rest facts [] rest key = refl
known-or-rest facts (one ∷ keys) rest key =
    (elim (is_same_key one key) as (λ b. is_same_key one key ≡ b → cond b (facts one) (fact_of (known_of facts keys ++ rest) key)
    ≡ cond (is_same_key key one || has_key keys key) (facts key) (fact_of rest key)) [
      | true ↦ λ e. ap facts (same-one one key e) ∙ sym (ap (λ b. cond (b || has_key keys key) (facts key) (fact_of rest key)) (same-sym key one ∙ e))
      | false ↦ λ e. known-or-rest facts keys rest key ∙ sym (ap (λ b. cond (b || has_key keys key) (facts key) (fact_of rest key)) (same-sym key one ∙ e))
    ]) refl

same-fact : (plan : Plan) (known : List Known) (partitions : Option ℕ) (key : WorkKey) (runs : Runnable)
    → fact_at_first plan known partitions key runs ≡ runnable_fact plan partitions key (fact_of known key) (Some runs)
same-fact plan known partitions key (RunsStep task) = refl
same-fact plan known partitions key (RunsDecision artifact) = refl

same-facts : (plan : Plan) (known : List Known) (leaves : List Leaf) (key : WorkKey)
    → fact_of (flat_map (known_at_first plan known) leaves) key ≡ planned_facts plan leaves (fact_of known) key
same-facts plan known [] key = refl
same-facts plan known (leaf ∷ rest) key =
    known-or-rest (λ one. fact_at_first plan known leaf.partitions one leaf.runs) (keys_of leaf) (flat_map (known_at_first plan known) rest) key
    ∙ (elim (has_key (keys_of leaf) key) as (λ b. cond b (fact_at_first plan known leaf.partitions key leaf.runs) (fact_of (flat_map (known_at_first plan known) rest) key)
    ≡ runnable_fact plan (option_and_then (λ (l : Leaf). l.partitions) (cond b (Some leaf) (find (λ (l : Leaf). has_key (keys_of l) key) rest))) key (fact_of known key)
    (option_map (λ (l : Leaf). l.runs) (cond b (Some leaf) (find (λ (l : Leaf). has_key (keys_of l) key) rest)))) [
      | true ↦ same-fact plan known leaf.partitions key leaf.runs
      | false ↦ same-facts plan known rest key
    ])

pub follows_resumed : (catalogue : List JobTree) (works : List WorkRow) (row : ExecutionRow) (tree : JobTree) (known : List Known) → job_named catalogue row.job ≡ Some tree
    → known ≡ known_elements row.execution works → Follows catalogue works row (resumed tree row.plan known)
follows_resumed catalogue works row tree known named is =
    let leaves : List Leaf = all_leaves tree.elements in
    record {
      named = named;
      from = refl;
      each = first-keys row.plan known leaves;
      facts = λ key.
          same-facts row.plan known leaves key
          ∙ (ap (λ (k : List Known). planned_facts row.plan leaves (fact_of k) key) is
          ∙ ap (λ f. planned_facts row.plan leaves f key) (sym (known-facts row.execution works)));
    }

-- ---- What it comes to

pub follows_value : (catalogue : List JobTree) (works : List WorkRow) (row : ExecutionRow) (cursor : CursorState) → Follows catalogue works row cursor
    → value_in cursor ≡ walk_value catalogue works row.execution row.job row.plan
follows_value catalogue works row cursor follows =
    let worked : WorkKey → Fact = facts_by_work row.execution works in
    ap (λ f. value_of f cursor.job.elements cursor.from) (fun_ext follows.facts)
    ∙ (ap (value_of (planned_facts row.plan (all_leaves cursor.job.elements) worked) cursor.job.elements) follows.from
    ∙ ap (walk_of row.plan worked) (sym follows.named))

-- ---- What leaves it as it is

-- what is known of its job execution is the same
pub follows_same : (catalogue : List JobTree) (before after : List WorkRow) (row : ExecutionRow) (cursor : CursorState) → known_elements row.execution after ≡ known_elements row.execution before
    → Follows catalogue before row cursor → Follows catalogue after row cursor
follows_same catalogue before after row cursor same follows =
    record {
      named = follows.named;
      from = follows.from;
      each = follows.each;
      facts = λ key. follows.facts key ∙ ap (λ f. planned_facts row.plan (all_leaves cursor.job.elements) f key) (sym (facts-same row.execution after before same));
    }

-- what is known of each job execution is the same
pub walks_same : (catalogue : List JobTree) (before after : List WorkRow) (row : Option ExecutionRow) (cursor : Option CursorState) → ((x : ℕ) → known_elements x after ≡ known_elements x before)
    → Walks catalogue before row cursor → Walks catalogue after row cursor
walks_same catalogue before after None None same walks = tt
walks_same catalogue before after None (Some c) same walks = walks
walks_same catalogue before after (Some r) None same walks = walks
walks_same catalogue before after (Some r) (Some c) same walks = follows_same catalogue before after r c (same r.execution) walks

-- the row of its job execution changes
pub follows_row : (catalogue : List JobTree) (works : List WorkRow) (row new : ExecutionRow) (cursor : CursorState) → new.execution ≡ row.execution → new.job ≡ row.job → new.plan ≡ row.plan
    → Follows catalogue works row cursor → Follows catalogue works new cursor
follows_row catalogue works row new cursor number job plan follows =
    record {
      named = ap (job_named catalogue) job ∙ follows.named;
      from = follows.from ∙ ap (λ (p : Plan). p.from) (sym plan);
      each = follows.each;
      facts = λ key.
          follows.facts key
          ∙ (ap (λ x. planned_facts row.plan (all_leaves cursor.job.elements) (facts_by_work x works) key) (sym number)
          ∙ ap (λ p. planned_facts p (all_leaves cursor.job.elements) (facts_by_work new.execution works) key) (sym plan));
    }

-- ---- What it learns

-- a fact that is learnt of one work key, where all else that is known is the same
learnt : (catalogue : List JobTree) (before after : List WorkRow) (row : ExecutionRow) (cursor : CursorState) (key : WorkKey) (fact : Fact)
    → has_key (known_keys cursor.facts) key ≡ true → DifferAt key (facts_by_work row.execution before) (facts_by_work row.execution after)
    → planned_facts row.plan (all_leaves cursor.job.elements) (facts_by_work row.execution after) key ≡ fact
    → Follows catalogue before row cursor → Follows catalogue after row (with_fact cursor key fact)
learnt catalogue before after row cursor key fact among differ is follows =
    let leaves : List Leaf = all_leaves cursor.job.elements in
    record {
      named = follows.named;
      from = follows.from;
      each = put-keys cursor.facts key fact ∙ follows.each;
      facts = λ other. at-or-not other key
          (λ same. rw same (newest-one cursor key fact among ∙ sym is))
          (λ off. newest-others cursor key fact other (λ e. off (sym e))
          ∙ (follows.facts other
          ∙ sym (planned-differ row.plan leaves key (facts_by_work row.execution before) (facts_by_work row.execution after) differ other off)));
    }

-- it knows something of each work key that it shows
ready-known : (catalogue : List JobTree) (works : List WorkRow) (row : ExecutionRow) (cursor : CursorState) (key : WorkKey) → Follows catalogue works row cursor
    → has_key (ready_of (value_in cursor)) key ≡ true → has_key (known_keys cursor.facts) key ≡ true
ready-known catalogue works row cursor key follows ready =
    ap (λ keys. has_key keys key) follows.each ∙ ready-leaf (fact_of cursor.facts) cursor.job.elements cursor.from key ready

busy-known : (catalogue : List JobTree) (works : List WorkRow) (row : ExecutionRow) (cursor : CursorState) (key : WorkKey) → Follows catalogue works row cursor
    → has_key (busy_of (value_in cursor)) key ≡ true → has_key (known_keys cursor.facts) key ≡ true
busy-known catalogue works row cursor key follows busy =
    ap (λ keys. has_key keys key) follows.each ∙ busy-leaf (fact_of cursor.facts) cursor.job.elements cursor.from key busy

first-has : (v : Value) (key : WorkKey) → first_ready v ≡ Some key → has_key (ready_of v) key ≡ true
first-has (Open (k ∷ ready) busy) key first = let same : k ≡ key = cc in rw (same-self key k (sym same)) refl
first-has (Open [] busy) key first = cc
first-has (IsDone exit) key first = cc
first-has (Ended status exit point) key first = cc

-- the first ready work key of a walk is one of those of its cursor
pub first_among : (catalogue : List JobTree) (works : List WorkRow) (row : ExecutionRow) (cursor : CursorState) (key : WorkKey) → Follows catalogue works row cursor
    → first_ready (walk_value catalogue works row.execution row.job row.plan) ≡ Some key → has_key (ready_of (value_in cursor)) key ≡ true
first_among catalogue works row cursor key follows first =
    first-has (value_in cursor) key (ap first_ready (follows_value catalogue works row cursor follows) ∙ first)

-- it takes the first ready work key, of which a work item is handed out
pub follows_taken : (catalogue : List JobTree) (works : List WorkRow) (row : ExecutionRow) (cursor : CursorState) (new : WorkRow) → Follows catalogue works row cursor
    → first_ready (walk_value catalogue works row.execution row.job row.plan) ≡ Some (work_key new) → new.execution ≡ row.execution → new.state ≡ IsBusy
    → Follows catalogue (works ++ new ∷ []) row (with_fact cursor (work_key new) Busy)
follows_taken catalogue works row cursor new follows first own busy =
    let key : WorkKey = work_key new in
    let x : ℕ = row.execution in
    let on : (new.execution == x) ≡ true = eq-eqb new.execution x own in
    let before : WorkKey → Fact = facts_by_work x works in
    let after : WorkKey → Fact = facts_by_work x (works ++ new ∷ []) in
    let unknown : IsUnknown row.plan before (job_named catalogue row.job) key = ready-unknown row.plan before (job_named catalogue row.job) key first in
    let tree : unknown.tree ≡ cursor.job = let both : Some unknown.tree ≡ Some cursor.job = sym unknown.is ∙ follows.named in cc in
    let runs : is_some (runnable_with (all_leaves cursor.job.elements) key) ≡ true = subst (λ (t : JobTree). is_some (runnable_with (all_leaves t.elements) key) ≡ true) tree unknown.runs in
    let nothing : facts_of row.plan before cursor.job key ≡ Nothing = subst (λ t. facts_of row.plan before t key ≡ Nothing) tree unknown.unknown in
    let known : after key ≡ Busy = new-fact x works new on (unknown-unworked row.plan before (job_named catalogue row.job) key unknown) ∙ ap fact_of_state busy in
    learnt catalogue works (works ++ new ∷ []) row cursor key Busy (ready-known catalogue works row cursor key follows (first_among catalogue works row cursor key follows first))
    (new-differs x works new on) (planned-busy row.plan (all_leaves cursor.job.elements) before after key runs nothing known) follows

-- no other work item is of a work key that is handed out
pub apart_taken : (catalogue : List JobTree) (works : List WorkRow) (row : ExecutionRow) (new : WorkRow)
    → first_ready (walk_value catalogue works row.execution row.job row.plan) ≡ Some (work_key new) → new.execution ≡ row.execution → AllApart works → AllApart (works ++ new ∷ [])
apart_taken catalogue works row new first own apart =
    let before : WorkKey → Fact = facts_by_work row.execution works in
    let unknown : IsUnknown row.plan before (job_named catalogue row.job) (work_key new) = ready-unknown row.plan before (job_named catalogue row.job) (work_key new) first in
    let away = unknown-away row.execution works (work_key new) (unknown-unworked row.plan before (job_named catalogue row.job) (work_key new) unknown) in
    apart-append works new apart
    (each-map (λ r. r.execution ≡ row.execution → work_key r ≢ work_key new) (λ r. Apart r new) works (λ r off same e. off (sym same ∙ own) (sym e)) away)

-- it reports of a busy work key, of which a work item ends

step-told : (carried : Option (List ℕ)) (all kept : Bool) (worked : Fact) (barred : Bool) (outcome : WorkOutcome) (exit : List ℕ) → step_fact carried all kept worked barred ≡ Busy
    → step_fact carried all kept (Over outcome exit) barred ≡ Over outcome exit
step-told (Some text) all kept worked barred outcome exit h = cc
step-told None true kept worked barred outcome exit h = cc
step-told None false true worked barred outcome exit h = cc
step-told None false false worked barred outcome exit h = refl

runnable-told : (plan : Plan) (partitions : Option ℕ) (key : WorkKey) (worked : Fact) (runs : Option Runnable) (outcome : WorkOutcome) (exit : List ℕ) → runnable_fact plan partitions key worked runs ≡ Busy
    → runnable_fact plan partitions key (Over outcome exit) runs ≡ Over outcome exit
runnable-told plan partitions key worked None outcome exit h = cc
runnable-told plan partitions key worked (Some (RunsStep task)) outcome exit h =
    step-told (carried_exit plan.carried key.element) (bars_kept plan key.element partitions) (keeps_partition plan partitions key) worked (is_among plan.barred key.element) outcome exit h
runnable-told plan partitions key worked (Some (RunsDecision artifact)) outcome exit h = refl

told-listed : (x : ℕ) (p : WorkRow → Bool) (works : List WorkRow) (c new : WorkRow) → find p works ≡ Some c → (c.execution == x) ≡ true → AllApart works
    → new.execution ≡ c.execution → work_key new ≡ work_key c
    → fact_of (known_elements x (change_first p (λ gone. new) works)) (work_key c) ≡ fact_of_state new.state
told-listed x p [] c new e on apart own key = cc
told-listed x p (r ∷ rs) c new e on apart own key =
    let changed : List WorkRow = change_first p (λ gone. new) rs in
    let know : WorkRow → Known = λ w. record { key = work_key w; fact = fact_of_state w.state } in
    (elim (p r) as (λ b. cond b (Some r) (find p rs) ≡ Some c → fact_of (known_elements x (cond b (new ∷ rs) (r ∷ changed))) (work_key c) ≡ fact_of_state new.state) [
      | true ↦ λ s.
          let here : (new.execution == x) ≡ true = ap (λ y. y == x) own ∙ on in
          let same : is_same_key (work_key new) (work_key c) ≡ true = same-self (work_key new) (work_key c) key in
          rw here (rw same refl)
      | false ↦ λ s.
          let from : Apart r c = each-found (Apart r) p rs c apart.0 s in
          let rest = told-listed x p rs c new s on apart.1 own key in
          (elim (r.execution == x) as (λ b. (r.execution == x) ≡ b
          → fact_of (cond b (know r ∷ known_elements x changed) (known_elements x changed)) (work_key c) ≡ fact_of_state new.state) [
            | true ↦ λ here.
                let off : is_same_key (work_key r) (work_key c) ≡ false =
                differing-keys (work_key r) (work_key c) (λ same. from (eqb-true c.execution x on ∙ sym (eqb-true r.execution x here)) (sym same)) in
                rw off rest
            | false ↦ λ here. rest
          ]) refl
    ]) e

differs-listed : (x : ℕ) (p : WorkRow → Bool) (works : List WorkRow) (c new : WorkRow) → find p works ≡ Some c → new.execution ≡ c.execution → work_key new ≡ work_key c
    → DifferAt (work_key c) (fact_of (known_elements x works)) (fact_of (known_elements x (change_first p (λ gone. new) works)))
differs-listed x p [] c new e own key i other = cc
differs-listed x p (r ∷ rs) c new e own key i other =
    let changed : List WorkRow = change_first p (λ gone. new) rs in
    let know : WorkRow → Known = λ w. record { key = work_key w; fact = fact_of_state w.state } in
    (elim (p r) as (λ b. cond b (Some r) (find p rs) ≡ Some c
    → fact_of (known_elements x (cond b (new ∷ rs) (r ∷ changed))) i ≡ fact_of (known_elements x (r ∷ rs)) i) [
      | true ↦ λ s.
          let same : r ≡ c = cc in
          let old_off : is_same_key (work_key r) i ≡ false = differing-keys (work_key r) i (λ h. other (sym h ∙ ap work_key same)) in
          let new_off : is_same_key (work_key new) i ≡ false = differing-keys (work_key new) i (λ h. other (sym h ∙ key)) in
          let number : (new.execution == x) ≡ (r.execution == x) = ap (λ y. y == x) (own ∙ ap (λ (w : WorkRow). w.execution) (sym same)) in
          ap (λ b. fact_of (cond b (know new ∷ known_elements x rs) (known_elements x rs)) i) number
          ∙ elim (r.execution == x) as (λ b. fact_of (cond b (know new ∷ known_elements x rs) (known_elements x rs)) i ≡ fact_of (cond b (know r ∷ known_elements x rs) (known_elements x rs)) i) [
            | true ↦ rw old_off (rw new_off refl)
            | false ↦ refl
          ]
      | false ↦ λ s.
          let rest = differs-listed x p rs c new s own key i other in
          elim (r.execution == x) as (λ b. fact_of (cond b (know r ∷ known_elements x changed) (known_elements x changed)) i
          ≡ fact_of (cond b (know r ∷ known_elements x rs) (known_elements x rs)) i) [
            | true ↦ ap (λ f. cond (is_same_key (work_key r) i) (fact_of_state r.state) f) rest
            | false ↦ rest
          ]
    ]) e

busy-seen : (v : Value) (key : WorkKey) → has_key (busy_of v) key ≡ true → seen busy_sight key v ≡ true
busy-seen (Open ready busy) key h = h
busy-seen (IsDone exit) key h = cc
busy-seen (Ended status exit point) key h = cc

pub follows_reported : (catalogue : List JobTree) (works : List WorkRow) (row : ExecutionRow) (cursor : CursorState) (p : WorkRow → Bool) (c new : WorkRow) (outcome : WorkOutcome) (exit : List ℕ)
    → Follows catalogue works row cursor → AllApart works → has_key (busy_of (value_in cursor)) (work_key c) ≡ true → find p works ≡ Some c → c.execution ≡ row.execution
    → new.execution ≡ c.execution → work_key new ≡ work_key c → new.state ≡ IsOver outcome exit
    → Follows catalogue (change_first p (λ gone. new) works) row (with_fact cursor (work_key c) (Over outcome exit))
follows_reported catalogue works row cursor p c new outcome exit follows apart busy found of own key over =
    let x : ℕ = row.execution in
    let later : List WorkRow = change_first p (λ gone. new) works in
    let before : WorkKey → Fact = facts_by_work x works in
    let after : WorkKey → Fact = facts_by_work x later in
    let leaves : List Leaf = all_leaves cursor.job.elements in
    let on : (c.execution == x) ≡ true = eq-eqb c.execution x of in
    let shown : seen busy_sight (work_key c) (walk_of row.plan before (job_named catalogue row.job)) ≡ true =
    busy-seen (walk_of row.plan before (job_named catalogue row.job)) (work_key c) (ap (λ v. has_key (busy_of v) (work_key c)) (sym (follows_value catalogue works row cursor follows)) ∙ busy) in
    let was : facts_of row.plan before cursor.job (work_key c) ≡ Busy = shown-busy row.plan before (job_named catalogue row.job) (work_key c) cursor.job follows.named shown in
    let told : after (work_key c) ≡ Over outcome exit =
    known-fact x later (work_key c) ∙ (told-listed x p works c new found on apart own key ∙ ap fact_of_state over) in
    let differ : DifferAt (work_key c) before after =
    λ i other. known-fact x later i ∙ (differs-listed x p works c new found own key i other ∙ sym (known-fact x works i)) in
    learnt catalogue works later row cursor (work_key c) (Over outcome exit) (busy-known catalogue works row cursor (work_key c) follows busy) differ
    (ap (λ f. runnable_fact row.plan (partitions_with leaves (work_key c)) (work_key c) f (runnable_with leaves (work_key c))) told
    ∙ runnable-told row.plan (partitions_with leaves (work_key c)) (work_key c) (before (work_key c)) (runnable_with leaves (work_key c)) outcome exit was)
    follows

each-put : (r : WorkRow) (p : WorkRow → Bool) (works : List WorkRow) (c new : WorkRow) → find p works ≡ Some c → new.execution ≡ c.execution → work_key new ≡ work_key c → Each (Apart r) works
    → Each (Apart r) (change_first p (λ gone. new) works)
each-put r p [] c new found own key apart = tt
each-put r p (w ∷ ws) c new found own key apart =
    (elim (p w) as (λ b. cond b (Some w) (find p ws) ≡ Some c → Each (Apart r) (cond b (new ∷ ws) (w ∷ change_first p (λ gone. new) ws))) [
      | true ↦ λ s. let same : w ≡ c = cc in (λ e1 e2. apart.0 (ap (λ (z : WorkRow). z.execution) same ∙ (sym own ∙ e1)) (ap work_key same ∙ (sym key ∙ e2)), apart.1)
      | false ↦ λ s. (apart.0, each-put r p ws c new s own key apart.1)
    ]) found

-- a work item in place of that of its work key
pub apart_put : (p : WorkRow → Bool) (works : List WorkRow) (c new : WorkRow) → find p works ≡ Some c → new.execution ≡ c.execution → work_key new ≡ work_key c → AllApart works
    → AllApart (change_first p (λ gone. new) works)
apart_put p [] c new found own key apart = tt
apart_put p (r ∷ rs) c new found own key apart =
    (elim (p r) as (λ b. cond b (Some r) (find p rs) ≡ Some c → AllApart (cond b (new ∷ rs) (r ∷ change_first p (λ gone. new) rs))) [
      | true ↦ λ s.
          let same : r ≡ c = cc in (
            each-map (Apart r) (Apart new) rs (λ w a e1 e2. a (e1 ∙ (own ∙ ap (λ (z : WorkRow). z.execution) (sym same))) (e2 ∙ (key ∙ ap work_key (sym same)))) apart.0,
            apart.1,
          )
      | false ↦ λ s.
          let from : Apart r c = each-found (Apart r) p rs c apart.0 s in (
            each-put r p rs c new s own key apart.0,
            apart_put p rs c new s own key apart.1,
          )
    ]) found

-- ---- The cursors that are kept

-- one of them follows the walk of its job execution
pub followed_at : (catalogue : List JobTree) (works : List WorkRow) (executions : List ExecutionRow) (x : ℕ) (row : ExecutionRow) (cursor : CursorState)
    → find (is_execution x) executions ≡ Some row → IsFollowed catalogue works executions x cursor → Follows catalogue works row cursor
followed_at catalogue works executions x row cursor found followed =
    let same : followed.row ≡ row = let both : Some followed.row ≡ Some row = sym followed.found ∙ found in cc in
    subst (λ r. Follows catalogue works r cursor) same followed.follows

-- some of them are kept
pub followed_some : (catalogue : List JobTree) (works : List WorkRow) (executions : List ExecutionRow) (x : ℕ) (before after : ℕ → Option CursorState)
    → ((q : ℕ) → after q ≡ cond (is_eq (nat_cmp x q)) None (before q)) → AreFollowed catalogue works executions before → AreFollowed catalogue works executions after
followed_some catalogue works executions x before after rest followed = λ q.
    subst (λ o. IfSome o (IsFollowed catalogue works executions q)) (sym (rest q))
    (elim (is_eq (nat_cmp x q)) as (λ b. IfSome (cond b None (before q)) (IsFollowed catalogue works executions q)) [
      | true ↦ tt
      | false ↦ followed q
    ])

-- a number, or another
pub cmp-own : {P : Type 0} (x q : ℕ) → (q ≡ x → P) → (is_eq (nat_cmp x q) ≡ false → (q == x) ≡ false → P) → P
cmp-own {P = P} x q own other =
    (elim (q == x) as (λ b. (q == x) ≡ b → P) [
      | true ↦ λ e. own (eqb-true q x e)
      | false ↦ λ e. other (let off : (q == x) ≡ false = e in grind (arith, nat_tests)) e
    ]) refl

beside-listed : (x q : ℕ) (new old : ExecutionRow) (rows : List ExecutionRow) → (q == x) ≡ false → find (is_execution x) rows ≡ Some old → new.execution ≡ old.execution
    → find (is_execution q) (change_first (is_execution x) (λ gone. new) rows) ≡ find (is_execution q) rows
beside-listed x q new old [] off found same = refl
beside-listed x q new old (row ∷ rest) off found same =
    (elim (row.execution == x) as (λ b. cond b (Some row) (find (is_execution x) rest) ≡ Some old
    → find (is_execution q) (cond b (new ∷ rest) (row ∷ change_first (is_execution x) (λ gone. new) rest)) ≡ find (is_execution q) (row ∷ rest)) [
      | true ↦ λ s.
          let is : row ≡ old = cc in
          let number : new.execution ≡ row.execution = same ∙ ap (λ (r : ExecutionRow). r.execution) (sym is) in
          let apart : (row.execution == q) ≡ false = ne_eqb row.execution q (λ e. let at : row.execution ≡ x = ap (λ (r : ExecutionRow). r.execution) is ∙ eqb-true old.execution x (found-passes (is_execution x) (row ∷ rest) old found) in let on : (q == x) ≡ true = eq-eqb q x (sym e ∙ at) in cc) in
          ap (λ b. cond b (Some new) (find (is_execution q) rest)) (ap (λ n. n == q) number ∙ apart) ∙ sym (ap (λ b. cond b (Some row) (find (is_execution q) rest)) apart)
      | false ↦ λ s. ap (λ o. cond (row.execution == q) (Some row) o) (beside-listed x q new old rest off s same)
    ]) found

put-listed : (x : ℕ) (new old : ExecutionRow) (rows : List ExecutionRow) → find (is_execution x) rows ≡ Some old → new.execution ≡ old.execution
    → find (is_execution x) (change_first (is_execution x) (λ gone. new) rows) ≡ Some new
put-listed x new old [] found same = cc
put-listed x new old (row ∷ rest) found same =
    let number : new.execution ≡ x = same ∙ eqb-true old.execution x (found-passes (is_execution x) (row ∷ rest) old found) in
    (elim (row.execution == x) as (λ b. (row.execution == x) ≡ b → cond b (Some row) (find (is_execution x) rest) ≡ Some old
    → find (is_execution x) (cond b (new ∷ rest) (row ∷ change_first (is_execution x) (λ gone. new) rest)) ≡ Some new) [
      | true ↦ λ e s. ap (λ b. cond b (Some new) (find (is_execution x) rest)) (eq-eqb new.execution x number)
      | false ↦ λ e s. ap (λ b. cond b (Some row) (find (is_execution x) (change_first (is_execution x) (λ gone. new) rest))) e ∙ put-listed x new old rest s same
    ]) refl found

-- the row of another number
pub found-beside : (x q : ℕ) (new : Option ExecutionRow) (rows : List ExecutionRow) → (q == x) ≡ false → IfSome new (λ row. ReplacesExecution rows x row)
    → find (is_execution q) (put_row x new rows) ≡ find (is_execution q) rows
found-beside x q None rows off own = refl
found-beside x q (Some new) rows off own = beside-listed x q new own.0 rows off own.1 own.2.execution

-- the row that was put
pub found_put : (x : ℕ) (new : ExecutionRow) (rows : List ExecutionRow) → ReplacesExecution rows x new → find (is_execution x) (put_row x (Some new) rows) ≡ Some new
found_put x new rows own = put-listed x new own.0 rows own.1 own.2.execution

own-followed : (catalogue : List JobTree) (after : List WorkRow) (rows : List ExecutionRow) (x : ℕ) (new : Option ExecutionRow) (row : ExecutionRow) (cursor : Option CursorState) (c : CursorState)
    → IfSome new (λ row. ReplacesExecution rows x row) → Walks catalogue after (find (is_execution x) rows) cursor → cursor ≡ Some c → new ≡ Some row → is_open row ≡ true
    → IsFollowed catalogue after (put_row x new rows) x c
own-followed catalogue after rows x new row cursor c own may is_cursor is_new still =
    let mine : ReplacesExecution rows x row = subst (λ o. IfSome o (λ row. ReplacesExecution rows x row)) is_new own in
    let follows : Follows catalogue after mine.0 c =
    subst (λ (o : Option ExecutionRow). Walks catalogue after o (Some c)) mine.1 (subst (Walks catalogue after (find (is_execution x) rows)) is_cursor may) in
    record {
      row = row;
      found = ap (λ o. find (is_execution x) (put_row x o rows)) is_new ∙ found_put x row rows mine;
      unfinished = still;
      follows = follows_row catalogue after mine.0 row c mine.2.execution mine.2.job mine.3 follows;
    }

-- the cursors after an operation on job execution x: those of others, and its own, if it is unfinished still
pub followed_put : (catalogue : List JobTree) (before after : List WorkRow) (rows : List ExecutionRow) (x : ℕ) (new : Option ExecutionRow) (cursor : Option CursorState)
    (old kept : ℕ → Option CursorState) → AreFollowed catalogue before rows old → KeepsOthers x before after → IfSome new (λ row. ReplacesExecution rows x row)
    → ((c : CursorState) → cursor ≡ Some c → Walks catalogue after (find (is_execution x) rows) cursor)
    → ((q : ℕ) → is_eq (nat_cmp x q) ≡ false → kept q ≡ old q) → IfSome (kept x) (IsKeptOf new cursor)
    → AreFollowed catalogue after (put_row x new rows) kept
followed_put catalogue before after rows x new cursor old kept followed others own may beside here = λ q.
    cmp-own x q
    (λ same. subst (λ n. IfSome (kept n) (IsFollowed catalogue after (put_row x new rows) n)) (sym same)
    ((elim (kept x) as (λ o. IfSome o (IsKeptOf new cursor) → IfSome o (IsFollowed catalogue after (put_row x new rows) x)) [
      | None ↦ λ h. tt
      | Some c ↦ λ h. own-followed catalogue after rows x new h.1.0 cursor c own (may c h.0) h.0 h.1.1 h.1.2
    ]) here))
    (λ off differ. subst (λ o. IfSome o (IsFollowed catalogue after (put_row x new rows) q)) (sym (beside q off))
    ((elim (old q) as (λ o. IfSome o (IsFollowed catalogue before rows q) → IfSome o (IsFollowed catalogue after (put_row x new rows) q)) [
      | None ↦ λ h. tt
      | Some c ↦ λ h. record {
        row = h.row;
        found = found-beside x q new rows differ own ∙ h.found;
        unfinished = h.unfinished;
        follows = follows_same catalogue before after h.row c (others h.row.execution (ap (λ n. n == x) (eqb-true h.row.execution q (found-passes (is_execution q) rows h.row h.found)) ∙ differ)) h.follows;
      }
    ]) (followed q)))

-- a job execution more
pub followed_pushed : (catalogue : List JobTree) (works : List WorkRow) (rows : List ExecutionRow) (new : ExecutionRow) (kept : ℕ → Option CursorState)
    → AreFollowed catalogue works rows kept → AreFollowed catalogue works (rows ++ new ∷ []) kept
followed_pushed catalogue works rows new kept followed = λ q.
    (elim (kept q) as (λ o. IfSome o (IsFollowed catalogue works rows q) → IfSome o (IsFollowed catalogue works (rows ++ new ∷ []) q)) [
      | None ↦ λ h. tt
      | Some c ↦ λ h. record { row = h.row; found = found-before (is_execution q) rows (new ∷ []) h.row h.found; unfinished = h.unfinished; follows = h.follows }
    ]) (followed q)

-- a job instance, none of whose job executions is unfinished, is gone

pub found-there : (q i : ℕ) (rows : List ExecutionRow) (row : ExecutionRow) → find (is_execution q) rows ≡ Some row → (row.instance == i) ≡ false
    → find (is_execution q) (executions_there (λ j. j == i) rows) ≡ Some row
found-there q i [] row found off = cc
found-there q i (r ∷ rest) row found off =
    let stay : List ExecutionRow = executions_there (λ j. j == i) rest in
    (elim (r.execution == q) as (λ b. (r.execution == q) ≡ b → cond b (Some r) (find (is_execution q) rest) ≡ Some row
    → find (is_execution q) (cond (not (r.instance == i)) (r ∷ stay) stay) ≡ Some row) [
      | true ↦ λ e s.
          let is : r ≡ row = cc in
          let here : (r.instance == i) ≡ false = ap (λ (z : ExecutionRow). z.instance == i) is ∙ off in
          ap (λ b. find (is_execution q) (cond (not b) (r ∷ stay) stay)) here ∙ (ap (λ b. cond b (Some r) (find (is_execution q) stay)) e ∙ s)
      | false ↦ λ e s.
          let more = found-there q i rest row s off in
          elim (r.instance == i) as (λ b. find (is_execution q) (cond (not b) (r ∷ stay) stay) ≡ Some row) [
            | true ↦ more
            | false ↦ ap (λ b. cond b (Some r) (find (is_execution q) stay)) e ∙ more
          ]
    ]) refl found

pub open-elsewhere : (i : ℕ) (p : ExecutionRow → Bool) (rows : List ExecutionRow) (row : ExecutionRow) → find p rows ≡ Some row → is_open row ≡ true → list_any (is_running_in i) rows ≡ false
    → (row.instance == i) ≡ false
open-elsewhere i p [] row found still finished = cc
open-elsewhere i p (r ∷ rest) row found still finished =
    let parts = either-false (is_running_in i r) (list_any (is_running_in i) rest) finished in
    (elim (p r) as (λ b. cond b (Some r) (find p rest) ≡ Some row → (row.instance == i) ≡ false) [
      | true ↦ λ s.
          let is : r ≡ row = cc in
          let no : is_running_in i row ≡ false = ap (is_running_in i) (sym is) ∙ parts.0 in
          (elim (row.instance == i) as (λ b. (b && is_open row) ≡ false → b ≡ false) [
            | true ↦ λ h. cc
            | false ↦ λ h. refl
          ]) no
      | false ↦ λ s. open-elsewhere i p rest row s still parts.1
    ]) found

pub followed_without : (catalogue : List JobTree) (i : ℕ) (works : List WorkRow) (rows : List ExecutionRow) (kept : ℕ → Option CursorState)
    → list_any (is_running_in i) rows ≡ false → AreFollowed catalogue works rows kept
    → AreFollowed catalogue (works_there (λ j. j == i) rows works) (executions_there (λ j. j == i) rows) kept
followed_without catalogue i works rows kept finished followed = λ q.
    (elim (kept q) as (λ o. IfSome o (IsFollowed catalogue works rows q) → IfSome o (IsFollowed catalogue (works_there (λ j. j == i) rows works) (executions_there (λ j. j == i) rows) q)) [
      | None ↦ λ h. tt
      | Some c ↦ λ h.
          let off : (h.row.instance == i) ≡ false = open-elsewhere i (is_execution q) rows h.row h.found h.unfinished finished in
          let number : h.row.execution ≡ q = eqb-true h.row.execution q (found-passes (is_execution q) rows h.row h.found) in
          let there : is_gone (λ j. j == i) (instance_in rows h.row.execution) ≡ false =
          ap (λ n. is_gone (λ j. j == i) (option_map (λ (r : ExecutionRow). r.instance) (find (is_execution n) rows))) number
          ∙ (ap (λ (o : Option ExecutionRow). is_gone (λ j. j == i) (option_map (λ (r : ExecutionRow). r.instance) o)) h.found ∙ off) in
          record {
            row = h.row;
            found = found-there q i rows h.row h.found off;
            unfinished = h.unfinished;
            follows = follows_same catalogue works (works_there (λ j. j == i) rows works) h.row c (known-there h.row.execution (λ j. j == i) rows works there) h.follows;
          }
    ]) (followed q)

apart-filtered : (p : WorkRow → Bool) (r : WorkRow) (works : List WorkRow) → Each (Apart r) works → Each (Apart r) (filter p works)
apart-filtered p r [] h = tt
apart-filtered p r (w ∷ ws) h =
    elim (p w) as (λ b. Each (Apart r) (cond b (w ∷ filter p ws) (filter p ws))) [
      | true ↦ (h.0, apart-filtered p r ws h.1)
      | false ↦ apart-filtered p r ws h.1
    ]

pub apart_filtered : (p : WorkRow → Bool) (works : List WorkRow) → AllApart works → AllApart (filter p works)
apart_filtered p [] h = tt
apart_filtered p (w ∷ ws) h =
    elim (p w) as (λ b. AllApart (cond b (w ∷ filter p ws) (filter p ws))) [
      | true ↦ (apart-filtered p w ws h.0, apart_filtered p ws h.1)
      | false ↦ apart_filtered p ws h.1
    ]

-- ---- The work item of a claim

own-found : (p : ExecutionRow → Bool) (rows : List ExecutionRow) (row : ExecutionRow) → AreRising (execution_numbers rows) → find p rows ≡ Some row → find (is_execution row.execution) rows ≡ Some row
own-found p [] row rising found = cc
own-found p (r ∷ rest) row rising found =
    (elim (p r) as (λ b. cond b (Some r) (find p rest) ≡ Some row → find (is_execution row.execution) (r ∷ rest) ≡ Some row) [
      | true ↦ λ s.
          let is : r ≡ row = cc in
          ap (λ b. cond b (Some r) (find (is_execution row.execution) rest)) (eq-eqb r.execution row.execution (ap (λ (z : ExecutionRow). z.execution) is)) ∙ s
      | false ↦ λ s.
          let lower : r.execution < row.execution = above-passed r.execution p rest row rising.0 s in
          ap (λ b. cond b (Some r) (find (is_execution row.execution) rest)) (ne_eqb r.execution row.execution (λ e. omega (arith, lower, e)))
          ∙ own-found p rest row rising.1 s
    ]) found

first-item : (r : Rows) (row : ExecutionRow) (key : Option WorkKey) (item : WorkItem) → key ≡ first_ready (walk_in_rows r row) → claim_reply r row key ≡ Work item
    → (item.execution ≡ row.execution) × (first_ready (walk_in_rows r row) ≡ Some (item_key item))
first-item r row None item is e = cc
first-item r row (Some key) item is e =
    let made : next_work_item r row key ≡ item = cc in
    let unknown : IsUnknown row.plan (facts_by_work row.execution r.works) (job_named r.catalogue row.job) key =
    ready-unknown row.plan (facts_by_work row.execution r.works) (job_named r.catalogue row.job) key (sym is) in
    let named : item_key (next_work_item r row key) ≡ key =
    ap (λ (j : Option JobTree). record { element = key.element; partition = unwrap_or (partition_named key.partition (partitions_of_job j key)) 0 }) unknown.is
    ∙ key-named unknown.tree key unknown.runs in
    (ap (λ (i : WorkItem). i.execution) (sym made), sym is ∙ ap Some (sym named ∙ ap item_key made))

claim-first : (limit : ℕ) (r : Rows) (found : Option ExecutionRow) (item : WorkItem) → AreRising (execution_numbers r.executions) → found ≡ find (has_something r) r.executions
    → reply_to_claim limit r found ≡ Ok (Work item) → IsFirst r.catalogue r.works (find (is_execution item.execution) r.executions) item
claim-first limit r None item rising is e = cc
claim-first limit r (Some row) item rising is e =
    let parts = first-item r row (first_ready (walk_in_rows r row)) item refl (sym (entered-is limit r.count _ (Work item) e)) in
    subst (λ o. IsFirst r.catalogue r.works o item) (sym (ap (λ x. find (is_execution x) r.executions) parts.0 ∙ own-found (has_something r) r.executions row rising (sym is))) parts.1

pub claimed_first : (limit : ℕ) (r : Rows) (who : ℕ) (item : WorkItem) → AreRising (execution_numbers r.executions) → reply_by limit r who Claim ≡ Ok (Work item)
    → IsFirst r.catalogue r.works (find (is_execution item.execution) r.executions) item
claimed_first limit r who item rising e = claim-first limit r (find (has_something r) r.executions) item rising refl e

claim-apart : (limit : ℕ) (r : Rows) (found : Option ExecutionRow) (item : WorkItem) (who at : ℕ) → reply_to_claim limit r found ≡ Ok (Work item) → AllApart r.works
    → AllApart (r.works ++ busy_work who at item ∷ [])
claim-apart limit r None item who at e apart = cc
claim-apart limit r (Some row) item who at e apart =
    let parts = first-item r row (first_ready (walk_in_rows r row)) item refl (sym (entered-is limit r.count _ (Work item) e)) in
    apart_taken r.catalogue r.works row (busy_work who at item) parts.1 parts.0 apart

-- no other work item is of its work key
pub apart_claimed : (limit : ℕ) (r : Rows) (who at : ℕ) (item : WorkItem) → reply_by limit r who Claim ≡ Ok (Work item) → AllApart r.works
    → AllApart (r.works ++ busy_work who at item ∷ [])
apart_claimed limit r who at item e apart = claim-apart limit r (find (has_something r) r.executions) item who at e apart
