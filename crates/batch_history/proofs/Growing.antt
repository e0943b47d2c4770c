-- What exists after one operation more: what an accepted call does to all that was made, it does to what exists, and a purge
-- leaves out one job instance more.
use mathlib.Core.Bool.{or-true}
use mathlib.Core.Path.{fun_ext}
use Rattle.std.proofs.Common.{◌≡◌, ℕ, ◌+◌, ◌==◌, ◌&&◌, ◌||◌, Bool, true, false, cond, not, Option, None, Some, is_some, Result, Ok, List, [], ◌∷◌, ◌++◌, find, filter, refl, sym, ◌∙◌, ap, subst}
use Rattle.std.specs.Option.{option_map}
use Rattle.std.proofs.lemmas.Bool.{eqb-true, eq-eqb, ne_eqb, eqb-false}
use Rattle.walk_rules.specs.Keys.{is_same_key}
use Rattle.walk_rules.specs.declared.work_key.WorkKey.{WorkKey}
use Rattle.jsl_model.specs.Jobs.{JobTree}
use Rattle.batch_ids.specs.Metrics.{zero_step}
use Rattle.batch_ids.specs.Parameters.{Pair}
use Rattle.batch_ids.specs.declared.metric_step.MetricStep.{MetricStep}
use Rattle.batch_ids.specs.declared.refusal.Refusal.{Refusal}
use Rattle.batch_ids.specs.declared.status.WorkOutcome.{WorkOutcome}
use Rattle.batch_ids.specs.declared.status.WorkOutcome.TheVariants.{Failed}
use Rattle.batch_history.specs.declared.call.Call.{Call}
use Rattle.batch_history.specs.declared.call.Call.TheVariants.{Start, Restart, Stop, Abandon, Claim, Checkpoint, Finish, Lose, Purge}
use Rattle.batch_history.specs.declared.call.Entry.{Entry}
use Rattle.batch_history.specs.declared.call.Reply.{Reply}
use Rattle.batch_history.specs.declared.call.Reply.TheVariants.{Execution as IsExecution, Work, Closed, Nothing, Done, Go, StopAsked}
use Rattle.batch_history.specs.declared.call.WorkItem.{WorkItem}
use Rattle.batch_history.specs.declared.rows.ExecutionRow.{ExecutionRow}
use Rattle.batch_history.specs.declared.rows.JobInstance.{JobInstance}
use Rattle.batch_history.specs.declared.rows.LastNumbers.{LastNumbers}
use Rattle.batch_history.specs.declared.rows.WorkRow.{WorkRow}
use Rattle.batch_history.proofs.Existing.{AreWhole, IsLeft, IsClaimed, not-true, is_left, is_work_left, execution-left, work-left, owner-left, instance-of, facts-left, walk-left, claimed-left}
use Rattle.batch_history.proofs.Finding.{found-passes}
use Rattle.batch_history.proofs.Finished.{claimed-execution}
use Rattle.batch_history.proofs.Folds.{folded_rows}
use Rattle.batch_history.proofs.Leaving.{on-or-off, never, unless_out, find-numbered, filter-added, filter-changed, change-alike, filter-alike, filter-both}
use Rattle.batch_history.proofs.Purged.{all-whole}
use Rattle.batch_history.specs.NextRows.{instances_after, works_after, with_handed_out, reported, over, last_after, executions_after, refreshed, effect_on, refreshed_at, refreshed_by, fresh_row, again_row, place_in, rows_with, rows_after}
use Rattle.batch_history.proofs.Told.{AllDue, AllDueThere, Due, ToldStop, ToldAbandonment, ToldClaim, ToldReport, ToldRestart, stop-told, abandonment-told, claim-told, checkpoint-told, finish-told, loss-told, restart-told}
use Rattle.batch_history.proofs.WorkLists.{each-map, found-before}
use Rattle.batch_history.specs.Checkpoints.{InstanceStep, instance_step_by, is_same_step, checkpoint_by_report, checkpoint_after, checkpoint_after_report}
use Rattle.batch_history.specs.Lists.{change_first, is_at, Each}
use Rattle.batch_history.specs.Operations.{Report, effects, taken_up_by, purged_by}
use Rattle.batch_history.specs.Purges.{is_purged}
use Rattle.batch_history.specs.Replies.{reply_by, is_nothing, first_ready, has_something, walk_in_rows, restart_plan, works_of_instance}
use Rattle.batch_history.specs.Restarts.{first_plan, plan_by, restart_point}
use Rattle.batch_history.specs.Rows.{Rows, is_execution, instance_in, is_gone, instances_there, executions_there, works_there, checkpoint_there, existing}
use Rattle.batch_history.specs.Walks.{facts_by_work, job_named, walk_of, walk_value}
use Rattle.batch_history.specs.Works.{is_work, work_key, busy_work, execution_of_work, execution_of_operation}

-- what holds of everything holds of each
each-of : {X : Type 0} {P : X → Type 0} (xs : List X) → ((x : X) → P x) → Each P xs
each-of [] h = tt
each-of (x ∷ xs) h = (h x, each-of xs h)

-- rows of these parts
abbrev rows_of : List JobTree → ℕ → LastNumbers → List JobInstance → List ExecutionRow → List WorkRow → (InstanceStep → Option (List ℕ)) → Rows
rows_of catalogue count last instances executions works checkpoint =
    record { catalogue = catalogue; count = count; last = last; instances = instances; executions = executions; works = works; checkpoint = checkpoint }

-- ---- Job instances of job executions

-- a change that keeps number and job instance
pub change-instance : (x y : ℕ) (f : ExecutionRow → ExecutionRow) (rows : List ExecutionRow) → ((row : ExecutionRow) → (f row).execution ≡ row.execution)
    → ((row : ExecutionRow) → (f row).instance ≡ row.instance) → instance_in (change_first (is_execution x) f rows) y ≡ instance_in rows y
change-instance x y f [] number instance = refl
change-instance x y f (row ∷ rows) number instance =
    let rest = change-instance x y f rows number instance in
    on-or-off (row.execution == x)
    (λ here.
    ap (λ b. instance_in (cond b (f row ∷ rows) (row ∷ change_first (is_execution x) f rows)) y) here
    ∙ (ap (λ n. option_map (λ (z : ExecutionRow). z.instance) (cond (n == y) (Some (f row)) (find (is_execution y) rows))) (number row)
    ∙ (elim (row.execution == y) as (λ b. option_map (λ (z : ExecutionRow). z.instance) (cond b (Some (f row)) (find (is_execution y) rows))
    ≡ option_map (λ (z : ExecutionRow). z.instance) (cond b (Some row) (find (is_execution y) rows))) [
      | true ↦ ap (λ (i : ℕ). Some i) (instance row)
      | false ↦ refl
    ])))
    (λ away.
    ap (λ b. instance_in (cond b (f row ∷ rows) (row ∷ change_first (is_execution x) f rows)) y) away
    ∙ (elim (row.execution == y) as (λ b. option_map (λ (z : ExecutionRow). z.instance) (cond b (Some row) (find (is_execution y) (change_first (is_execution x) f rows)))
    ≡ option_map (λ (z : ExecutionRow). z.instance) (cond b (Some row) (find (is_execution y) rows))) [
      | true ↦ refl
      | false ↦ rest
    ]))

refreshed-instance : (catalogue : List JobTree) (works : List WorkRow) (at : ℕ) (call : Call) (reply : Reply) (t : Option ℕ) (rows : List ExecutionRow) (y : ℕ)
    → instance_in (refreshed_at catalogue works at call reply t rows) y ≡ instance_in rows y
refreshed-instance catalogue works at call reply None rows y = refl
refreshed-instance catalogue works at call reply (Some x) rows y =
    change-instance x y (refreshed_by catalogue works at call reply) rows (λ row. refl) (λ row. refl)

-- work items are left out alike
refreshed-works : (gone : ℕ → Bool) (catalogue : List JobTree) (works : List WorkRow) (at : ℕ) (call : Call) (reply : Reply) (t : Option ℕ) (rows : List ExecutionRow)
    (listed : List WorkRow) → works_there gone (refreshed_at catalogue works at call reply t rows) listed ≡ works_there gone rows listed
refreshed-works gone catalogue works at call reply t rows listed =
    ap (λ (instance : ℕ → Option ℕ). filter (λ (row : WorkRow). not (is_gone gone (instance row.execution))) listed)
    (fun_ext (refreshed-instance catalogue works at call reply t rows))

added-instance : (rows : List ExecutionRow) (new : ExecutionRow) (x : ℕ) (o : Option ExecutionRow) → find (is_execution x) rows ≡ o → is_some o ≡ true
    → instance_in (rows ++ new ∷ []) x ≡ instance_in rows x
added-instance rows new x None is some = cc
added-instance rows new x (Some row) is some =
    ap (option_map (λ (z : ExecutionRow). z.instance)) (found-before (is_execution x) rows (new ∷ []) row is ∙ sym is)

added-works : (gone : ℕ → Bool) (r : Rows) (new : ExecutionRow) → AreWhole gone r → works_there gone (r.executions ++ new ∷ []) r.works ≡ works_there gone r.executions r.works
added-works gone r new whole =
    filter-alike (is_work_left gone (r.executions ++ new ∷ [])) (is_work_left gone r.executions) r.works
    (each-map (λ (row : WorkRow). is_some (find (is_execution row.execution) r.executions) ≡ true)
    (λ (row : WorkRow). is_work_left gone (r.executions ++ new ∷ []) row ≡ is_work_left gone r.executions row) r.works
    (λ row there. ap (λ i. not (is_gone gone i)) (added-instance r.executions new row.execution _ refl there)) whole.owned)

-- ---- The job execution that an operation is on

-- it is of a job instance that is not gone
abbrev IsOnLeft : (ℕ → Bool) → Rows → Option ℕ → Type 0
IsOnLeft gone r t = (x : ℕ) → t ≡ Some x → is_gone gone (instance_in r.executions x) ≡ false

found-left : (gone : ℕ → Bool) (r : Rows) (x : ℕ) (row : ExecutionRow) → is_gone gone (instance_in r.executions x) ≡ false → find (is_execution x) r.executions ≡ Some row
    → is_left gone row ≡ true
found-left gone r x row there found = ap not (sym (ap (is_gone gone) (instance-of r.executions x row found)) ∙ there)

-- what is known of its work is what its row after the operation goes by
refreshed-alike : (catalogue : List JobTree) (works left : List WorkRow) (at : ℕ) (call : Call) (reply : Reply) (row : ExecutionRow)
    → facts_by_work row.execution works ≡ facts_by_work row.execution left → refreshed_by catalogue works at call reply row ≡ refreshed_by catalogue left at call reply row
refreshed-alike catalogue works left at call reply row facts =
    ap (λ known. refreshed (effect_on row.execution call reply) (walk_of row.plan known (job_named catalogue row.job)) at row) facts

refreshed-left : (gone : ℕ → Bool) (r : Rows) (works left : List WorkRow) (at : ℕ) (call : Call) (reply : Reply) (t : Option ℕ) → AreWhole gone r
    → works_there gone r.executions works ≡ left → IsOnLeft gone r t
    → executions_there gone (refreshed_at r.catalogue works at call reply t r.executions) ≡ refreshed_at r.catalogue left at call reply t (executions_there gone r.executions)
refreshed-left gone r works left at call reply None whole is on = refl
refreshed-left gone r works left at call reply (Some x) whole is on =
    let there : is_gone gone (instance_in r.executions x) ≡ false = on x refl in
    filter-changed (is_execution x) (is_left gone) (refreshed_by r.catalogue works at call reply) r.executions (λ row. refl)
    (λ row found. found-left gone r x row there found)
    ∙ change-alike (is_execution x) (refreshed_by r.catalogue works at call reply) (refreshed_by r.catalogue left at call reply) (executions_there gone r.executions)
    (λ row found.
    let number : row.execution ≡ x = eqb-true row.execution x (found-passes (is_execution x) (executions_there gone r.executions) row found) in
    let facts : facts_by_work row.execution works ≡ facts_by_work row.execution left =
    sym (facts-left gone r.executions works row.execution (ap (λ y. is_gone gone (instance_in r.executions y)) number ∙ there)) ∙ ap (facts_by_work row.execution) is in
    refreshed-alike r.catalogue works left at call reply row facts)

-- ---- Restarts

-- whether a work item that is left is of a job instance that is not gone, by what is left of the job executions
of-instance-left : (gone : ℕ → Bool) (r : Rows) (i : ℕ) (row : WorkRow) → AreWhole gone r → gone i ≡ false
    → (is_work_left gone r.executions row && is_at i (instance_in (executions_there gone r.executions) row.execution)) ≡ is_at i (instance_in r.executions row.execution)
of-instance-left gone r i row whole there =
    let o : Option ℕ = instance_in r.executions row.execution in
    on-or-off (is_gone gone o)
    (λ on. ap (λ b. not b && is_at i (instance_in (executions_there gone r.executions) row.execution)) on ∙ sym (gone-other o on))
    (λ off. ap (λ b. not b && is_at i (instance_in (executions_there gone r.executions) row.execution)) off
    ∙ ap (λ (found : Option ExecutionRow). is_at i (option_map (λ (z : ExecutionRow). z.instance) found)) (owner-left gone r row.execution whole off))
  where
    gone-other : (o : Option ℕ) → is_gone gone o ≡ true → is_at i o ≡ false
    gone-other None on = refl
    gone-other (Some j) on =
        on-or-off (j == i)
        (λ same. never (gone i) (sym (ap gone (eqb-true j i same)) ∙ on) there)
        (λ other. other)

works-of-left : (gone : ℕ → Bool) (r : Rows) (i : ℕ) → AreWhole gone r → gone i ≡ false → works_of_instance (existing gone r) i ≡ works_of_instance r i
works-of-left gone r i whole there =
    let among : WorkRow → Bool = λ row. is_at i (instance_in (executions_there gone r.executions) row.execution) in
    filter-both among (is_work_left gone r.executions) r.works
    ∙ filter-alike (λ row. is_work_left gone r.executions row && among row) (λ row. is_at i (instance_in r.executions row.execution)) r.works
    (each-of r.works (λ row. of-instance-left gone r i row whole there))

-- the plan of a restart
plan-left : (gone : ℕ → Bool) (r : Rows) (row : ExecutionRow) → AreWhole gone r → gone row.instance ≡ false → is_gone gone (instance_in r.executions row.execution) ≡ false
    → restart_plan (existing gone r) row ≡ restart_plan r row
plan-left gone r row whole there itself =
    ap (λ value. plan_by (restart_point (is_some row.start) value row.plan.from) (works_of_instance (existing gone r) row.instance) (job_named r.catalogue row.job)) (walk-left gone r row itself)
    ∙ ap (λ works. plan_by (restart_point (is_some row.start) (walk_in_rows r row) row.plan.from) works (job_named r.catalogue row.job)) (works-of-left gone r row.instance whole there)

-- ---- Checkpoints

-- a report of work of another step leaves a checkpoint as it was
other-report : (here : ℕ → Bool) (report : Option Report) (earlier : Option (List ℕ)) → ((w : ℕ) → here w ≡ false) → checkpoint_after_report here report earlier ≡ earlier
other-report here None earlier off = refl
other-report here (Some r) earlier off = ap (λ b. cond b (checkpoint_by_report r.mark r.end earlier) earlier) (off r.work)

-- the step of a work item, by what is left and by all
place-gone : (gone : ℕ → Bool) (p : InstanceStep) (o : Option ℕ) (key : WorkKey) → gone p.instance ≡ true → is_gone gone o ≡ false
    → is_same_step p (option_map (λ i. record { instance = i; step = key }) o) ≡ false
place-gone gone p None key on off = refl
place-gone gone p (Some j) key on off =
    on-or-off (j == p.instance)
    (λ same. never (gone p.instance) on (sym (ap gone (eqb-true j p.instance same)) ∙ off))
    (λ other. ap (λ b. b && is_same_key key p.step) other)

place-other : (gone : ℕ → Bool) (p : InstanceStep) (o : Option ℕ) (key : WorkKey) → gone p.instance ≡ false → is_gone gone o ≡ true
    → is_same_step p (option_map (λ i. record { instance = i; step = key }) o) ≡ false
place-other gone p None key off on = refl
place-other gone p (Some j) key off on =
    on-or-off (j == p.instance)
    (λ same. never (gone p.instance) (sym (ap gone (eqb-true j p.instance same)) ∙ on) off)
    (λ other. ap (λ b. b && is_same_key key p.step) other)

-- the step of a work item, by the job instances of what is left, if it is left itself
abbrev place_left : (ℕ → Bool) → Rows → Option WorkRow → Option InstanceStep
place_left gone r o = instance_step_by (instance_in (executions_there gone r.executions)) (unless_out (is_work_left gone r.executions) o)

place-found : (gone : ℕ → Bool) (r : Rows) (w : ℕ) → AreWhole gone r → place_in (existing gone r) w ≡ place_left gone r (find (is_work w) r.works)
place-found gone r w whole =
    ap (instance_step_by (instance_in (executions_there gone r.executions)))
    (find-numbered (λ (row : WorkRow). row.work) (is_work_left gone r.executions) w 1 r.works whole.works)

-- a work item that is left has the step that it has in all
left-place : (gone : ℕ → Bool) (r : Rows) (row : WorkRow) → AreWhole gone r → is_gone gone (instance_in r.executions row.execution) ≡ false
    → place_left gone r (Some row) ≡ instance_step_by (instance_in r.executions) (Some row)
left-place gone r row whole off =
    ap (λ b. instance_step_by (instance_in (executions_there gone r.executions)) (cond (not b) (Some row) None)) off
    ∙ ap (λ (found : Option ExecutionRow). option_map (λ i. record { instance = i; step = work_key row }) (option_map (λ (z : ExecutionRow). z.instance) found))
    (owner-left gone r row.execution whole off)

-- no work item that is left is of a step of a job instance that is gone
step-gone : (gone : ℕ → Bool) (r : Rows) (p : InstanceStep) (o : Option WorkRow) → AreWhole gone r → gone p.instance ≡ true → is_same_step p (place_left gone r o) ≡ false
step-gone gone r p None whole on = refl
step-gone gone r p (Some row) whole on =
    on-or-off (is_gone gone (instance_in r.executions row.execution))
    (λ out. ap (λ b. is_same_step p (instance_step_by (instance_in (executions_there gone r.executions)) (cond (not b) (Some row) None))) out)
    (λ left. ap (is_same_step p) (left-place gone r row whole left) ∙ place-gone gone p (instance_in r.executions row.execution) (work_key row) on left)

-- of a step of another one, those are that were
step-left : (gone : ℕ → Bool) (r : Rows) (p : InstanceStep) (o : Option WorkRow) → AreWhole gone r → gone p.instance ≡ false
    → is_same_step p (instance_step_by (instance_in r.executions) o) ≡ is_same_step p (place_left gone r o)
step-left gone r p None whole there = refl
step-left gone r p (Some row) whole there =
    on-or-off (is_gone gone (instance_in r.executions row.execution))
    (λ out. place-other gone p (instance_in r.executions row.execution) (work_key row) there out
    ∙ sym (ap (λ b. is_same_step p (instance_step_by (instance_in (executions_there gone r.executions)) (cond (not b) (Some row) None))) out))
    (λ left. ap (is_same_step p) (sym (left-place gone r row whole left)))

-- the checkpoints after a call
marks-left : (gone : ℕ → Bool) (r : Rows) (call : Call) → AreWhole gone r
    → checkpoint_there gone (λ p. checkpoint_after (λ w. is_same_step p (place_in r w)) call (r.checkpoint p))
    ≡ (λ p. checkpoint_after (λ w. is_same_step p (place_in (existing gone r) w)) call (checkpoint_there gone r.checkpoint p))
marks-left gone r call whole = fun_ext (λ p. on-or-off (gone p.instance)
    (λ on.
    ap (λ b. cond b None (checkpoint_after (λ w. is_same_step p (place_in r w)) call (r.checkpoint p))) on
    ∙ (sym (other-report (λ w. is_same_step p (place_in (existing gone r) w)) (effects call).reports None
    (λ w. ap (is_same_step p) (place-found gone r w whole) ∙ step-gone gone r p (find (is_work w) r.works) whole on))
    ∙ sym (ap (λ b. checkpoint_after (λ w. is_same_step p (place_in (existing gone r) w)) call (cond b None (r.checkpoint p))) on)))
    (λ off.
    ap (λ b. cond b None (checkpoint_after (λ w. is_same_step p (place_in r w)) call (r.checkpoint p))) off
    ∙ (ap (λ here. checkpoint_after here call (r.checkpoint p))
    (fun_ext (λ w. step-left gone r p (find (is_work w) r.works) whole off ∙ sym (ap (is_same_step p) (place-found gone r w whole))))
    ∙ sym (ap (λ b. checkpoint_after (λ w. is_same_step p (place_in (existing gone r) w)) call (cond b None (r.checkpoint p))) off))))

-- ---- One operation more

-- rows that are alike
alike : (catalogue : List JobTree) (count : ℕ) (last : LastNumbers) (i1 i2 : List JobInstance) (e1 e2 : List ExecutionRow) (w1 w2 : List WorkRow)
    (c1 c2 : InstanceStep → Option (List ℕ)) → i1 ≡ i2 → e1 ≡ e2 → w1 ≡ w2 → c1 ≡ c2
    → rows_of catalogue count last i1 e1 w1 c1 ≡ rows_of catalogue count last i2 e2 w2 c2
alike catalogue count last i1 i2 e1 e2 w1 w2 c1 c2 i e w c =
    ap (λ x. rows_of catalogue count last x e1 w1 c1) i ∙ (ap (λ x. rows_of catalogue count last i2 x w1 c1) e
    ∙ (ap (λ x. rows_of catalogue count last i2 e2 x c1) w ∙ ap (λ x. rows_of catalogue count last i2 e2 w2 x) c))

-- what exists after an operation on a job execution
on-step : (gone : ℕ → Bool) (r : Rows) (who at : ℕ) (call : Call) (reply : Reply) (t s : Option ℕ) (instances : List JobInstance) (works left : List WorkRow)
    → AreWhole gone r → works_there gone r.executions works ≡ left → IsOnLeft gone r t → t ≡ s
    → rows_of r.catalogue (r.count + 1) (last_after call reply r.last) (instances_there gone r.instances)
    (executions_there gone (refreshed_at r.catalogue works at call reply t r.executions))
    (works_there gone (refreshed_at r.catalogue works at call reply t r.executions) works)
    (checkpoint_there gone (λ p. checkpoint_after (λ w. is_same_step p (place_in r w)) call (r.checkpoint p)))
    ≡ rows_of r.catalogue (r.count + 1) (last_after call reply r.last) (instances_there gone r.instances)
    (refreshed_at r.catalogue left at call reply s (executions_there gone r.executions)) left
    (λ p. checkpoint_after (λ w. is_same_step p (place_in (existing gone r) w)) call (checkpoint_there gone r.checkpoint p))
on-step gone r who at call reply t s instances works left whole is on same =
    alike r.catalogue (r.count + 1) (last_after call reply r.last) _ _ _ _ _ _ _ _ refl
    (refreshed-left gone r works left at call reply t whole is on ∙ ap (λ o. refreshed_at r.catalogue left at call reply o (executions_there gone r.executions)) same)
    (refreshed-works gone r.catalogue works at call reply t r.executions works ∙ is)
    (marks-left gone r call whole)

-- the job execution of a row that is left
row-left : (gone : ℕ → Bool) (r : Rows) (x : ℕ) (row : ExecutionRow) → AreWhole gone r → find (is_execution x) (executions_there gone r.executions) ≡ Some row
    → is_gone gone (instance_in r.executions x) ≡ false
row-left gone r x row whole found =
    let left : IsLeft (is_left gone) (find (is_execution x) r.executions) row = execution-left gone r x row whole found in
    ap (is_gone gone) (instance-of r.executions x row left.found) ∙ not-true (gone row.instance) left.left

named-left : (gone : ℕ → Bool) (r : Rows) (y : ℕ) (row : ExecutionRow) → AreWhole gone r → find (is_execution y) (executions_there gone r.executions) ≡ Some row
    → IsOnLeft gone r (Some y)
named-left gone r y row whole found x is =
    let same : y ≡ x = cc in
    ap (λ z. is_gone gone (instance_in r.executions z)) (sym same) ∙ row-left gone r y row whole found

-- a report is of a work item that is left
record IsReported (gone : ℕ → Bool) (r : Rows) (w : ℕ) : Type 0 where
  on : IsOnLeft gone r (execution_of_work r.works w)
  same : execution_of_work r.works w ≡ execution_of_work (works_there gone r.executions r.works) w
  left : (row : WorkRow) → find (is_work w) r.works ≡ Some row → is_work_left gone r.executions row ≡ true

reported-left : (gone : ℕ → Bool) (r : Rows) (w : ℕ) → AreWhole gone r → ToldReport (works_there gone r.executions r.works) w → IsReported gone r w
reported-left gone r w whole told =
    let from : IsLeft (is_work_left gone r.executions) (find (is_work w) r.works) told.row = work-left gone r w told.row whole told.found in
    let owner : execution_of_work r.works w ≡ Some told.row.execution = ap (option_map (λ (row : WorkRow). row.execution)) from.found in
    record {
      on = λ x is.
          let both : Some told.row.execution ≡ Some x = sym owner ∙ is in
          let same : told.row.execution ≡ x = cc in
          ap (λ z. is_gone gone (instance_in r.executions z)) (sym same) ∙ not-true _ from.left;
      same = owner ∙ sym (ap (option_map (λ (row : WorkRow). row.execution)) told.found);
      left = λ row found.
          let both : Some told.row ≡ Some row = sym from.found ∙ found in
          let same : told.row ≡ row = cc in
          subst (λ (z : WorkRow). is_work_left gone r.executions z ≡ true) same from.left;
    }

report-step : (gone : ℕ → Bool) (r : Rows) (w : ℕ) (f : WorkRow → WorkRow) → ((row : WorkRow) → (f row).execution ≡ row.execution) → IsReported gone r w
    → works_there gone r.executions (change_first (is_work w) f r.works) ≡ change_first (is_work w) f (works_there gone r.executions r.works)
report-step gone r w f keeps reported =
    filter-changed (is_work w) (is_work_left gone r.executions) f r.works (λ row. ap (λ x. not (is_gone gone (instance_in r.executions x))) (keeps row)) reported.left

-- a claim takes up a job execution that is left
taken-left : (gone : ℕ → Bool) (r : Rows) (reply : Reply) → AreWhole gone r → ToldClaim (existing gone r) reply → IsOnLeft gone r (taken_up_by reply)
taken-left gone r reply whole told x is =
    let claimed : IsClaimed gone r told.row = claimed-left gone r told.row whole told.found in
    let both : Some told.row.execution ≡ Some x =
    sym (ap taken_up_by told.answered ∙ claimed-execution (existing gone r) told.row (first_ready (walk_in_rows (existing gone r) told.row))) ∙ is in
    let same : told.row.execution ≡ x = cc in
    ap (λ z. is_gone gone (instance_in r.executions z)) (sym same) ∙ claimed.there

handed-left : (gone : ℕ → Bool) (r : Rows) (who at : ℕ) (reply : Reply) → IsOnLeft gone r (taken_up_by reply)
    → works_there gone r.executions (with_handed_out who at reply r.works) ≡ with_handed_out who at reply (works_there gone r.executions r.works)
handed-left gone r who at (Work item) on = filter-added (is_work_left gone r.executions) r.works (busy_work who at item) (ap not (on item.execution refl))
handed-left gone r who at (IsExecution x) on = refl
handed-left gone r who at (Closed x) on = refl
handed-left gone r who at Nothing on = refl
handed-left gone r who at Done on = refl
handed-left gone r who at Go on = refl
handed-left gone r who at StopAsked on = refl

-- a job execution is made
made-left : (gone : ℕ → Bool) (r : Rows) (call : Call) (reply : Reply) (one two : List JobInstance) (new other : ExecutionRow) → AreWhole gone r
    → instances_there gone one ≡ two → new ≡ other → gone new.instance ≡ false
    → rows_of r.catalogue (r.count + 1) (last_after call reply r.last) (instances_there gone one)
    (executions_there gone (r.executions ++ new ∷ [])) (works_there gone (r.executions ++ new ∷ []) r.works)
    (checkpoint_there gone (λ p. checkpoint_after (λ w. is_same_step p (place_in r w)) call (r.checkpoint p)))
    ≡ rows_of r.catalogue (r.count + 1) (last_after call reply r.last) two
    (executions_there gone r.executions ++ other ∷ []) (works_there gone r.executions r.works)
    (λ p. checkpoint_after (λ w. is_same_step p (place_in (existing gone r) w)) call (checkpoint_there gone r.checkpoint p))
made-left gone r call reply one two new other whole instances same there =
    alike r.catalogue (r.count + 1) (last_after call reply r.last) _ _ _ _ _ _ _ _ instances
    (filter-added (is_left gone) r.executions new (ap not there) ∙ ap (λ z. executions_there gone r.executions ++ z ∷ []) same)
    (added-works gone r new whole) (marks-left gone r call whole)

again-left : (gone : ℕ → Bool) (r : Rows) (x at : ℕ) (parameters : List Pair) (row : ExecutionRow) → AreWhole gone r → gone row.instance ≡ false
    → is_gone gone (instance_in r.executions row.execution) ≡ false
    → again_row r x at parameters (Some row) ≡ again_row (existing gone r) x at parameters (Some row)
again-left gone r x at parameters row whole there itself = ap (fresh_row x row.instance at row.job parameters) (sym (plan-left gone r row whole there itself))

restart-step : (gone : ℕ → Bool) (r : Rows) (who at y : ℕ) (parameters : List Pair) (reply : Reply) → AreWhole gone r → ToldRestart (existing gone r) y
    → existing gone (rows_with r record { who = who; call = Restart y parameters; at = at; reply = reply })
    ≡ rows_with (existing gone r) record { who = who; call = Restart y parameters; at = at; reply = reply }
restart-step gone r who at y parameters reply whole told =
    let row : ExecutionRow = told.row in
    let from : IsLeft (is_left gone) (find (is_execution y) r.executions) row = execution-left gone r y row whole told.found in
    let n : ℕ = r.last.execution + 1 in
    let there : gone row.instance ≡ false = not-true (gone row.instance) from.left in
    let number : row.execution ≡ y = eqb-true row.execution y (found-passes (is_execution y) r.executions row from.found) in
    let itself : is_gone gone (instance_in r.executions row.execution) ≡ false =
    ap (λ z. is_gone gone (instance_in r.executions z)) number ∙ row-left gone r y row whole told.found in
    let new : again_row r n at parameters (find (is_execution y) r.executions) ≡ again_row r n at parameters (Some row) = ap (again_row r n at parameters) from.found in
    made-left gone r (Restart y parameters) reply r.instances (instances_there gone r.instances) _ _ whole refl
    (new ∙ (again-left gone r n at parameters row whole there itself ∙ sym (ap (again_row (existing gone r) n at parameters) told.found)))
    (ap (λ (z : ExecutionRow). gone z.instance) new ∙ there)

-- what an accepted call does to all that was made, it does to what exists
grown-step : (limit : ℕ) (gone : ℕ → Bool) (r : Rows) (who at : ℕ) (call : Call) (reply : Reply) → AreWhole gone r
    → reply_by limit (existing gone r) who call ≡ Ok reply → is_nothing reply ≡ false → purged_by call ≡ None
    → existing gone (rows_with r record { who = who; call = call; at = at; reply = reply })
    ≡ rows_with (existing gone r) record { who = who; call = call; at = at; reply = reply }
grown-step limit gone r who at (Start job parameters) reply whole due some none =
    made-left gone r (Start job parameters) reply _ _ _ _ whole
    (filter-added (λ (row : JobInstance). not (gone row.instance)) r.instances (record { instance = r.last.instance + 1; job = job }) (ap not whole.begun))
    refl whole.begun
grown-step limit gone r who at (Restart y parameters) reply whole due some none =
    restart-step gone r who at y parameters reply whole (restart-told limit (existing gone r) y reply due)
grown-step limit gone r who at (Stop y) reply whole due some none =
    let told : ToldStop (existing gone r) y = stop-told limit (existing gone r) y reply due in
    on-step gone r who at (Stop y) reply (Some y) (Some y) r.instances r.works (works_there gone r.executions r.works) whole refl (named-left gone r y told.row whole told.found) refl
grown-step limit gone r who at (Abandon y) reply whole due some none =
    let told : ToldAbandonment (existing gone r) y = abandonment-told limit (existing gone r) y reply due in
    on-step gone r who at (Abandon y) reply (Some y) (Some y) r.instances r.works (works_there gone r.executions r.works) whole refl (named-left gone r y told.row whole told.found) refl
grown-step limit gone r who at Claim reply whole due some none =
    let on : IsOnLeft gone r (taken_up_by reply) = taken-left gone r reply whole (claim-told limit (existing gone r) reply due some) in
    on-step gone r who at Claim reply (taken_up_by reply) (taken_up_by reply) r.instances (with_handed_out who at reply r.works) _ whole (handed-left gone r who at reply on) on refl
grown-step limit gone r who at (Checkpoint w mark step) reply whole due some none =
    let is : IsReported gone r w = reported-left gone r w whole (checkpoint-told limit (existing gone r) who w reply due) in
    on-step gone r who at (Checkpoint w mark step) reply _ _ r.instances (change_first (is_work w) (reported step) r.works) _ whole
    (report-step gone r w (reported step) (λ row. refl) is) is.on is.same
grown-step limit gone r who at (Finish w o exit step) reply whole due some none =
    let is : IsReported gone r w = reported-left gone r w whole (finish-told limit (existing gone r) who w o reply due) in
    on-step gone r who at (Finish w o exit step) reply _ _ r.instances (change_first (is_work w) (over o exit step at (r.count + 1)) r.works) _ whole
    (report-step gone r w (over o exit step at (r.count + 1)) (λ row. refl) is) is.on is.same
grown-step limit gone r who at (Lose w) reply whole due some none =
    let is : IsReported gone r w = reported-left gone r w whole (loss-told limit r.count (works_there gone r.executions r.works) w reply due) in
    on-step gone r who at (Lose w) reply _ _ r.instances (change_first (is_work w) (over Failed None zero_step at (r.count + 1)) r.works) _ whole
    (report-step gone r w (over Failed None zero_step at (r.count + 1)) (λ row. refl) is) is.on is.same
grown-step limit gone r who at (Purge i) reply whole due some none = cc

-- ---- One job instance less

-- what is gone after a purge
gone-more : (i j : ℕ) (before : Bool) → not ((i == j) || before) ≡ (not before && not (j == i))
gone-more i j before =
    on-or-off (i == j)
    (λ on.
    let same : (j == i) ≡ true = eq-eqb j i (sym (eqb-true i j on)) in
    ap (λ b. not (b || before)) on ∙ (sym (never-more before) ∙ sym (ap (λ b. not before && not b) same)))
    (λ off.
    let other : (j == i) ≡ false = ne_eqb j i (λ e. eqb-false i j off (sym e)) in
    ap (λ b. not (b || before)) off ∙ (sym (still-more (not before)) ∙ sym (ap (λ b. not before && not b) other)))
  where
    never-more : (b : Bool) → (not b && false) ≡ false
    never-more true = refl
    never-more false = refl

    still-more : (b : Bool) → (b && true) ≡ b
    still-more true = refl
    still-more false = refl

work-more : (gone : ℕ → Bool) (r : Rows) (i : ℕ) (row : WorkRow) → AreWhole gone r
    → not (is_gone (λ j. (i == j) || gone j) (instance_in r.executions row.execution))
    ≡ (is_work_left gone r.executions row && not (is_gone (λ j. j == i) (instance_in (executions_there gone r.executions) row.execution)))
work-more gone r i row whole =
    let o : Option ℕ = instance_in r.executions row.execution in
    on-or-off (is_gone gone o)
    (λ on. ap not (gone-still o on) ∙ sym (ap (λ b. not b && not (is_gone (λ j. j == i) (instance_in (executions_there gone r.executions) row.execution))) on))
    (λ off.
    gone-left o off
    ∙ (sym (ap (λ (found : Option ExecutionRow). not (is_gone (λ j. j == i) (option_map (λ (z : ExecutionRow). z.instance) found))) (owner-left gone r row.execution whole off))
    ∙ sym (ap (λ b. not b && not (is_gone (λ j. j == i) (instance_in (executions_there gone r.executions) row.execution))) off)))
  where
    gone-still : (o : Option ℕ) → is_gone gone o ≡ true → is_gone (λ j. (i == j) || gone j) o ≡ true
    gone-still None on = cc
    gone-still (Some j) on = ap (λ b. (i == j) || b) on ∙ or-true (i == j)

    gone-left : (o : Option ℕ) → is_gone gone o ≡ false → not (is_gone (λ j. (i == j) || gone j) o) ≡ not (is_gone (λ j. j == i) o)
    gone-left None off = refl
    gone-left (Some j) off = gone-more i j (gone j) ∙ ap (λ b. not b && not (j == i)) off

purge-step : (gone : ℕ → Bool) (r : Rows) (i : ℕ) → AreWhole gone r → existing (λ j. (i == j) || gone j) r ≡ existing (λ j. j == i) (existing gone r)
purge-step gone r i whole =
    alike r.catalogue r.count r.last _ _ _ _ _ _ _ _
    (filter-alike _ _ r.instances (each-of r.instances (λ row. gone-more i row.instance (gone row.instance)))
    ∙ sym (filter-both (λ (row : JobInstance). not (row.instance == i)) (λ (row : JobInstance). not (gone row.instance)) r.instances))
    (filter-alike _ _ r.executions (each-of r.executions (λ row. gone-more i row.instance (gone row.instance)))
    ∙ sym (filter-both (λ (row : ExecutionRow). not (row.instance == i)) (is_left gone) r.executions))
    (filter-alike _ _ r.works (each-of r.works (λ row. work-more gone r i row whole))
    ∙ sym (filter-both (λ (row : WorkRow). not (is_gone (λ j. j == i) (instance_in (executions_there gone r.executions) row.execution))) (is_work_left gone r.executions) r.works))
    (fun_ext (λ p. none-more (i == p.instance) (p.instance == i) (gone p.instance) (r.checkpoint p) (gone-more i p.instance (gone p.instance))))
  where
    none-more : (b c g : Bool) (mark : Option (List ℕ)) → not (b || g) ≡ (not g && not c) → cond (b || g) None mark ≡ cond c None (cond g None mark)
    none-more true true g mark h = refl
    none-more true false true mark h = refl
    none-more true false false mark h = cc
    none-more false true true mark h = refl
    none-more false true false mark h = cc
    none-more false false true mark h = refl
    none-more false false false mark h = refl

-- ---- Every legal history

-- what exists after one operation more follows from what existed before it
step-by-call : (limit : ℕ) (catalogue : List JobTree) (past : List Entry) (who at : ℕ) (call : Call) (reply : Reply) → AreWhole (is_purged past) (folded_rows catalogue past)
    → reply_by limit (existing (is_purged past) (folded_rows catalogue past)) who call ≡ Ok reply → is_nothing reply ≡ false
    → existing (is_purged (record { who = who; call = call; at = at; reply = reply } ∷ past)) (rows_with (folded_rows catalogue past) record { who = who; call = call; at = at; reply = reply })
    ≡ rows_after (existing (is_purged past) (folded_rows catalogue past)) record { who = who; call = call; at = at; reply = reply }
step-by-call limit catalogue past who at (Start job parameters) reply whole due some = grown-step limit (is_purged past) (folded_rows catalogue past) who at (Start job parameters) reply whole due some refl
step-by-call limit catalogue past who at (Restart y parameters) reply whole due some = grown-step limit (is_purged past) (folded_rows catalogue past) who at (Restart y parameters) reply whole due some refl
step-by-call limit catalogue past who at (Stop y) reply whole due some = grown-step limit (is_purged past) (folded_rows catalogue past) who at (Stop y) reply whole due some refl
step-by-call limit catalogue past who at (Abandon y) reply whole due some = grown-step limit (is_purged past) (folded_rows catalogue past) who at (Abandon y) reply whole due some refl
step-by-call limit catalogue past who at Claim reply whole due some = grown-step limit (is_purged past) (folded_rows catalogue past) who at Claim reply whole due some refl
step-by-call limit catalogue past who at (Checkpoint w mark step) reply whole due some =
    grown-step limit (is_purged past) (folded_rows catalogue past) who at (Checkpoint w mark step) reply whole due some refl
step-by-call limit catalogue past who at (Finish w o exit step) reply whole due some =
    grown-step limit (is_purged past) (folded_rows catalogue past) who at (Finish w o exit step) reply whole due some refl
step-by-call limit catalogue past who at (Lose w) reply whole due some = grown-step limit (is_purged past) (folded_rows catalogue past) who at (Lose w) reply whole due some refl
step-by-call limit catalogue past who at (Purge i) reply whole due some =
    ap (λ (r : Rows). record r { count = r.count + 1 }) (purge-step (is_purged past) (folded_rows catalogue past) i whole)

pub existing-step : (limit : ℕ) (catalogue : List JobTree) (past : List Entry) (e : Entry)
    → AllDue limit catalogue (e ∷ past) → AllDueThere limit catalogue (e ∷ past)
    → existing (is_purged (e ∷ past)) (rows_with (folded_rows catalogue past) e) ≡ rows_after (existing (is_purged past) (folded_rows catalogue past)) e
existing-step limit catalogue past e due there =
    step-by-call limit catalogue past e.who e.at e.call e.reply (all-whole limit catalogue past due.1 there.1) there.0 due.0.1
