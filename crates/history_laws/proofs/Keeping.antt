-- The laws of done and kept: each is what the other says of earlier job executions.
use mathlib.Core.Path.{fun_ext}
use Rattle.std.proofs.Common.{◌≡◌, ◌↔◌, ◌⊎◌, inl, inr, ℕ, zero, suc, ◌+◌, ◌==◌, ◌<◌, ◌≤◌, ◌&&◌, ◌||◌, Bool, true, false, cond, nat_lt, Option, None, Some, List, [], ◌∷◌, map, filter, reverse, refl, sym, ◌∙◌, ap, subst, arith}
use Rattle.std.specs.List.{list_any, list_all, flat_map, range_with_len}
use Rattle.std.specs.Option.{option_map}
use Rattle.std.specs.Str.{bytes_eq}
use Rattle.std.proofs.lemmas.Bool.{and_parts, or_cases, eqb-true, eqb-false}
use Rattle.jsl_model.specs.Jobs.{JobTree}
use Rattle.walk_rules.specs.Keys.{key_of, numbers_to}
use Rattle.walk_rules.specs.declared.work_key.WorkKey.{WorkKey}
use Rattle.batch_history.specs.Executions.{Origin, origin_of, instance_of_execution}
use Rattle.batch_history.specs.JobSteps.{JobStep, all_steps}
use Rattle.batch_history.specs.Legal.{IsLegal}
use Rattle.batch_history.specs.Lists.{is_at}
use Rattle.batch_history.specs.Partitions.{completes_in, works_before, partitions_kept}
use Rattle.batch_history.specs.Restarts.{is_same_number, is_earlier_work, works_of_step, plan_by, beginning_of}
use Rattle.batch_history.specs.Rows.{History, row_of_origin}
use Rattle.batch_history.specs.Walks.{job_named}
use Rattle.batch_history.specs.Works.{work_items}
use Rattle.batch_history.specs.declared.call.Entry.{Entry}
use Rattle.batch_history.specs.declared.rows.ExecutionRow.{ExecutionRow}
use Rattle.batch_history.specs.declared.rows.WorkRow.{WorkRow}
use Rattle.batch_history.proofs.Finished.{on-it}
use Rattle.batch_history.proofs.Folds.{made, works_of, instance_made}
use Rattle.batch_history.proofs.Items.{works-law}
use Rattle.batch_history.proofs.Kept.{kept}
use Rattle.batch_history.proofs.Legality.{past-due}
use Rattle.batch_history.proofs.Origins.{instance-law}
use Rattle.batch_history.proofs.Pasts.{AllFit}
use Rattle.batch_history.proofs.Plans.{due-all-fit}
use Rattle.batch_history.proofs.Told.{AllDue}
use Rattle.history_laws.specs.Laws.{row_in, works_of_instance_in}
use Rattle.history_laws.specs.Partitions.{works_of_step_in, is_kept_in, is_done_in, IsKept, IsDone, partitions_kept_in, all_kept_in}
use Rattle.history_laws.proofs.Numbers.{kept-forth, kept-back, done-is}
use Rattle.history_laws.proofs.Rising.{AreRising, rising-filter, rising-instance, all-in-order}

-- ---- The work items of a step in a job instance

rising-step : (limit : ℕ) (h : History) → IsLegal limit h → (i : ℕ) (step : List ℕ) → AreRising (works_of_step_in h i step)
rising-step limit h legal i step =
    let past : List Entry = reverse h.log in
    let due : AllDue limit h.catalogue past = past-due limit h legal in
    let fit : AllFit past = due-all-fit limit h.catalogue past due in
    let instances : instance_made (made past) ≡ instance_of_execution past = fun_ext (λ x. instance-law past fit x) in
    let folded : AreRising (filter (λ work. is_at i (instance_made (made past) work.execution)) (works_of past)) =
    rising-instance h.catalogue past i (works_of past) (kept limit h.catalogue past due).held (all-in-order limit h.catalogue past due) in
    let rising : AreRising (works_of_instance_in h i) =
    subst (λ (f : ℕ → Option ℕ). AreRising (filter (λ work. is_at i (f work.execution)) (work_items past))) instances
    (subst (λ rows. AreRising (filter (λ work. is_at i (instance_made (made past) work.execution)) rows)) (sym (works-law past fit)) folded) in
    rising-filter (λ (row : WorkRow). bytes_eq row.element step) (works_of_instance_in h i) rising

-- ---- All of so many numbers

all-forth : (p : ℕ → Bool) (a n : ℕ) → list_all p (range_with_len a n) ≡ true → (k : ℕ) → a ≤ k → k < a + n → p k ≡ true
all-forth p a zero h k le lt = absurd (omega (arith, le, lt))
all-forth p a (suc n) h k le lt =
    let both = and_parts (p a) (list_all p (range_with_len (a + 1) n)) h in
    on-it (a == k)
    (λ on. subst (λ m. p m ≡ true) (eqb-true a k on) both.0)
    (λ off. let differ = eqb-false a k off in all-forth p (a + 1) n both.1 k (omega (arith, le, differ)) (omega (arith, lt)))

all-back : (p : ℕ → Bool) (a n : ℕ) → ((k : ℕ) → a ≤ k → k < a + n → p k ≡ true) → list_all p (range_with_len a n) ≡ true
all-back p a zero h = refl
all-back p a (suc n) h =
    ap (λ b. b && list_all p (range_with_len (a + 1) n)) (h a (omega arith) (omega arith))
    ∙ all-back p (a + 1) n (λ k le lt. h k (omega (arith, le)) (omega (arith, lt)))

either : (a b : Bool) → (a ≡ true) ⊎ (b ≡ true) → (a || b) ≡ true
either a b (inl h) = ap (λ c. c || b) h
either true b (inr h) = refl
either false b (inr h) = h

-- ---- The laws

pub kept_where : (limit : ℕ) (h : History) → IsLegal limit h → (i n x p : ℕ) (step : List ℕ)
    → (is_kept_in n (works_of_step_in h i step) x p ≡ true) ↔ IsKept n (works_of_step_in h i step) x p
kept_where limit h legal i n x p step =
    let rising : AreRising (works_of_step_in h i step) = rising-step limit h legal i step in
    (kept-forth n (works_of_step_in h i step) x p rising, kept-back n (works_of_step_in h i step) x p rising)

done-forth : (n : ℕ) (works : List WorkRow) (y : ℕ) → AreRising works → is_done_in n works y ≡ true → IsDone n works y
done-forth n works y rising h =
    let both = and_parts (list_any (λ (row : WorkRow). row.execution == y) works) (list_all (λ p. is_kept_in n works y p || completes_in works y p) (numbers_to n)) (sym (done-is n works y rising) ∙ h) in
    record {
      worked = both.0;
      each = λ p lt. or_cases (is_kept_in n works y p) (completes_in works y p) (all-forth (λ p. is_kept_in n works y p || completes_in works y p) 0 n both.1 p (omega arith) (omega (arith, lt)));
    }

done-back : (n : ℕ) (works : List WorkRow) (y : ℕ) → AreRising works → IsDone n works y → is_done_in n works y ≡ true
done-back n works y rising d =
    done-is n works y rising
    ∙ (ap (λ b. b && list_all (λ p. is_kept_in n works y p || completes_in works y p) (numbers_to n)) d.worked
    ∙ all-back (λ p. is_kept_in n works y p || completes_in works y p) 0 n
    (λ k _ lt. either (is_kept_in n works y k) (completes_in works y k) (d.each k (omega (arith, lt)))))

pub done_where : (limit : ℕ) (h : History) → IsLegal limit h → (i n y : ℕ) (step : List ℕ)
    → (is_done_in n (works_of_step_in h i step) y ≡ true) ↔ IsDone n (works_of_step_in h i step) y
done_where limit h legal i n y step =
    let rising : AreRising (works_of_step_in h i step) = rising-step limit h legal i step in
    (done-forth n (works_of_step_in h i step) y rising, done-back n (works_of_step_in h i step) y rising)

-- ---- The plan

-- tests may be made in another order
filter-thrice : (a b p : WorkRow → Bool) (rows : List WorkRow) → filter p (filter (λ r. a r && b r) rows) ≡ filter a (filter p (filter b rows))
filter-thrice a b p [] = refl
filter-thrice a b p (r ∷ rs) =
    (elim (a r) as (λ x. a r ≡ x → filter p (cond (x && b r) (r ∷ filter (λ r. a r && b r) rs) (filter (λ r. a r && b r) rs)) ≡ filter a (filter p (filter b (r ∷ rs)))) [
      | true ↦ λ on. (elim (b r) as (λ y. filter p (cond y (r ∷ filter (λ r. a r && b r) rs) (filter (λ r. a r && b r) rs)) ≡ filter a (filter p (cond y (r ∷ filter b rs) (filter b rs)))) [
        | true ↦ (elim (p r) as (λ z. cond z (r ∷ filter p (filter (λ r. a r && b r) rs)) (filter p (filter (λ r. a r && b r) rs)) ≡ filter a (cond z (r ∷ filter p (filter b rs)) (filter p (filter b rs)))) [
          | true ↦ ap (λ l. r ∷ l) (filter-thrice a b p rs) ∙ sym (ap (λ c. cond c (r ∷ filter a (filter p (filter b rs))) (filter a (filter p (filter b rs)))) on)
          | false ↦ filter-thrice a b p rs
        ])
        | false ↦ filter-thrice a b p rs
      ])
      | false ↦ λ off. (elim (b r) as (λ y. filter p (filter (λ r. a r && b r) rs) ≡ filter a (filter p (cond y (r ∷ filter b rs) (filter b rs)))) [
        | true ↦ (elim (p r) as (λ z. filter p (filter (λ r. a r && b r) rs) ≡ filter a (cond z (r ∷ filter p (filter b rs)) (filter p (filter b rs)))) [
          | true ↦ filter-thrice a b p rs ∙ sym (ap (λ c. cond c (r ∷ filter a (filter p (filter b rs))) (filter a (filter p (filter b rs)))) off)
          | false ↦ filter-thrice a b p rs
        ])
        | false ↦ filter-thrice a b p rs
      ])
    ]) refl

-- the earlier work of a step is its work in earlier job executions of the job instance
earlier-step : (past : List Entry) (x i : ℕ) (step : List ℕ) → instance_of_execution past x ≡ Some i
    → works_of_step step (filter (is_earlier_work (instance_of_execution past) x) (work_items past))
    ≡ works_before x (works_of_step step (filter (λ work. is_at i (instance_of_execution past work.execution)) (work_items past)))
earlier-step past x i step is =
    ap (λ (o : Option ℕ). works_of_step step (filter (λ row. nat_lt row.execution x && is_same_number o (instance_of_execution past row.execution)) (work_items past))) is
    ∙ filter-thrice (λ row. nat_lt row.execution x) (λ row. is_at i (instance_of_execution past row.execution)) (λ row. bytes_eq row.element step) (work_items past)

kept-by-count : (partitions : Option ℕ) (id : List ℕ) (x : ℕ) (earlier works : List WorkRow) → earlier ≡ works_before x works
    → map (key_of id) (partitions_kept partitions earlier) ≡ map (key_of id) (partitions_kept_in partitions works x)
kept-by-count None id x earlier works is = refl
kept-by-count (Some n) id x earlier works is = ap (λ rows. map (key_of id) (partitions_kept (Some n) rows)) is

-- the kept partitions of a plan
plan-kept : (from : List ℕ) (earlier works : List WorkRow) (x : ℕ) (job : Option JobTree)
    → ((step : List ℕ) → works_of_step step earlier ≡ works_before x (works_of_step step works))
    → (plan_by from earlier job).kept ≡ all_kept_in works x job
plan-kept from earlier works x None same = refl
plan-kept from earlier works x (Some job) same =
    ap (λ (f : JobStep → List WorkKey). flat_map f (all_steps job.elements))
    (fun_ext (λ (s : JobStep). kept-by-count s.step.partitions s.id x (works_of_step s.id earlier) (works_of_step s.id works) (same s.id)))

kept-of-origin : (h : History) (x : ℕ) (o : Option Origin) (row : ExecutionRow) → origin_of (reverse h.log) x ≡ o
    → option_map (row_of_origin h.catalogue (reverse h.log) x) o ≡ Some row
    → row.plan.kept ≡ all_kept_in (works_of_instance_in h row.instance) x (job_named h.catalogue row.job)
kept-of-origin h x None row is found = cc
kept-of-origin h x (Some o) row is found =
    let past : List Entry = reverse h.log in
    let same : row_of_origin h.catalogue past x o ≡ row = cc in
    let instance : instance_of_execution past x ≡ Some o.instance = ap (option_map (λ (o : Origin). o.instance)) is in
    let earlier : List WorkRow = filter (is_earlier_work (instance_of_execution past) x) (work_items past) in
    subst (λ (r : ExecutionRow). r.plan.kept ≡ all_kept_in (works_of_instance_in h r.instance) x (job_named h.catalogue r.job)) same
    (rw is (plan-kept (beginning_of h.catalogue past x) earlier (works_of_instance_in h o.instance) x (job_named h.catalogue o.job)
    (λ step. earlier-step past x o.instance step instance)))

-- a job execution's plan keeps just the partitions that it keeps
pub plan_keeps : (h : History) (x : ℕ) (row : ExecutionRow) → row_in h x ≡ Some row
    → row.plan.kept ≡ all_kept_in (works_of_instance_in h row.instance) x (job_named h.catalogue row.job)
plan_keeps h x row found = kept-of-origin h x (origin_of (reverse h.log) x) row refl found
