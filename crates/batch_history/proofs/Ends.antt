-- Walk, status and end: what is found by search is what the rows have.
use Rattle.std.proofs.Common.{◌≡◌, ℕ, ◌<◌, Bool, true, false, cond, Option, None, Some, List, [], ◌∷◌, find, refl, sym, ◌∙◌, ap}
use Rattle.std.specs.Option.{option_map}
use Rattle.std.proofs.lemmas.Bool.{or_from}
use Rattle.jsl_model.specs.Jobs.{JobTree}
use Rattle.batch_history.specs.declared.call.Entry.{Entry}
use Rattle.batch_history.specs.declared.rows.WorkRow.{WorkRow}
use Rattle.batch_history.proofs.Folds.{made, is_made, start_of, stop_of, end_of, value_after, plan_kept, bare_of}
use Rattle.batch_history.specs.Executions.{Made, Origin, job_execution_count, makes_job_execution, made_as, origin_by_call, origin_of, job_instance_count}
use Rattle.batch_history.specs.Lists.{is_at}
use Rattle.batch_history.specs.Moments.{first_moment, start_moment, status_unless_abandoned, end_moment}
use Rattle.batch_history.specs.Operations.{stop_request}
use Rattle.batch_history.specs.Restarts.{job_of_origin, plan_of, walk_of_execution}
use Rattle.batch_history.specs.Statuses.{batch_status, is_finished, stop_requested}
use Rattle.batch_history.specs.Walks.{walk_of, job_named, facts_by_work}
use Rattle.batch_history.specs.Works.{work_items}
use Rattle.batch_history.proofs.Items.{works-law}
use Rattle.batch_history.proofs.Origins.{making, origin-law}
use Rattle.batch_history.proofs.Pasts.{AllFit}
use Rattle.batch_history.proofs.Plans.{due-all-fit, plan-law}
use Rattle.batch_history.proofs.Times.{fewer-before, making-after, asked-none, none-named, stop-law, start-none, start-made, start-law}
use Rattle.batch_history.proofs.Told.{AllDue}

-- Plan and walk

-- who has an origin was made
made-of : (past : List Entry) (x : ℕ) (o : Origin) → AllFit past → origin_of past x ≡ Some o → find (is_made x) (made past) ≡ Some (made_as x o)
made-of past x o fits is = origin-law past fits x ∙ ap (λ (f : Option Origin). option_map (made_as x) f) is

-- the plan is the one that the rows have
pub planned-law : (limit : ℕ) (catalogue : List JobTree) (past : List Entry) (x : ℕ) (o : Origin) → AllDue limit catalogue past → origin_of past x ≡ Some o
    → plan_of catalogue past x ≡ plan_kept catalogue past x
planned-law limit catalogue past x o due is =
    plan-law limit catalogue past x (made_as x o) due (made-of past x o (due-all-fit limit catalogue past due) is)

-- the walk is the one that the rows have
pub walk-law : (limit : ℕ) (catalogue : List JobTree) (past : List Entry) (x : ℕ) (o : Origin) → AllDue limit catalogue past → origin_of past x ≡ Some o
    → walk_of_execution catalogue past x ≡ value_after catalogue past (made_as x o)
walk-law limit catalogue past x o due is =
    ap (λ p. walk_of p (facts_by_work x (work_items past)) (job_of_origin catalogue (origin_of past x))) (planned-law limit catalogue past x o due is)
    ∙ (ap (λ (f : Option Origin). walk_of (plan_kept catalogue past x) (facts_by_work x (work_items past)) (job_of_origin catalogue f)) is
    ∙ ap (λ (rows : List WorkRow). walk_of (plan_kept catalogue past x) (facts_by_work x rows) (job_named catalogue o.job)) (works-law past (due-all-fit limit catalogue past due)))

-- the status is the one that the rows have
bare-law : (limit : ℕ) (catalogue : List JobTree) (past : List Entry) (x : ℕ) (o : Origin) → AllDue limit catalogue past → origin_of past x ≡ Some o
    → status_unless_abandoned catalogue past x ≡ bare_of catalogue past (made_as x o)
bare-law limit catalogue past x o due is =
    let fits : AllFit past = due-all-fit limit catalogue past due in
    ap (λ b. batch_status b (start_moment past x) (walk_of_execution catalogue past x)) (stop-law past fits x)
    ∙ (ap (λ s. batch_status (stop_of past x) s (walk_of_execution catalogue past x)) (start-law past fits x)
    ∙ ap (batch_status (stop_of past x) (start_of past x)) (walk-law limit catalogue past x o due is))

-- End

-- who has no start and was not asked to stop isn't finished
unfinished : (catalogue : List JobTree) (past : List Entry) (x : ℕ) → stop_requested past x ≡ false → start_moment past x ≡ None
    → is_finished (status_unless_abandoned catalogue past x) ≡ false
unfinished catalogue past x off none =
    ap (λ b. is_finished (batch_status b (start_moment past x) (walk_of_execution catalogue past x))) off
    ∙ ap (λ s. is_finished (batch_status false s (walk_of_execution catalogue past x))) none

end-none : (catalogue : List JobTree) (past : List Entry) → AllFit past → (x : ℕ) → job_execution_count past < x → end_moment catalogue past x ≡ None
end-none catalogue [] fits x lt = refl
end-none catalogue (e ∷ older) fits x lt =
    ap (λ o. first_moment o (is_finished (status_unless_abandoned catalogue (e ∷ older) x)) e.at) (end-none catalogue older fits.1 x (fewer-before older e x lt))
    ∙ ap (λ b. first_moment None b e.at)
    (unfinished catalogue (e ∷ older) x (none-named stop_request asked-none (e ∷ older) fits x lt) (start-none (e ∷ older) fits x lt))

-- who is just made was not asked to stop
stop-made : (older : List Entry) (e : Entry) (x : ℕ) → AllFit (e ∷ older) → makes_job_execution older x e.call ≡ true → stop_requested (e ∷ older) x ≡ false
stop-made older e x fits is =
    let lt : job_execution_count older < x = making-after older x e.call is in
    or_from (is_at x (stop_request e.call)) _ (asked-none older e.call e.reply x fits.0 lt) (none-named stop_request asked-none older fits.1 x lt)

-- where it comes from was known before an entry that does not make it
origin-before : (older : List Entry) (e : Entry) (x : ℕ) (o : Origin) → makes_job_execution older x e.call ≡ false → origin_of (e ∷ older) x ≡ Some o → origin_of older x ≡ Some o
origin-before older e x o is from =
    sym (ap (λ b. cond b (origin_by_call (job_instance_count older) e.at (origin_of older) e.call) (origin_of older x)) is) ∙ from

-- end is the one that the rows have
pub end-law : (limit : ℕ) (catalogue : List JobTree) (past : List Entry) (x : ℕ) (o : Origin) → AllDue limit catalogue past → origin_of past x ≡ Some o
    → end_moment catalogue past x ≡ end_of catalogue past (made_as x o)
end-law limit catalogue [] x o due from = refl
end-law limit catalogue (e ∷ older) x o due from =
    let m : Made = made_as x o in
    let fits : AllFit (e ∷ older) = due-all-fit limit catalogue (e ∷ older) due in
    let done : Bool = is_finished (bare_of catalogue (e ∷ older) m) in
    (elim (makes_job_execution older x e.call) as (λ b. makes_job_execution older x e.call ≡ b
    → first_moment (end_moment catalogue older x) (is_finished (status_unless_abandoned catalogue (e ∷ older) x)) e.at ≡ cond b None (first_moment (end_of catalogue older m) done e.at)) [
      | true ↦ λ is. ap (λ t. first_moment t (is_finished (status_unless_abandoned catalogue (e ∷ older) x)) e.at) (end-none catalogue older fits.1 x (making-after older x e.call is))
          ∙ ap (λ b. first_moment None b e.at) (unfinished catalogue (e ∷ older) x (stop-made older e x fits is) (start-made older e x fits is))
      | false ↦ λ is. ap (λ t. first_moment t (is_finished (status_unless_abandoned catalogue (e ∷ older) x)) e.at) (end-law limit catalogue older x o due.1 (origin-before older e x o is from))
          ∙ ap (λ s. first_moment (end_of catalogue older m) (is_finished s) e.at) (bare-law limit catalogue (e ∷ older) x o due from)
    ]) refl
    ∙ ap (λ b. cond b None (first_moment (end_of catalogue older m) done e.at)) (sym (making older x e.call))
