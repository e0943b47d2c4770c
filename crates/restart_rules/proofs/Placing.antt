-- Job executions with a job in the catalogue, each of which begins at an element of the job's own list.
use Rattle.std.proofs.Common.{◌≡◌, ℕ, suc, ◌<◌, Bool, true, false, cond, Option, None, Some, is_some, IfSome, List, [], ◌∷◌, ◌++◌, find, filter, length, refl, sym, ◌∙◌, ap, subst, arith}
use Rattle.std.specs.List.{All}
use Rattle.std.specs.Str.{bytes_eq}
use Rattle.batch_ids.specs.Parameters.{Pair}
use Rattle.jsl_model.specs.Catalogues.{AreJobs}
use Rattle.jsl_model.specs.Faults.{IsChecked}
use Rattle.jsl_model.specs.Jobs.{JobTree}
use Rattle.jsl_model.specs.declared.element.Element.{Element}
use Rattle.job_plans.specs.Lists.{has_element}
use Rattle.batch_history.specs.Lists.{change_first}
use Rattle.batch_history.specs.Replies.{is_execution, restart_plan, walk_in_rows, works_of_instance}
use Rattle.batch_history.specs.Restarts.{first_plan, plan_by, restart_point}
use Rattle.batch_history.specs.Rows.{Rows}
use Rattle.batch_history.specs.Walks.{facts_by_work, first_element, job_named}
use Rattle.batch_history.specs.declared.rows.ExecutionRow.{ExecutionRow}
use Rattle.restart_rules.specs.Placed.{begins_in_job, is_placed, IsPlaced, ArePlaced}
use Rattle.restart_rules.proofs.Beginning.{begins_after, first_begins}

pub placed_found : (catalogue : List JobTree) (p : ExecutionRow → Bool) (rows : List ExecutionRow) (row : ExecutionRow) → find p rows ≡ Some row → ArePlaced catalogue rows
    → is_placed catalogue row ≡ true
placed_found catalogue p [] row e h = cc
placed_found catalogue p (r ∷ rest) row e h =
    (elim (p r) as (λ b. cond b (Some r) (find p rest) ≡ Some row → is_placed catalogue row ≡ true) [
      | true ↦ λ s. let same : r ≡ row = cc in subst (λ z. is_placed catalogue z ≡ true) same h.0
      | false ↦ λ s. placed_found catalogue p rest row s h.1
    ]) e

pub placed_at : (catalogue : List JobTree) (rows : List ExecutionRow) (x : ℕ) → ArePlaced catalogue rows → IsPlaced catalogue rows x
placed_at catalogue rows x h =
    (elim (find (is_execution x) rows) as (λ o. find (is_execution x) rows ≡ o → IfSome o (λ row. is_placed catalogue row ≡ true)) [
      | None ↦ λ e. tt
      | Some row ↦ λ e. placed_found catalogue (is_execution x) rows row e h
    ]) refl

pub placed_pushed : (catalogue : List JobTree) (rows : List ExecutionRow) (row : ExecutionRow) → ArePlaced catalogue rows → is_placed catalogue row ≡ true
    → ArePlaced catalogue (rows ++ row ∷ [])
placed_pushed catalogue [] row h placed = (placed, tt)
placed_pushed catalogue (r ∷ rest) row h placed = (h.0, placed_pushed catalogue rest row h.1 placed)

-- some of the job executions
pub placed_filtered : (catalogue : List JobTree) (p : ExecutionRow → Bool) (rows : List ExecutionRow) → ArePlaced catalogue rows → ArePlaced catalogue (filter p rows)
placed_filtered catalogue p [] h = tt
placed_filtered catalogue p (row ∷ rest) h =
    elim (p row) as (λ b. ArePlaced catalogue (cond b (row ∷ filter p rest) (filter p rest))) [
      | true ↦ (h.0, placed_filtered catalogue p rest h.1)
      | false ↦ placed_filtered catalogue p rest h.1
    ]

-- the same with one changed that keeps its job and its plan
pub placed_changed : (catalogue : List JobTree) (p : ExecutionRow → Bool) (f : ExecutionRow → ExecutionRow) (rows : List ExecutionRow)
    → ((row : ExecutionRow) → is_placed catalogue (f row) ≡ is_placed catalogue row) → ArePlaced catalogue rows → ArePlaced catalogue (change_first p f rows)
placed_changed catalogue p f [] same h = tt
placed_changed catalogue p f (row ∷ rest) same h =
    elim (p row) as (λ b. ArePlaced catalogue (cond b (f row ∷ rest) (row ∷ change_first p f rest))) [
      | true ↦ (same row ∙ h.0, h.1)
      | false ↦ (h.0, placed_changed catalogue p f rest same h.1)
    ]

-- ---- Where a job begins

-- what holds of each holds of the one that is found
found-of-all : {X : Type 0} (P : X → Type 0) (p : X → Bool) (xs : List X) (x : X) → All P xs → find p xs ≡ Some x → P x
found-of-all P p [] x all e = cc
found-of-all P p (y ∷ ys) x all e =
    (elim (p y) as (λ b. cond b (Some y) (find p ys) ≡ Some x → P x) [
      | true ↦ λ s. let same : y ≡ x = cc in subst P same (all 0 y (omega arith))
      | false ↦ λ s. found-of-all P p ys x (λ k d lt. all (suc k) d (omega (arith, lt))) s
    ]) e

pub named_checked : (catalogue : List JobTree) (name : List ℕ) (job : JobTree) → AreJobs catalogue → job_named catalogue name ≡ Some job → IsChecked job
named_checked catalogue name job jobs is = found-of-all IsChecked (λ (j : JobTree). bytes_eq j.id name) catalogue job jobs.checked is

first-of-list : (elements : List Element) → 0 < length elements → has_element elements (first_element elements) ≡ true
first-of-list [] some = absurd (omega (arith, some))
first-of-list (e ∷ rest) some = first_begins e rest

-- a job begins at an element of its own list
pub first_placed : (catalogue : List JobTree) (name : List ℕ) → AreJobs catalogue → (o : Option JobTree) → job_named catalogue name ≡ o → is_some o ≡ true
    → begins_in_job (first_plan o) o ≡ true
first_placed catalogue name jobs None is some = cc
first_placed catalogue name jobs (Some job) is some = first-of-list job.elements (named_checked catalogue name job jobs is).has_elements

-- a restart of a job execution begins at one too
again-by : (r : Rows) (row : ExecutionRow) → AreJobs r.catalogue → (o : Option JobTree) → job_named r.catalogue row.job ≡ o → begins_in_job row.plan o ≡ true
    → begins_in_job (restart_plan r row) (job_named r.catalogue row.job) ≡ true
again-by r row jobs None is placed = cc
again-by r row jobs (Some job) is placed =
    let point : List ℕ = restart_point (is_some row.start) (walk_in_rows r row) row.plan.from in
    begins_after job (named_checked r.catalogue row.job job jobs is) row.plan (job_named r.catalogue row.job) (facts_by_work row.execution r.works) (is_some row.start)
    (walk_in_rows r row) point (works_of_instance r row.instance) (restart_plan r row) is (ap (begins_in_job row.plan) is ∙ placed) refl refl
    (ap (plan_by point (works_of_instance r row.instance)) is)

pub again_placed : (r : Rows) (row : ExecutionRow) → AreJobs r.catalogue → is_placed r.catalogue row ≡ true → begins_in_job (restart_plan r row) (job_named r.catalogue row.job) ≡ true
again_placed r row jobs placed = again-by r row jobs (job_named r.catalogue row.job) refl placed
